-- a reason for each line that is no entry
use Rattle.std.proofs.Common.{◌≡◌, ℕ, Bool, true, false, not, List, [], ◌∷◌, codes, Option, Some, None, IfSome, is_some, option_map, length, refl, ◌∙◌}
use Rattle.std.specs.Prelude.{nat_le, if◌then◌else◌}
use Rattle.std.specs.Option.{ok_or}
use Rattle.std.specs.Str.{bytes_eq}
use Rattle.cpg_entry.specs.Names.{is_name}
use Rattle.cpg_entry.specs.declared.messages.TheConstants.{MOST_MESSAGE_BYTES}
use Rattle.cpg_entry.specs.declared.calls.Call.{Call}
use Rattle.cpg_entry.specs.declared.calls.Call.TheVariants.{Join, Send, Remove}
use Rattle.cpg_entry.specs.declared.calls.Op.{Op}
use Rattle.cpg_entry.specs.declared.calls.Op.TheVariants.{Act, Gone}
use Rattle.cpg_rules.specs.declared.rules.Rule.{Rule}
use Rattle.cpg_text.specs.Percent.{message_of}
use Rattle.cpg_text.specs.Numbers.{number_in}
use Rattle.cpg_text.specs.Words.{◌>>=◌, u32_of}
use Rattle.cpg_print.specs.Calls.{insert_at, insert_of, remove_of, is_enterable, is_gone, is_within_limits}
use Rattle.cpg_print.specs.Entries.{entry_of, enterable_op}
use Rattle.cpg_print.specs.Rules.{rule_of}
use Rattle.cpg_print.specs.Steps.{is_short}
use Rattle.cpg_print.proofs.Somes.{mapped}
use Rattle.cpg_hint.specs.declared.patterns.Expected.{Expected}
use Rattle.cpg_hint.specs.declared.patterns.Expected.TheVariants as expected
use Rattle.cpg_hint.specs.declared.words.Mismatch.{Mismatch}
use Rattle.cpg_hint.specs.Patterns.{first_mismatch, or_mismatch}
use Rattle.cpg_hint.specs.Reasons.{why_no_entry}
use Rattle.cpg_hint.proofs.CallReasons.{insert_why, remove_why}
use Rattle.cpg_hint.proofs.Fitting.{read_then, mismatch_later, no_later, by_name}

-- the call, where it is within its limits
abbrev entered : Option Call → Option Op
entered call = option_map (λ c. Act c) call >>= λ op. if is_enterable op then Some op else None

-- a call is entered as its limits say
entered_as : (b c : Bool) (op : Op) → b ≡ c → is_some (if b then Some op else None) ≡ c
entered_as true c op e = e
entered_as false c op e = e

-- a limit that the first word tells is told before the words behind it
limit_first : (call : Option Call) (b : Bool) (later : List Expected) (expected : Expected) (index : ℕ) (more : List Expected → Option Mismatch)
    → IfSome call (λ c. is_within_limits c ≡ b) → is_some call ≡ not (is_some (more later))
    → is_some (entered call) ≡ not (is_some (or_mismatch index (ok_or (if b then Some later else None) expected) more))
limit_first None true later expected index more limited h = h
limit_first None false later expected index more limited h = refl
limit_first (Some call) true later expected index more limited h = entered_as (is_within_limits call) true (Act call) limited ∙ h
limit_first (Some call) false later expected index more limited h = entered_as (is_within_limits call) false (Act call) limited

join_op : (words : List (List ℕ)) → is_some (enterable_op (codes "join" ∷ words)) ≡ not (is_some (first_mismatch 0 5 (expected.Name ∷ []) words))
join_op [] = refl
join_op (g ∷ []) = limit_first (Some (Join g)) (is_name g) [] expected.Name 5 (λ later. first_mismatch 0 6 later []) refl refl
join_op (g ∷ x ∷ more) = search (no_later)

leave_op : (words : List (List ℕ)) → is_some (enterable_op (codes "leave" ∷ words)) ≡ not (is_some (first_mismatch 0 5 [] words))
leave_op [] = refl
leave_op (x ∷ more) = refl

gone_op : (words : List (List ℕ)) → is_some (enterable_op (codes "gone" ∷ words)) ≡ not (is_some (first_mismatch 0 5 [] words))
gone_op [] = refl
gone_op (x ∷ more) = refl

-- a message is entered where it is not too long
message_op : (message : Option (List ℕ)) → is_some (entered (option_map (λ m. Send m) message))
    ≡ not (is_some (or_mismatch 5 (ok_or (if is_short (option_map (λ m. length m) message) then Some [] else None) expected.Message) (λ later. first_mismatch 0 6 later [])))
message_op None = refl
message_op (Some message) = limit_first (Some (Send message)) (nat_le (length message) MOST_MESSAGE_BYTES) [] expected.Message 5 (λ later. first_mismatch 0 6 later []) refl refl

send_op : (words : List (List ℕ)) → is_some (enterable_op (codes "send" ∷ words)) ≡ not (is_some (first_mismatch 0 5 (expected.Message ∷ []) words))
send_op [] = refl
send_op (text ∷ []) = message_op (message_of text)
send_op (text ∷ x ∷ more) = search (no_later)

-- the limits of an insert and of a remove are those of their name
insert_limits : (g : List ℕ) (position : Option ℕ) (rule : Option Rule) → IfSome (insert_at g position rule) (λ c. is_within_limits c ≡ is_name g)
insert_limits g None rule = tt
insert_limits g (Some index) None = tt
insert_limits g (Some index) (Some rule) = refl

remove_limits : (g : List ℕ) (id : Option ℕ) → IfSome (option_map (λ number. Remove g number) id) (λ c. is_within_limits c ≡ is_name g)
remove_limits g None = tt
remove_limits g (Some id) = refl

-- where no insert and no remove is said there is none to enter
none_entered : (call : Option Call) → is_some call ≡ false → is_some (entered call) ≡ false
none_entered None h = refl
none_entered (Some call) h = cc

insert_op : (words : List (List ℕ))
    → is_some (enterable_op (codes "insert" ∷ words)) ≡ not (is_some (first_mismatch 0 5 (expected.Name ∷ expected.Position ∷ expected.Effect ∷ expected.Right ∷ expected.Who ∷ []) words))
insert_op [] = refl
insert_op (g ∷ []) = limit_first None (is_name g) (expected.Position ∷ expected.Effect ∷ expected.Right ∷ expected.Who ∷ []) expected.Name 5 (λ later. first_mismatch 0 6 later []) tt (insert_why 0 5 (g ∷ []))
insert_op (g ∷ p ∷ []) = limit_first None (is_name g) (expected.Position ∷ expected.Effect ∷ expected.Right ∷ expected.Who ∷ []) expected.Name 5 (λ later. first_mismatch 0 6 later (p ∷ [])) tt (insert_why 0 5 (g ∷ p ∷ []))
insert_op (g ∷ p ∷ e ∷ []) = limit_first None (is_name g) (expected.Position ∷ expected.Effect ∷ expected.Right ∷ expected.Who ∷ []) expected.Name 5 (λ later. first_mismatch 0 6 later (p ∷ e ∷ [])) tt (insert_why 0 5 (g ∷ p ∷ e ∷ []))
insert_op (g ∷ p ∷ e ∷ r ∷ who) =
    limit_first (insert_of (g ∷ p ∷ e ∷ r ∷ who)) (is_name g) (expected.Position ∷ expected.Effect ∷ expected.Right ∷ expected.Who ∷ []) expected.Name 5 (λ later. first_mismatch 0 6 later (p ∷ e ∷ r ∷ who))
    (insert_limits g (number_in 0 255 p) (rule_of e r who)) (insert_why 0 5 (g ∷ p ∷ e ∷ r ∷ who))

remove_op : (words : List (List ℕ)) → is_some (enterable_op (codes "remove" ∷ words)) ≡ not (is_some (first_mismatch 0 5 (expected.Name ∷ expected.Id ∷ []) words))
remove_op [] = refl
remove_op (g ∷ []) = search (no_later)
remove_op (g ∷ id ∷ []) =
    limit_first (remove_of (g ∷ id ∷ [])) (is_name g) (expected.Id ∷ []) expected.Name 5 (λ later. first_mismatch 0 6 later (id ∷ [])) (remove_limits g (u32_of id)) (remove_why 0 5 (g ∷ id ∷ []))
remove_op (g ∷ id ∷ x ∷ more) = search (no_later, mismatch_later)

-- words that do not begin with `gone` are no end
not_gone : (word : List ℕ) (words : List (List ℕ)) → bytes_eq word (codes "gone") ≡ false → is_gone (word ∷ words) ≡ false
not_gone word [] e = e
not_gone word (x ∷ more) e = refl

-- no word is a call or `gone` that is none of the six
none_named : (k j l s i r o : Bool) (a b c d e : Option Call) (v w x y z u : List Expected) (index : ℕ) (more : List Expected → Option Mismatch)
    → k ≡ false → j ≡ false → l ≡ false → s ≡ false → i ≡ false → r ≡ false → o ≡ false
    → is_some ((if k then Some Gone else option_map (λ call. Act call) (if j then a else if l then b else if s then c else if i then d else if r then e else None)) >>= λ op. if is_enterable op then Some op else None)
    ≡ not (is_some (or_mismatch index (ok_or (if j then Some v else if l then Some w else if s then Some x else if i then Some y else if r then Some z else if o then Some u else None) expected.Op) more))
none_named false false false false false false false a b c d e v w x y z u index more f0 f1 f2 f3 f4 f5 f6 = refl
none_named true j l s i r o a b c d e v w x y z u index more f0 f1 f2 f3 f4 f5 f6 = cc
none_named false true l s i r o a b c d e v w x y z u index more f0 f1 f2 f3 f4 f5 f6 = cc
none_named false false true s i r o a b c d e v w x y z u index more f0 f1 f2 f3 f4 f5 f6 = cc
none_named false false false true i r o a b c d e v w x y z u index more f0 f1 f2 f3 f4 f5 f6 = cc
none_named false false false false true r o a b c d e v w x y z u index more f0 f1 f2 f3 f4 f5 f6 = cc
none_named false false false false false true o a b c d e v w x y z u index more f0 f1 f2 f3 f4 f5 f6 = cc
none_named false false false false false false true a b c d e v w x y z u index more f0 f1 f2 f3 f4 f5 f6 = cc

-- a reason for the words of a CALL or `gone`
pub op_why : (words : List (List ℕ)) → is_some (enterable_op words) ≡ not (is_some (first_mismatch 0 4 (expected.Op ∷ []) words))
op_why [] = refl
op_why (word ∷ words) =
    let P : List ℕ → Type 0 = λ w. is_some (enterable_op (w ∷ words)) ≡ not (is_some (first_mismatch 0 4 (expected.Op ∷ []) (w ∷ words))) in
    by_name P word (codes "join") (join_op words) (λ j.
    by_name P word (codes "leave") (leave_op words) (λ l.
    by_name P word (codes "send") (send_op words) (λ s.
    by_name P word (codes "insert") (insert_op words) (λ i.
    by_name P word (codes "remove") (remove_op words) (λ r.
    by_name P word (codes "gone") (gone_op words) (λ o. none_named _ _ _ _ _ _ _ _ _ _ _ _ _ _ _ _ _ _ _ _ (not_gone word words o) j l s i r o))))))

op_mapped : {A : Type 0} (f : Op → A) (words : List (List ℕ)) → is_some (option_map f (enterable_op words)) ≡ not (is_some (first_mismatch 0 4 (expected.Op ∷ []) words))
op_mapped f words = mapped f (enterable_op words) ∙ op_why words

-- a reason for each line that is no entry
pub entry_why : (words : List (List ℕ)) → is_some (entry_of words) ≡ not (is_some (why_no_entry words))
entry_why [] = refl
entry_why (c ∷ []) = search (no_later)
entry_why (c ∷ p ∷ []) = search (no_later, mismatch_later)
entry_why (c ∷ p ∷ u ∷ []) = search (no_later, mismatch_later)
entry_why (c ∷ p ∷ u ∷ g ∷ words) = search (read_then, op_mapped)
