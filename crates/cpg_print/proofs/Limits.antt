-- the limits of what words say, before it is read
use Rattle.std.proofs.Common.{◌≡◌, ◌<◌, arith, ℕ, List, [], ◌∷◌, length, Bool, true, false, Option, Some, None, option_map, is_some, refl, sym}
use Rattle.std.specs.Prelude.{codes, if◌then◌else◌}
use Rattle.std.specs.Str.{bytes_eq}
use Rattle.std.specs.Borrow.{Bor}
use Rattle.std.proofs.lemmas.Slice.Eq.{bytes_eq-Decides}
use Rattle.cpg_rules.specs.declared.rules.Rule.{Rule}
use Rattle.cpg_entry.specs.declared.calls.Call.{Call}
use Rattle.cpg_entry.specs.declared.calls.Call.TheVariants.{Join, Send, Insert, Remove}
use Rattle.cpg_entry.specs.declared.calls.Op.{Op}
use Rattle.cpg_entry.specs.declared.calls.Op.TheVariants.{Act, Gone}
use Rattle.cpg_entry.specs.Names.{is_name}
use Rattle.cpg_text.specs.Numbers.{number_in}
use Rattle.cpg_text.specs.Percent.{message_of}
use Rattle.cpg_text.specs.Words.{◌>>=◌, u32_of}
use Rattle.cpg_print.specs.Calls.{insert_at, insert_of, is_enterable, join_of, leave_of, op_of, remove_of, send_of}
use Rattle.cpg_print.specs.Entries.{enterable_op}
use Rattle.cpg_print.specs.Rules.{rule_of}
use Rattle.cpg_print.specs.Steps.{is_short, keeps_limits, sends_few}
use Rattle.cpg_print.specs.Words.{texts}

-- whether an op is there and within the limits
abbrev enters : Option Op → Bool
enters found = is_some (found >>= λ op. if is_enterable op then Some op else None)

-- an op is within the limits as its test says
one_enters : (op : Op) → enters (Some op) ≡ is_enterable op
one_enters op = by_test (is_enterable op)
  where
    by_test : (b : Bool) → is_some (if b then Some op else None) ≡ b
    by_test false = refl
    by_test true = refl

-- of a message
sent : (message : Option (List ℕ)) → is_some (option_map (λ call. Act call) (option_map (λ m. Send m) message)) ≡ true →
    is_short (option_map (λ m. length m) message) ≡ enters (option_map (λ call. Act call) (option_map (λ m. Send m) message))
sent None is = cc
sent (Some message) is = sym (one_enters (Act (Send message)))

-- of a rule that is inserted
inserted : (g : List ℕ) (position : Option ℕ) (rule : Option Rule) → is_some (option_map (λ call. Act call) (insert_at g position rule)) ≡ true →
    is_name g ≡ enters (option_map (λ call. Act call) (insert_at g position rule))
inserted g None rule is = cc
inserted g (Some index) None is = cc
inserted g (Some index) (Some rule) is = sym (one_enters (Act (Insert g index rule)))

-- of a rule that is removed
removed : (g : List ℕ) (number : Option ℕ) → is_some (option_map (λ call. Act call) (option_map (λ id. Remove g id) number)) ≡ true →
    is_name g ≡ enters (option_map (λ call. Act call) (option_map (λ id. Remove g id) number))
removed g None is = cc
removed g (Some id) is = sym (one_enters (Act (Remove g id)))

-- by the first word
abbrev call_by : (join leave send insert remove : Bool) → List (List ℕ) → Option Call
call_by join leave send insert remove arguments =
    if join then join_of arguments
    else if leave then leave_of arguments
    else if send then send_of arguments
    else if insert then insert_of arguments
    else if remove then remove_of arguments
    else None

with_arguments : (argument : List ℕ) (more : List (List ℕ)) (join leave send insert remove : Bool) → (join ≡ true → send ≡ false) →
    is_some (option_map (λ call. Act call) (call_by join leave send insert remove (argument ∷ more))) ≡ true →
    (if send then sends_few argument else is_name argument) ≡ enters (option_map (λ call. Act call) (call_by join leave send insert remove (argument ∷ more)))
with_arguments argument [] true leave send insert remove other is = rw (other refl) (sym (one_enters (Act (Join argument))))
with_arguments argument (next ∷ more) true leave send insert remove other is = cc
with_arguments argument more false true send insert remove other is = cc
with_arguments argument [] false false true insert remove other is = sent (message_of argument) is
with_arguments argument (next ∷ more) false false true insert remove other is = cc
with_arguments argument (position ∷ effect ∷ right ∷ who) false false false true remove other is =
    inserted argument (number_in 0 255 position) (rule_of effect right who) is
with_arguments argument [] false false false true remove other is = cc
with_arguments argument (a ∷ []) false false false true remove other is = cc
with_arguments argument (a ∷ b ∷ []) false false false true remove other is = cc
with_arguments argument (id ∷ []) false false false false true other is = removed argument (u32_of id) is
with_arguments argument [] false false false false true other is = cc
with_arguments argument (a ∷ b ∷ more) false false false false true other is = cc
with_arguments argument more false false false false false other is = cc

alone : (gone join leave send insert remove : Bool) →
    is_some (if gone then Some Gone else option_map (λ call. Act call) (call_by join leave send insert remove [])) ≡ true →
    true ≡ enters (if gone then Some Gone else option_map (λ call. Act call) (call_by join leave send insert remove []))
alone true join leave send insert remove is = refl
alone false true leave send insert remove is = cc
alone false false true send insert remove is = refl
alone false false false true insert remove is = cc
alone false false false false true remove is = cc
alone false false false false false true is = cc
alone false false false false false false is = cc

-- what joins does not send
joins_alone : (word : List ℕ) → bytes_eq word (codes "join") ≡ true → bytes_eq word (codes "send") ≡ false
joins_alone word is =
    let same : word ≡ codes "join" = (bytes_eq-Decides word (codes "join")).0 is in
    rw same refl

-- the limits are those of what is read
pub limits_kept : (words : List (List ℕ)) → is_some (op_of words) ≡ true → keeps_limits words ≡ is_some (enterable_op words)
limits_kept [] is = cc
limits_kept (word ∷ []) is = alone (bytes_eq word (codes "gone")) (bytes_eq word (codes "join")) (bytes_eq word (codes "leave")) (bytes_eq word (codes "send")) (bytes_eq word (codes "insert")) (bytes_eq word (codes "remove")) is
limits_kept (word ∷ argument ∷ more) is =
    with_arguments argument more (bytes_eq word (codes "join")) (bytes_eq word (codes "leave")) (bytes_eq word (codes "send")) (bytes_eq word (codes "insert")) (bytes_eq word (codes "remove")) (joins_alone word) is

-- what is left of fewer than two words
pub limits_of_short : (words : List (Bor (List ℕ))) → length words < 2 → keeps_limits (texts words) ≡ true
limits_of_short [] short = refl
limits_of_short (a ∷ []) short = refl
limits_of_short (a ∷ b ∷ more) short = absurd (omega arith)
