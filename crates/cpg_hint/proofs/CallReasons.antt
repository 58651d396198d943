-- a reason for the words behind the name of a call, where they say no call
use Rattle.std.proofs.Common.{◌≡◌, ℕ, ◌+◌, Bool, true, false, not, List, [], ◌∷◌, codes, Option, Some, None, is_some, refl}
use Rattle.std.specs.Prelude.{if◌then◌else◌}
use Rattle.std.specs.Option.{ok_or}
use Rattle.cpg_print.specs.Calls.{call_of, join_of, leave_of, send_of, insert_of, remove_of}
use Rattle.cpg_print.specs.Rules.{rule_of}
use Rattle.cpg_hint.specs.declared.patterns.Expected.{Expected}
use Rattle.cpg_hint.specs.declared.patterns.Expected.TheVariants as expected
use Rattle.cpg_hint.specs.declared.words.Mismatch.{Mismatch}
use Rattle.cpg_hint.specs.Patterns.{first_mismatch, or_mismatch}
use Rattle.cpg_hint.proofs.Fitting.{read_on, read_then, read_last, mismatch_later, no_later, by_name}

pub join_why : (nodes index : ℕ) (words : List (List ℕ)) → is_some (join_of words) ≡ not (is_some (first_mismatch nodes index (expected.Group ∷ []) words))
join_why nodes index [] = refl
join_why nodes index (g ∷ []) = refl
join_why nodes index (g ∷ x ∷ more) = refl

pub leave_why : (nodes index : ℕ) (words : List (List ℕ)) → is_some (leave_of words) ≡ not (is_some (first_mismatch nodes index [] words))
leave_why nodes index [] = refl
leave_why nodes index (x ∷ more) = refl

pub send_why : (nodes index : ℕ) (words : List (List ℕ)) → is_some (send_of words) ≡ not (is_some (first_mismatch nodes index (expected.Text ∷ []) words))
send_why nodes index [] = refl
send_why nodes index (text ∷ []) = search (read_last)
send_why nodes index (text ∷ x ∷ more) = search (no_later)

pub remove_why : (nodes index : ℕ) (words : List (List ℕ)) → is_some (remove_of words) ≡ not (is_some (first_mismatch nodes index (expected.Group ∷ expected.Id ∷ []) words))
remove_why nodes index [] = refl
remove_why nodes index (g ∷ []) = refl
remove_why nodes index (g ∷ id ∷ []) = search (read_last)
remove_why nodes index (g ∷ id ∷ x ∷ more) = search (no_later, mismatch_later)

pub insert_why : (nodes index : ℕ) (words : List (List ℕ))
    → is_some (insert_of words) ≡ not (is_some (first_mismatch nodes index (expected.Group ∷ expected.Position ∷ expected.Effect ∷ expected.Right ∷ expected.Who ∷ []) words))
unfolding rule_of
insert_why nodes index [] = refl
insert_why nodes index (g ∷ []) = refl
insert_why nodes index (g ∷ p ∷ []) = search (no_later, mismatch_later)
insert_why nodes index (g ∷ p ∷ e ∷ []) = search (no_later, mismatch_later)
insert_why nodes index (g ∷ p ∷ e ∷ r ∷ []) = search (read_on, read_then)
insert_why nodes index (g ∷ p ∷ e ∷ r ∷ w ∷ []) = search (read_on, read_then)
insert_why nodes index (g ∷ p ∷ e ∷ r ∷ w ∷ x ∷ more) = search (read_on, read_then, no_later)

-- no word is a call that is none of the five
none_named : {A : Type 0} (j l s i r : Bool) (a b c d e : Option A) (v w x y z : List Expected) (index : ℕ) (more : List Expected → Option Mismatch)
    → j ≡ false → l ≡ false → s ≡ false → i ≡ false → r ≡ false
    → is_some (if j then a else if l then b else if s then c else if i then d else if r then e else None)
    ≡ not (is_some (or_mismatch index (ok_or (if j then Some v else if l then Some w else if s then Some x else if i then Some y else if r then Some z else None) expected.Call) more))
none_named false false false false false a b c d e v w x y z index more p q t u o = refl
none_named true l s i r a b c d e v w x y z index more p q t u o = cc
none_named false true s i r a b c d e v w x y z index more p q t u o = cc
none_named false false true i r a b c d e v w x y z index more p q t u o = cc
none_named false false false true r a b c d e v w x y z index more p q t u o = cc
none_named false false false false true a b c d e v w x y z index more p q t u o = cc

-- a reason for the words of a CALL
pub call_why : (nodes index : ℕ) (words : List (List ℕ)) → is_some (call_of words) ≡ not (is_some (first_mismatch nodes index (expected.Call ∷ []) words))
call_why nodes index [] = refl
call_why nodes index (word ∷ words) =
    let P : List ℕ → Type 0 = λ w. is_some (call_of (w ∷ words)) ≡ not (is_some (first_mismatch nodes index (expected.Call ∷ []) (w ∷ words))) in
    by_name P word (codes "join") (join_why nodes (index + 1) words) (λ j.
    by_name P word (codes "leave") (leave_why nodes (index + 1) words) (λ l.
    by_name P word (codes "send") (send_why nodes (index + 1) words) (λ s.
    by_name P word (codes "insert") (insert_why nodes (index + 1) words) (λ i.
    by_name P word (codes "remove") (remove_why nodes (index + 1) words) (λ r. none_named _ _ _ _ _ _ _ _ _ _ _ _ _ _ _ _ _ j l s i r)))))
