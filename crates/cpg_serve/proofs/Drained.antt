-- Connections take all that the ring tells them so far.
use Rattle.std.proofs.Common.{◌≡◌, ◌≢◌, ◌⊎◌, ◌≤◌, ◌<◌, ℕ, zero, suc, Bool, true, false, is_some, List, [], ◌∷◌, ◌++◌, length, Option, Some, None, Ok, Err, Result, refl, sym, ap, subst, ◌∙◌, arith, ⊎_elim}
use Rattle.std.specs.Prelude.{option_to_list}
use Rattle.std.proofs.lemmas.Bool.{cases_eq}
use Rattle.cpg_record.specs.declared.events.Event.{Event}
use Rattle.cpg_cred.specs.declared.refusals.Refusal.{Refusal}
use Rattle.cpg_ring.proofs.Lists.{item_with_other}
use Rattle.cpg_node.specs.declared.connections.Client.{Client}
use Rattle.cpg_node.specs.Nodes.{NodeValue, if_open, open_client}
use Rattle.cpg_node.specs.Calls.{counted, next_event, node_after_take, took}
use Rattle.cpg_node.specs.Answers.{IsTakeAnswer}
use Rattle.cpg_ask.specs.declared.greetings.Greeting.{Greeting}
use Rattle.cpg_serve.specs.Telling.{new_desk}
use Rattle.cpg_serve.specs.Asking.{at_of}
use Rattle.cpg_serve.specs.Coming.{IsCounted, IsTold, next_by, next_of, rest_of}
use Rattle.cpg_serve.specs.Carrying.{HasGiven, HasTaken, HaveGiven, rest_for}
use Rattle.cpg_serve.specs.Stories.{IsQuiet}
use Rattle.cpg_serve.proofs.Coming.{fetched_left, none_left}
use Rattle.cpg_serve.proofs.Noted.{inbox_quiet, rest_quiet}

take_is : (conn : ℕ) (x : NodeValue) (o : Option Client) (event : Option Event) → IsTakeAnswer x conn o (Ok event) → event ≡ next_by x conn o
take_is conn x None event h = let e = h in absurd cc
take_is conn x (Some c) event h = h

told_by : (o : Option Event) (old new : List Event) → option_to_list o ++ new ≡ old → (o ≡ None → old ≡ []) → IsTold (is_some o) old new
told_by None old new e none = e ∙ none refl
told_by (Some event) old new e none = ap (λ (l : List Event). length l) (sym e)

-- one event fewer is left, or none is
pub told_one : (conn : ℕ) (x y : NodeValue) (event : Option Event) → IsTakeAnswer x conn (open_client x conn) (Ok event) → y ≡ took x conn → IsTold (is_some event) (rest_for x conn) (rest_for y conn)
told_one conn x y event h is =
    let greeting : Greeting = record { node = 1; nodes = 1; ring = 0 } in
    let e : event ≡ next_of x conn = take_is conn x (open_client x conn) event h in
    let left = fetched_left conn (at_of x (new_desk greeting)) refl in
    subst (λ (z : NodeValue). IsTold (is_some event) (rest_for x conn) (rest_for z conn)) (sym is)
    (subst (λ (o : Option Event). IsTold (is_some o) (rest_for x conn) (rest_for (took x conn) conn)) (sym e)
    (told_by (next_of x conn) (rest_for x conn) (rest_for (took x conn) conn) left (λ none. none_left conn (at_of x (new_desk greeting)) refl none)))

-- a connection that is not open takes nothing
pub closed_rest : (conn : ℕ) (x : NodeValue) → open_client x conn ≡ None → rest_for x conn ≡ []
closed_rest conn x e = ap (rest_of x conn) e

-- ---- one connection after another

pub given_none : (x : NodeValue) → HaveGiven 0 x x
given_none x = record { ring = refl; list = refl; clients = refl; counted = λ h. h; given = λ conn low. first conn low }
  where
    first : (conn : ℕ) → conn ≤ 0 → rest_for x conn ≡ []
    first zero low = refl
    first (suc conn) low = absurd (omega arith)

pub given_more : (last next : ℕ) (x y z : NodeValue) → next ≡ suc last → HaveGiven last x y → HasGiven next y z → HaveGiven next x z
given_more last next x y z is h k = record {
  ring = k.0.ring ∙ h.ring;
  list = k.0.list ∙ h.list;
  clients = k.0.clients ∙ h.clients;
  counted = λ all conn. ⊎_elim
      (λ (own : conn ≡ next). subst (λ (n : ℕ). IsCounted n z) (sym own) (k.0.counted (h.counted all next)))
      (λ (other : conn ≢ next). still_counted conn other (h.counted all conn))
      (cases_eq conn next);
  given = λ conn low. ⊎_elim
      (λ (own : conn ≡ next). subst (λ (n : ℕ). rest_for z n ≡ []) (sym own) k.1)
      (λ (other : conn ≢ next). still conn other ∙ h.given conn (omega arith))
      (cases_eq conn next);
}
  where
    quiet : (conn : ℕ) → conn ≢ next → IsQuiet conn y z
    quiet conn other = record { records = rw k.0.ring refl; node = ap (λ r. r.node) k.0.ring; client = k.0.others conn other }

    still : (conn : ℕ) → conn ≢ next → rest_for z conn ≡ rest_for y conn
    still conn other = ap (rest_of z conn) (ap if_open (k.0.others conn other)) ∙ rest_quiet conn y z (open_client y conn) (inbox_quiet conn y z (quiet conn other))

    still_counted : (conn : ℕ) → conn ≢ next → IsCounted conn y → IsCounted conn z
    still_counted conn other h = λ c found. subst (λ (l : List Event). c.taken ≤ length l) (sym (inbox_quiet conn y z (quiet conn other))) (h c (sym (ap if_open (k.0.others conn other)) ∙ found))
