-- How a node's records and its seat stay together.
use Rattle.std.proofs.Common.{◌≡◌, ◌≢◌, ◌≤◌, ◌+◌, ℕ, suc, Bool, List, [], ◌∷◌, ◌++◌, length, take, refl, sym, ap, ◌∙◌, subst, Option, Some, None, slice_get, arith, option_map, is_some, if◌then◌else◌}
use Rattle.std.proofs.lemmas.List.{length-append, length-map, take_at, take_all}
use Rattle.std.proofs.lemmas.List.Sums.{fold_push}
use Rattle.std.proofs.lemmas.Option.{none-some, same_Some}
use Rattle.cpg_record.specs.declared.records.Record.{Record}
use Rattle.cpg_record.specs.Judging.{judged, with_judgement, record_of}
use Rattle.cpg_record.specs.Places.{record_at}
use Rattle.cpg_ring.specs.States.{Entry, NodeState}
use Rattle.cpg_ring.specs.Worlds.{RingOutcome}
use Rattle.cpg_ring.specs.Moves.{next_entry, after_delivery}
use Rattle.cpg_node.specs.Nodes.{NodeValue, delivered_entries}
use Rattle.cpg_node.specs.Calls.{next_record, place_to_deliver, node_after_delivery}
use Rattle.cpg_node.proofs.Keeping.{delivered_more}
use Rattle.cpg_board.specs.Seats.{SeatValue, records_of}
use Rattle.cpg_board.proofs.Known.{take_next}
use Rattle.cpg_station.specs.Delivering.{IsAnother}
use Rattle.cpg_station.specs.Stations.{audit_of, Keeps}

-- ---- a record more on the seat

-- where the seat knows no more than the node, it knows the node's records
level : (audit : List Record) (seat : SeatValue) → Keeps audit seat → length seat ≤ length audit → records_of seat ≡ audit
level audit seat keeps short =
    let m : length (records_of seat) ≡ length seat = length-map seat (λ (k : ℕ × Record). k.1) in
    let below : length (records_of seat) ≤ length audit = omega (arith, m, short) in
    sym (take_all (length audit) (records_of seat) below) ∙ keeps.0

get_end : (xs : List Record) (y : Record) → slice_get (xs ++ y ∷ []) (length xs) ≡ Some y
get_end [] y = refl
get_end (x ∷ xs) y = get_end xs y

-- such a seat with a record more
pub settled : (audit : List Record) (before after : SeatValue) (y : Record) → Keeps audit before → length before ≤ length audit → records_of after ≡ records_of before ++ y ∷ [] → Keeps audit after
settled audit before after y keeps short is =
    let same = is ∙ ap (λ l. l ++ y ∷ []) (level audit before keeps short) in
    let m : length (records_of after) ≡ length after = length-map after (λ (k : ℕ × Record). k.1) in
    let long : length (records_of after) ≡ length audit + 1 = ap length same ∙ length-append audit (y ∷ []) in
    (ap (take (length audit)) same ∙ take_at audit (y ∷ []) (length audit) refl, omega (arith, m, long))

pub settled_at : (audit : List Record) (before after : SeatValue) (y : Record) → Keeps audit before → length before ≤ length audit → records_of after ≡ records_of before ++ y ∷ [] → record_at (records_of after) (suc (length audit)) ≡ Some y
settled_at audit before after y keeps short is = ap (λ l. slice_get l (length audit)) (is ∙ ap (λ l. l ++ y ∷ []) (level audit before keeps short)) ∙ get_end audit y

pub settled_other : (audit : List Record) (before after : SeatValue) (y wanted : Record) → Keeps audit before → length before ≤ length audit → records_of after ≡ records_of before ++ y ∷ [] → y ≢ wanted
    → IsAnother (record_at (records_of after) (suc (length audit))) wanted
settled_other audit before after y wanted keeps short is other = (y, settled_at audit before after y keeps short is, other)

-- ---- a place more at the node

-- a node's record more, which the seat knows at its place
pub kept_more : (audit : List Record) (seat : SeatValue) (x : Record) → Keeps audit seat → record_at (records_of seat) (suc (length audit)) ≡ Some x → Keeps (audit ++ x ∷ []) seat
kept_more audit seat x keeps there =
    let n : length (audit ++ x ∷ []) ≡ suc (length audit) = omega (arith, length-append audit (x ∷ [])) in
    (ap (λ k. take k (records_of seat)) n ∙ take_next (records_of seat) (length audit) x there ∙ ap (λ l. l ++ x ∷ []) keeps.0, omega (arith, keeps.1, n))

abbrev gone_on : NodeState → Bool → RingOutcome
gone_on r b = if b then (after_delivery r, []) else (r, [])

-- a delivery adds the judgement of the next place to the records
pub audit_more : (x : NodeValue) (r : Record) → next_record x ≡ Some r → audit_of (node_after_delivery x) ≡ audit_of x ++ r ∷ []
audit_more x r is = by_entry (next_entry x.ring.state) refl is
  where
    by_entry : (o : Option Entry) → next_entry x.ring.state ≡ o → option_map (record_of (audit_of x)) o ≡ Some r → audit_of (node_after_delivery x) ≡ audit_of x ++ r ∷ []
    by_entry None held made = absurd (none-some r made)
    by_entry (Some e) held made =
        ap (λ (o : Option Entry). judged (delivered_entries ((gone_on x.ring.state (is_some o)).0))) held
        ∙ (ap judged (delivered_more x.ring.state e held)
        ∙ (fold_push with_judgement [] (delivered_entries x.ring.state) e
        ∙ ap (λ (q : Record). audit_of x ++ q ∷ []) (same_Some (record_of (audit_of x) e) r made)))

pub kept_delivered : (x y : NodeValue) (seat : SeatValue) (r : Record) → Keeps (audit_of x) seat → next_record x ≡ Some r → record_at (records_of seat) (suc (length (audit_of x))) ≡ Some r → y ≡ node_after_delivery x → Keeps (audit_of y) seat
kept_delivered x y seat r keeps next there is = subst (λ audit. Keeps audit seat) (sym (ap audit_of is ∙ audit_more x r next)) (kept_more (audit_of x) seat r keeps there)

-- a node whose records are as they were
pub kept_on : (x y : NodeValue) (seat : SeatValue) → Keeps (audit_of x) seat → audit_of y ≡ audit_of x → Keeps (audit_of y) seat
kept_on x y seat keeps same = subst (λ audit. Keeps audit seat) (sym same) keeps

pub kept_same : (x y : NodeValue) (seat : SeatValue) → Keeps (audit_of x) seat → y ≡ x → Keeps (audit_of y) seat
kept_same x y seat keeps same = kept_on x y seat keeps (ap audit_of same)

-- the number of the place that the node delivers next, if it holds it
pub next_place : (x : NodeValue) (r : Record) (place : ℕ) → next_record x ≡ Some r → place ≡ suc x.ring.state.delivered → Some place ≡ place_to_deliver x
next_place x r place is number = by_entry (next_entry x.ring.state) is
  where
    by_entry : (o : Option Entry) → option_map (record_of (audit_of x)) o ≡ Some r → Some place ≡ option_map (λ e. suc x.ring.state.delivered) o
    by_entry None made = absurd (none-some r made)
    by_entry (Some e) made = ap (λ (n : ℕ). Some n) number

pub no_place : (x : NodeValue) → next_record x ≡ None → None ≡ place_to_deliver x
no_place x is = by_entry (next_entry x.ring.state) is
  where
    by_entry : (o : Option Entry) → option_map (record_of (audit_of x)) o ≡ None → None ≡ option_map (λ e. suc x.ring.state.delivered) o
    by_entry None made = refl
    by_entry (Some e) made = absurd (none-some (record_of (audit_of x) e) (sym made))
