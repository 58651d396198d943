-- What a run leaves of the agreed list and of each node: all goes on from where it was.
use Rattle.std.proofs.Common.{◌≡◌, ◌≢◌, ℕ, zero, suc, ◌≤◌, List, [], ◌∷◌, ◌++◌, take, Option, Some, None, refl, sym, ap, ◌∙◌, subst, ⊎_elim, arith, append-nil, append_assoc, slice_get}
use Rattle.std.proofs.lemmas.Bool.{cases_eq}
use Rattle.std.proofs.lemmas.Option.{none-some, same_Some}
use Rattle.std.proofs.lemmas.List.{take-append-le}
use Rattle.cpg_record.specs.declared.records.Record.{Record}
use Rattle.cpg_record.specs.Judging.{judged}
use Rattle.cpg_record.specs.Laws.{PrefixesAreJudgedAlike}
use Rattle.cpg_record.specs.Places.{record_at, Begins}
use Rattle.cpg_ring.specs.States.{Entry, Frame}
use Rattle.cpg_ring.specs.Worlds.{item, with_item, agreed}
use Rattle.cpg_ring.proofs.Lists.{item_with_same, item_with_other}
use Rattle.cpg_ring.proofs.Growth.{agreed_grows}
use Rattle.cpg_node.specs.Nodes.{NodeValue, records_of}
use Rattle.cpg_world_laws.specs.declared.events.WorldEvent.{WorldEvent}
use Rattle.cpg_world_laws.specs.Worlds.{WorldValue, moves, node_in, moved, happens, runs}
use Rattle.cpg_world_laws.specs.Claims.{IsAgreed, GoesOn, JudgeAlike}
use Rattle.cpg_world_laws.proofs.Received.{goes_moves, records_grow}

-- ---- lists

-- a list begins itself with more behind it
begins_more : {X : Type 0} (xs ys : List X) → Begins xs (xs ++ ys)
begins_more [] ys = refl
begins_more (x ∷ xs) ys = ap (λ l. x ∷ l) (begins_more xs ys)

-- what stands in a front stands in the whole
in_front : {X : Type 0} (xs : List X) (d i : ℕ) (x : X) → slice_get (take d xs) i ≡ Some x → slice_get xs i ≡ Some x
in_front [] zero i x h = h
in_front [] (suc d) i x h = h
in_front (y ∷ xs) zero i x h = absurd (none-some x h)
in_front (y ∷ xs) (suc d) zero x h = h
in_front (y ∷ xs) (suc d) (suc i) x h = in_front xs d i x h

at_front : (records : List Record) (d place : ℕ) (r : Record) → record_at (take d records) place ≡ Some r → record_at records place ≡ Some r
at_front records d zero r h = h
at_front records d (suc i) r h = in_front records d i r h

-- ---- frames

-- an event sends more frames, or none
sends : (w : WorldValue) (e : WorldEvent) → (more : List Frame) × ((happens w e).sent ≡ w.sent ++ more)
sends w e = by_node (item w.nodes (node_in e))
  where
    by_node : (o : Option NodeValue) → (more : List Frame) × ((moved w (node_in e) o (moves w.sent e)).sent ≡ w.sent ++ more)
    by_node None = ([], sym (append-nil w.sent))
    by_node (Some x) = ((moves w.sent e x).1, refl)

pub run_sends : (w : WorldValue) (es : List WorldEvent) → (more : List Frame) × ((runs w es).sent ≡ w.sent ++ more)
run_sends w [] = ([], sym (append-nil w.sent))
run_sends w (e ∷ es) =
    let first = sends w e in
    let later = run_sends (happens w e) es in
    (first.0 ++ later.0, later.1 ∙ (ap (λ l. l ++ later.0) first.1 ∙ append_assoc w.sent first.0 later.0))

pub run_agrees : (w : WorldValue) (es : List WorldEvent) → Begins (agreed w.sent) (agreed (runs w es).sent)
run_agrees w es =
    let more = run_sends w es in
    let longer = agreed_grows w.sent more.0 in
    subst (λ (l : List Entry). Begins (agreed w.sent) l) (sym (ap agreed more.1 ∙ longer.1)) (begins_more (agreed w.sent) longer.0)

-- ---- nodes

-- the node of that number, and what it delivered is no less
abbrev NoLess : WorldValue → ℕ → NodeValue → Type 0
NoLess w n x = (y : NodeValue) × (item w.nodes n ≡ Some y) × (x.ring.state.delivered ≤ y.ring.state.delivered)

no_less_step : (w : WorldValue) (e : WorldEvent) (n : ℕ) (x : NodeValue) → item w.nodes n ≡ Some x → NoLess (happens w e) n x
no_less_step w e n x at = by_node (item w.nodes (node_in e)) refl
  where
    by_node : (o : Option NodeValue) → item w.nodes (node_in e) ≡ o → NoLess (moved w (node_in e) o (moves w.sent e)) n x
    by_node None is = (x, at, omega arith)
    by_node (Some z) is = ⊎_elim here there (cases_eq n (node_in e))
      where
        y : NodeValue
        y = (moves w.sent e z).0

        here : n ≡ node_in e → NoLess (moved w (node_in e) (Some z) (moves w.sent e)) n x
        here same =
            let was : z ≡ x = same_Some z x (sym is ∙ (ap (item w.nodes) (sym same) ∙ at)) in
            let now = ap (item (with_item w.nodes (node_in e) y)) same ∙ item_with_same w.nodes (node_in e) y z is in
            (y, now, subst (λ (v : NodeValue). v.ring.state.delivered ≤ y.ring.state.delivered) was (goes_moves w.sent e z).delivered)

        there : n ≢ node_in e → NoLess (moved w (node_in e) (Some z) (moves w.sent e)) n x
        there apart = (x, item_with_other w.nodes (node_in e) n y apart ∙ at, omega arith)

pub no_less : (w : WorldValue) (es : List WorldEvent) (n : ℕ) (x : NodeValue) → item w.nodes n ≡ Some x → NoLess (runs w es) n x
no_less w [] n x at = (x, at, omega arith)
no_less w (e ∷ es) n x at =
    let first = no_less_step w e n x at in
    let later = no_less (happens w e) es n first.0 first.1 in
    (later.0, later.1, let a = first.2 in let b = later.2 in omega arith)

-- ---- records

module _ (law : PrefixesAreJudgedAlike) (w : WorldValue) (es : List WorldEvent) where
  -- the frames that the run sends, and the agreed list after it
  abbrev more : List Frame
  more = (run_sends w es).0

  after_frames : (y : NodeValue) → IsAgreed (runs w es).sent y → IsAgreed (w.sent ++ more) y
  after_frames y agreed_after = subst (λ (l : List Frame). IsAgreed l y) (run_sends w es).1 agreed_after

  pub goes_on : (n : ℕ) (x later : NodeValue) → item w.nodes n ≡ Some x → item (runs w es).nodes n ≡ Some later → IsAgreed w.sent x → IsAgreed (runs w es).sent later → GoesOn x later
  goes_on n x later at after before then =
      let less = no_less w es n x at in
      let same : less.0 ≡ later = same_Some less.0 later (sym less.1 ∙ after) in
      let no_fewer = subst (λ (v : NodeValue). x.ring.state.delivered ≤ v.ring.state.delivered) same less.2 in
      let grown = records_grow law w.sent more x later before (after_frames later then) no_fewer in
      record { delivered = no_fewer; records = subst (λ (l : List Record). Begins (records_of x) l) (sym grown.1) (begins_more (records_of x) grown.0) }

  -- the records of a node before the run are the first of those of all that is agreed after it
  front_before : (x : NodeValue) → IsAgreed w.sent x → records_of x ≡ take x.ring.state.delivered (judged (agreed (w.sent ++ more)))
  front_before x before =
      let d = x.ring.state.delivered in
      let longer = agreed_grows w.sent more in
      before.records
      ∙ (sym (law (agreed w.sent) d)
      ∙ (ap judged (sym (take-append-le d (agreed w.sent) longer.0 before.reached))
      ∙ (ap (λ l. judged (take d l)) (sym longer.1)
      ∙ law (agreed (w.sent ++ more)) d)))

  pub judge_alike : (x y : NodeValue) → IsAgreed w.sent x → IsAgreed (runs w es).sent y → JudgeAlike x y
  judge_alike x y before then place r q at_r at_q =
      let all = judged (agreed (w.sent ++ more)) in
      let first = at_front all x.ring.state.delivered place r (ap (λ l. record_at l place) (sym (front_before x before)) ∙ at_r) in
      let other = at_front all y.ring.state.delivered place q (ap (λ l. record_at l place) (sym (after_frames y then).records) ∙ at_q) in
      same_Some r q (sym first ∙ other)
