use Rattle.std.proofs.Common.{◌≡◌, ◌+◌, ◌<◌, ◌++◌, ◌∷◌, [], sym, ap, ◌∙◌, arith, take, length, get_or, append_assoc, true≢false}
use Rattle.cpg_ring.specs.States.{Packet}
use Rattle.cpg_ring.specs.Visits.{placed}
use Rattle.cpg_ring.specs.Rings.{RingNode}
use Rattle.cpg_ring.proofs.Bursts.{placed_more}
use Rattle.cpg_ring.proofs.ring.Ring.place.Goals as goal
use Rattle.cpg_ring.proofs.ring.Ring.place.Goals.{in-Some+in_ok-entry+in_ok-push, in_default}

pub loop-i-preserved : goal.loop-i-preserved
loop-i-preserved c =
    let test = c.loop-i-test.true in
    let ready = c.requires.ready in
    let W = c.args.self.now.state.waiting in
    let S = c.args.self.now.settings in
    let old = c.args.packets.now.items in
    let within : c.loop-i.i < length W = omega arith in
    let wait : c.self.inside.waiting ≡ W = ap (λ (x : RingNode). x.state.waiting) c.self.view_is in
    let ring : c.self.inside.settings ≡ S = ap (λ (x : RingNode). x.settings) c.self.view_is in
    elim c.match-get.branch [
      | in-Some+in_ok-entry+in_ok-push w ↦
          let same : w.in_ok-entry.entry ≡ get_or W c.loop-i.i w.in-Some.entry.now = w.in_ok-entry.ensures.ok ∙ (w.in-Some.ensures.lookup ∙ ap (λ l. get_or l c.loop-i.i w.in-Some.entry.now) wait) in
          let packet : Packet = record { ring = S.ring; place = c.args.seq + c.loop-i.i + 1; entry = get_or W c.loop-i.i w.in-Some.entry.now } in
          ap (λ v. v.items) w.packets-is ∙ (w.in_ok-push.ensures.items
          ∙ ((λ j. c.loop-i.packets.items ++ record { ring = (ring j).ring; place = c.args.seq + c.loop-i.i + 1; entry = same j } ∷ [])
          ∙ (ap (λ l. l ++ packet ∷ []) c.loop-i.invariant
          ∙ (append_assoc old (placed S c.args.seq (take c.loop-i.i W)) (packet ∷ [])
          ∙ ap (λ l. old ++ l) (sym (placed_more S c.args.seq W c.loop-i.i w.in-Some.entry.now within))))))
      | in_default w ↦
          let len = ap length wait in
          absurd (true≢false (sym (w.in_default.ensures.variant.1 (omega arith))))
    ]
