use Rattle.std.proofs.Common.{◌≡◌, ◌+◌, ◌&&◌, ◌||◌, nat_lt, nat_le, sym, ap, ◌∙◌}
use Rattle.std.proofs.lemmas.Bool.{lt-ltb, le-ltb}
use Rattle.cpg_ring.specs.States.{is_held}
use Rattle.cpg_ring.specs.Rings.{RingNode}
use Rattle.cpg_ring.proofs.Bursts.{after_is}
use Rattle.cpg_ring.proofs.ring.Ring.holds_after.Goals as goal

pub returns-then-holds : goal.returns-then-holds
returns-then-holds c =
    let at : c.holds.result ≡ is_held c.args.self.now.state.held c.args.place = c.holds.ensures ∙ ap (λ (x : RingNode). is_held x.state.held c.args.place) c.self.view_is in
    c.if-holds.true ∙ sym (after_is c.args.self.now c.args.seq c.args.count c.args.place c.requires.ready ∙ ap (λ b. b || nat_lt c.args.seq c.args.place && nat_le c.args.place (c.args.seq + c.args.count)) (sym at ∙ c.if-holds.true))

pub returns-then-seq-place : goal.returns-then-seq-place
returns-then-seq-place c =
    let at : c.holds.result ≡ is_held c.args.self.now.state.held c.args.place = c.holds.ensures ∙ ap (λ (x : RingNode). is_held x.state.held c.args.place) c.self.view_is in
    sym (after_is c.args.self.now c.args.seq c.args.count c.args.place c.requires.ready
    ∙ (ap (λ b. b || nat_lt c.args.seq c.args.place && nat_le c.args.place (c.args.seq + c.args.count)) (sym at ∙ c.if-holds.false)
    ∙ ap (λ b. b && nat_le c.args.place (c.args.seq + c.args.count)) (lt-ltb c.args.seq c.args.place c.if-seq-place.true)))

pub returns-else-seq-place : goal.returns-else-seq-place
returns-else-seq-place c =
    let at : c.holds.result ≡ is_held c.args.self.now.state.held c.args.place = c.holds.ensures ∙ ap (λ (x : RingNode). is_held x.state.held c.args.place) c.self.view_is in
    let low = le-ltb c.args.seq c.args.place c.if-seq-place.false in
    low ∙ sym (after_is c.args.self.now c.args.seq c.args.count c.args.place c.requires.ready
    ∙ (ap (λ b. b || nat_lt c.args.seq c.args.place && nat_le c.args.place (c.args.seq + c.args.count)) (sym at ∙ c.if-holds.false)
    ∙ ap (λ b. b && nat_le c.args.place (c.args.seq + c.args.count)) low))
