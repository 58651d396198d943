use Rattle.std.proofs.Common.{◌+◌, ◌++◌, nat_lt, take, ap, ◌∙◌, arith}
use Rattle.std.specs.List.{filter}
use Rattle.cpg_ring.specs.Visits.{up_to}
use Rattle.cpg_ring.specs.Steps.{held_after, lacks}
use Rattle.cpg_ring.proofs.Bursts.{after_above}
use Rattle.cpg_ring.proofs.Loops.{asks_parts}
use Rattle.cpg_ring.proofs.ring.Ring.requests_after.Goals as goal

pub returns-clause-ok : goal.returns-clause-ok
returns-clause-ok c =
    let now = c.args.self.now in
    let seq = c.args.seq in
    let count = c.args.count in
    let asked = c.args.asked.now in
    let d = now.state.delivered in
    let H = held_after now seq count in
    let above = after_above now seq count (d + 64) c.last_place-end.ensures.above c.requires.window c.requires.ready in
    c.truncate.ensures.items
    ∙ (ap (take 32) (c.in_ok-add_above.ensures.ok ∙ ap (λ l. l ++ filter (nat_lt c.last_place-end.result) asked) c.in_ok-requests.ensures.ok)
    ∙ (ap (λ e. take 32 (filter (lacks H) (up_to e) ++ filter (nat_lt e) asked)) c.last_place-end.ensures.value
    ∙ asks_parts H d seq (seq + count) asked above c.requires.asked (omega arith)))
