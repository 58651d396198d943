use Rattle.std.proofs.Common.{subst, ◌+◌, length, ◌≡◌, arith}
use Rattle.cpg_ring.specs.Kept.{HeldValue}
use Rattle.cpg_ring.specs.Laws.{AllHeld, NoneAbove}
use Rattle.cpg_ring.proofs.Slots.{all_done, none_past}
use Rattle.cpg_ring.proofs.held.Held.delivered.Goals as goal

pub returns-clause-held : goal.returns-clause-held
returns-clause-held c =
    let len = c.len.ensures in
    let same : length c.self.inside.done.items ≡ c.len.result = omega arith in
    subst (λ n. AllHeld c.args.self.now.places n) same (subst (λ (h : HeldValue). AllHeld h.places (length c.self.inside.done.items)) c.self.view_is (all_done c.self.inside.done.items c.self.inside.slots.items))

pub returns-clause-window : goal.returns-clause-window
returns-clause-window c =
    let len = c.len.ensures in
    let same : length c.self.inside.done.items ≡ c.len.result = omega arith in
    subst (λ n. NoneAbove c.args.self.now.places (n + 64)) same (subst (λ (h : HeldValue). NoneAbove h.places (length c.self.inside.done.items + 64)) c.self.view_is (none_past c.self.inside.done.items c.self.inside.slots.items))
