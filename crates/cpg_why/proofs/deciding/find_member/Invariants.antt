use Rattle.std.proofs.Common.{◌≡◌, ◌==◌, ◌&&◌, drop}
use Rattle.std.specs.List.{find}
use Rattle.cpg_why.proofs.deciding.find_member.Given as goal

abbrev pub invariant-loop-member : goal.invariant-loop-member
invariant-loop-member l =
    find (λ member. (member.node == l.past.entry.node) && (member.pid == l.past.entry.pid)) (drop l.member-index l.past.members)
    ≡ find (λ member. (member.node == l.past.entry.node) && (member.pid == l.past.entry.pid)) l.past.members
