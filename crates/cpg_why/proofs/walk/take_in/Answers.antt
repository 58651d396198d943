use Rattle.std.proofs.Common.{List, ◌≡◌, ◌+◌, length, sym, subst, arith}
use Rattle.cpg_entry.specs.declared.entries.Entry.{Entry}
use Rattle.cpg_record.specs.Judging.{judged}
use Rattle.cpg_why.specs.Moves.{AreLastMoves}
use Rattle.cpg_why.proofs.Walked.{moves_after}
use Rattle.cpg_why.proofs.walk.take_in.Goals as goal

pub returns-in-Ok-clause-moves : goal.returns-in-Ok-clause-moves
returns-in-Ok-clause-moves c =
    let before = c.args.walk.now.policy in
    let place : c.len.result + 1 ≡ length before + 1 = omega (arith, c.len.ensures.value) in
    subst (λ (es : List Entry). AreLastMoves c.take_in.new.self.kept.entries (judged es)) (sym c.in-Ok.ensures.ok)
    (moves_after c.args.walk.now.moves.kept.entries c.take_in.new.self.kept.entries before c.args.next.entry c.args.next (c.len.result + 1)
    c.requires.moves c.requires.judged place c.in_ok-take_in.ensures.ok)
