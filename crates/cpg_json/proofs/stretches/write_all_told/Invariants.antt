use Rattle.std.proofs.Common.{map, take}
use Rattle.std.specs.Prelude.{Ok}
use Rattle.cpg_record.specs.Judging.{judged}
use Rattle.cpg_judge.specs.Gathering.{Gathers}
use Rattle.cpg_json.specs.Tails.{heard_line}
use Rattle.cpg_json.proofs.stretches.write_all_told.Given as goal

abbrev pub invariant-loop-place : goal.invariant-loop-place
invariant-loop-place g l =
    Gathers (Ok tt) (g.W.Write.contents l.initial.writer) l.initial.lines.items (g.W.Write.contents l.writer) l.lines.items (map (heard_line (judged l.inbox.policy.now) l.inbox.conn.now) (take l.place-index l.places))
