use Rattle.std.proofs.Common.{◌≡◌, take}
use Rattle.cpg_why.specs.Moves.{last_move}
use Rattle.cpg_why.specs.Standings.{last_tried}
use Rattle.cpg_why.proofs.standings.find_last.Given as goal

abbrev pub invariant-loop-index : goal.invariant-loop-index
invariant-loop-index l = (l.seen.0 ≡ last_move (take l.index l.records) l.conn) × (l.seen.1 ≡ last_tried (take l.index l.records) l.conn)
