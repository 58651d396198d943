use Rattle.std.proofs.Common.{arith}
use Rattle.cpg_ask.proofs.Mapped.{all_mapped}
use Rattle.cpg_ask.proofs.tells.put_processes.Goals as goal

pub returns : goal.returns
returns c = grind (arith, all_mapped c.args.out.now.items c.args.members.now c.args.left.now c.args.joined.now, c.put_members.ensures, c.in_ok-put_members.is, c.put_moves.ensures, c.in_ok-put_moves.is, c.put_moves-2.ensures)
