use Rattle.std.proofs.Common.{length, ap, arith}
use Rattle.cpg_why.proofs.Conns.{conns_few}
use Rattle.cpg_why.proofs.telling.check_process.Goals as goal

pub overflow_cast-conns : goal.overflow_cast-conns
overflow_cast-conns c = omega (arith, conns_few c.args.policy.now, ap length c.connections.ensures, c.requires.few)
