use Rattle.std.proofs.Common.{length, ap, arith}
use Rattle.cpg_why.proofs.Conns.{conns_few}
use Rattle.cpg_why.proofs.telling.check_conn.Goals as goal

pub overflow_cast-result : goal.overflow_cast-result
overflow_cast-result c = omega (arith, conns_few c.args.policy.now, ap length c.connections-conns.ensures, c.requires)
