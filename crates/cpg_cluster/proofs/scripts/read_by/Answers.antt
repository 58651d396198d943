use Rattle.cpg_cluster.proofs.Scripted.{refused_alike}
use Rattle.cpg_cluster.proofs.scripts.read_by.Goals as goal

pub returns : goal.returns
returns c = refused_alike c.args.nodes c.args.numbers.now c.args.script.now c.read_script.result c.read_script.ensures.err
