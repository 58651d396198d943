use Rattle.cpg_serve.proofs.Refused.{connects_not, connects_ok}
use Rattle.cpg_serve.proofs.renewing.connect_one.Goals as goal

pub returns-in-Some : goal.returns-in-Some
returns-in-Some c = record {
  ok = connects_ok c.args.old.now c.args.node.now c.connect.new.self c.args.conn c.in-Some.client c.connect.result c.in-Some.ensures c.connect.ensures.answer;
  why = connects_not c.args.old.now c.args.node.now c.connect.new.self c.args.conn c.in-Some.client c.connect.result c.in-Some.ensures c.connect.ensures.answer;
}
