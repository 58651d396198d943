use Rattle.std.proofs.Common.{codes, decimal}
use Rattle.cpg_hint.proofs.Texts.{put_both}
use Rattle.cpg_hint.proofs.phrases.put_node.Goals as goal

pub returns-clause-ok : goal.returns-clause-ok
returns-clause-ok c =
    put_both c.push_number.result c.args.text.now.items c.put.new.line.items c.push_number.new.line.items (codes "NODE: a number from 1 to ") (decimal c.args.nodes) c.in_ok-put.ensures.ok c.push_number.ensures.ok
