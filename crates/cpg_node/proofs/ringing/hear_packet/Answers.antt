use Rattle.cpg_node.proofs.Keeping.{heard_data}
use Rattle.cpg_node.proofs.ringing.hear_packet.Goals as goal

pub returns-clause-kept : goal.returns-clause-kept
returns-clause-kept c = heard_data c.args.ring.now c.on_data.new.self c.args.packet c.on_data.result c.requires.sound c.requires.packet c.on_data.ensures.answer c.on_data.ensures.err
