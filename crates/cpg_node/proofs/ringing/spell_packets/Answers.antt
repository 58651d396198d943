use Rattle.std.proofs.Common.{◌∙◌}
use Rattle.cpg_node.proofs.Keeping.{spelled_more, range_more}
use Rattle.cpg_node.proofs.ringing.spell_packets.Goals as goal

pub loop-packet-preserved : goal.loop-packet-preserved
loop-packet-preserved c = record {
  items = c.in_ok-push.ensures.items ∙ spelled_more c.args.packets.now c.loop-packet.packet-index c.packet-item.result _ _ c.loop-packet-test.true c.packet-item.is c.loop-packet.invariant.items c.in_ok-spell_packet.ensures.ok.3;
  range = range_more c.args.packets.now c.loop-packet.packet-index c.packet-item.result c.loop-packet-test.true c.packet-item.is c.loop-packet.invariant.range (c.in_ok-spell_packet.ensures.ok.0, c.in_ok-spell_packet.ensures.ok.1);
  empty = c.in_ok-spell_packet.ensures.empty;
}
