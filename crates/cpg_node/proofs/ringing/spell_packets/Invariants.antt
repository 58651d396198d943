use Rattle.std.proofs.Common.{◌≡◌, [], All, map, take}
use Rattle.cpg_entry.specs.declared.frames.Frame.TheVariants as frames
use Rattle.cpg_node.specs.Answers.{spelled, CanBeSpelled}
use Rattle.cpg_node.proofs.ringing.spell_packets.Given as goal

abbrev pub invariant-loop-packet : goal.invariant-loop-packet
invariant-loop-packet l = record {
  items : l.list.items ≡ spelled (map frames.Packet (take l.packet-index l.packets));
  range : All CanBeSpelled (map frames.Packet (take l.packet-index l.packets));
  empty : l.room.items ≡ [];
}
