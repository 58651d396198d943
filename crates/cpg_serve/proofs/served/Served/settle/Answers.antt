use Rattle.std.proofs.Common.{◌≡◌, ◌++◌, List, ap, ◌∙◌}
use Rattle.std.proofs.lemmas.Result.{on_ok_weaker}
use Rattle.cpg_entry.specs.declared.entries.Entry.{Entry}
use Rattle.cpg_entry.specs.declared.frames.Token.{Token}
use Rattle.cpg_ring.specs.Rings.{RingNode}
use Rattle.cpg_node.specs.Nodes.{delivered_entries}
use Rattle.cpg_serve.specs.Settling.{IsLone}
use Rattle.cpg_serve.proofs.Settled.{all_placed}
use Rattle.cpg_serve.proofs.Turns.{moves_then}
use Rattle.cpg_serve.proofs.served.Served.settle.Goals as goal

pub returns-clause-moves : goal.returns-clause-moves
returns-clause-moves c = moves_then c.args.self.now c.turn.new.self c.tell_all.new.self c.turn.ensures.moves c.tell_all.ensures.moves

pub returns-clause-placed : goal.returns-clause-placed
returns-clause-placed c =
    on_ok_weaker c.tell_all.result
    (λ told t placed is. ap (λ (r : RingNode). delivered_entries r.state) c.tell_all.ensures.ring
    ∙ all_placed c.args.self.now.node c.turn.new.self.node c.turn.ensures.lone c.in_ok-turn.ensures.still t placed is)
    c.tell_all.ensures.told
