use Rattle.std.proofs.Common.{IfSome, rules}
use Rattle.cpg_entry.specs.Ranges.{IsToken}
use Rattle.cpg_ring.specs.Rings.{IsRingNode}
use Rattle.cpg_ring.proofs.Rings.{ring_new}
use Rattle.cpg_ring.proofs.ring.Ring.new.Goals as goal
use Rattle.cpg_ring.proofs.ring.Ring.new.Goals.{then-get-settings-2, else-get-settings-2}

pub invariant_of-result : goal.invariant_of-result
invariant_of-result c =
    let node : IsRingNode c.args.settings c.args.node = search rules in
    let spelled : IfSome c.if-get-settings-2.last_token IsToken = elim c.if-get-settings-2.branch [
      | then-get-settings-2 w ↦ search rules
      | else-get-settings-2 w ↦ search rules
    ] in
    ring_new c.args.settings c.args.node c.in_ok-held.held c.if-get-settings-2.last_token node c.in_ok-held.ensures.places c.in_ok-held.ensures.delivered spelled
