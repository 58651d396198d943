use Rattle.std.proofs.Common.{◌≡◌, ◌≤◌, ◌-◌, List, length, get_or, set, Some, sym, ap, ◌∙◌, subst}
use Rattle.cpg_ring.specs.Worlds.{item, with_item}
use Rattle.cpg_node.specs.Nodes.{NodeValue}
use Rattle.cpg_world_laws.specs.Worlds.{WorldValue, node_in}
use Rattle.cpg_world.specs.Kept.{frames_of}
use Rattle.cpg_world.specs.Runs.{IsStep}
use Rattle.cpg_world.proofs.Stepping.{Stepped, stepped, set_is, item_is}
use Rattle.cpg_world.proofs.worlds.World.step.Goals as goal

-- the world before the step
abbrev was : goal.After-self-1 → WorldValue
was c = record { settings = c.self.inside.settings; list = c.self.inside.list; nodes = c.self.inside.nodes.items; sent = frames_of c.self.inside.sent.items }

-- the world after it, with those nodes
abbrev now : goal.After-self-1 → List NodeValue → WorldValue
now c nodes = record { settings = c.self.inside.settings; list = c.self.inside.list; nodes = nodes; sent = frames_of c.meet.new.sent.items }

-- the step leads from the one to the other
steps : (c : goal.After-self-1) → Stepped (was c) c.args.event c.meet.result (now c (set (was c).nodes (c.get.result - 1) c.meet.new.node))
steps c =
    let e = c.args.event in
    let nodes = (was c).nodes in
    let g : c.get.result ≡ node_in e = c.get.ensures.value ∙ c.node-id.ensures in
    let low : 1 ≤ node_in e = subst (λ k. 1 ≤ k) g c.get.ensures.range.0 in
    let high : node_in e ≤ length nodes = subst (λ (v : WorldValue). node_in e ≤ length v.nodes) (sym c.self.view_is) c.requires in
    let x = c.index_mut-node.result.now in
    let there : item nodes (node_in e) ≡ Some x = item_is nodes (node_in e) x low high (subst (λ k. get_or nodes (k - 1) x ≡ x) g (sym c.index_mut-node.ensures.value)) in
    let same : set nodes (c.get.result - 1) c.meet.new.node ≡ with_item nodes (node_in e) c.meet.new.node = ap (λ k. set nodes (k - 1) c.meet.new.node) g ∙ set_is nodes (node_in e) c.meet.new.node low in
    subst (λ (l : List NodeValue). Stepped (was c) e c.meet.result (now c l)) (sym same) (stepped (was c) e c.meet.result x c.meet.new.node (frames_of c.meet.new.sent.items) c.self.invariant.reached there c.meet.ensures.met)

pub invariant_of-self : goal.invariant_of-self
invariant_of-self c = record { settings = c.self.invariant.settings; reached = (steps c).reached; spelled = c.meet.ensures.spelled }

pub returns-clause-step : goal.returns-clause-step
returns-clause-step c =
    let made = now c (set (was c).nodes (c.get.result - 1) c.meet.new.node) in
    subst (λ (v : WorldValue). IsStep v c.args.event c.meet.result made) c.self.view_is (steps c).step

pub returns-clause-world : goal.returns-clause-world
returns-clause-world c =
    let kept = invariant_of-self c in
    c.every_run.ensures.world _ kept.settings kept.reached
