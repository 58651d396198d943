use Rattle.std.proofs.Common.{◌<◌, List, length, sym, subst}
use Rattle.cpg_entry.specs.declared.entries.Entry.{Entry}
use Rattle.cpg_record.specs.Judging.{most_places}
use Rattle.cpg_node.proofs.Looking.{taken_in}
use Rattle.cpg_node.proofs.judged.Judged.enter.Goals as goal

pub invariant_of-self : goal.invariant_of-self
invariant_of-self c =
    let room = subst (λ (es : List Entry). length es < most_places) (sym c.self.view_is) c.requires in
    taken_in c.self.inside.policy c.enter.new.self c.args.entry c.self.inside.cursors.items c.enter.result room c.self.invariant c.enter.ensures.ok c.enter.ensures.unchanged
