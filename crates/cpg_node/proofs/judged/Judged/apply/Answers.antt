use Rattle.std.proofs.Common.{List, sym, subst}
use Rattle.cpg_entry.specs.declared.entries.Entry.{Entry}
use Rattle.cpg_record.specs.Judging.{IsNext}
use Rattle.cpg_node.proofs.Looking.{taken_in}
use Rattle.cpg_node.proofs.judged.Judged.apply.Goals as goal

pub invariant_of-self : goal.invariant_of-self
invariant_of-self c =
    let next = subst (λ (es : List Entry). IsNext es c.args.next) (sym c.self.view_is) c.requires in
    taken_in c.self.inside.policy c.apply.new.self c.args.next.entry c.self.inside.cursors.items c.apply.result next.0 c.self.invariant c.apply.ensures.ok c.apply.ensures.unchanged
