use Rattle.std.proofs.Common.{ap, ◌∙◌}
use Rattle.cpg_conf.specs.Names.{number_of}
use Rattle.cpg_conf.proofs.Pairs.{found_alike}
use Rattle.cpg_conf.proofs.tables.NameTable.find.Goals as goal

pub returns : goal.returns
returns c =
    c.copied.ensures ∙ c.get.ensures.value ∙ found_alike c.args.name.now.items c.self.inside.numbers.entries
    ∙ ap (λ table. number_of table c.args.name.now.items) c.self.view_is
