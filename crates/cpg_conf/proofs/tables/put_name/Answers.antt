use Rattle.std.proofs.Common.{sym, ap, ◌∙◌, unwrap_or}
use Rattle.cpg_conf.specs.Steps.{pairs}
use Rattle.cpg_conf.proofs.Pairs.{pairs_put}
use Rattle.cpg_conf.proofs.tables.put_name.Goals as goal

pub returns-clause-ok : goal.returns-clause-ok
returns-clause-ok c =
    let value = c.or_insert.result.now in
    ap (λ map. pairs map.entries) (c.numbers-3-1.given.1 (sym c.in_ok-numbers.ensures.same_map))
    ∙ ap pairs (c.in_ok-numbers.ensures.update.1 value)
    ∙ pairs_put c.args.name c.args.number value c.args.numbers.now.entries (c.or_insert.ensures.value ∙ ap (λ found. unwrap_or found c.args.number) c.in_ok-numbers.ensures.value)
