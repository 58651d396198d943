use Rattle.std.proofs.Common.{◌≡◌, bytes_eq, ap, sym, ◌∙◌}
use Rattle.std.specs.Map.{lookup}
use Rattle.std.proofs.lemmas.Slice.Eq.{bytes_eq-Decides}
use Rattle.cpg_record.specs.Named.{found_or}
use Rattle.cpg_group.specs.Standing.{kept_group, no_group}
use Rattle.cpg_record.proofs.Named.{found_alike}
use Rattle.cpg_group.proofs.standing.Groups.of_near.Goals as goal

pub returns-in-Some : goal.returns-in-Some
returns-in-Some c =
    let name = c.in-Some.kept.now.items in
    let same : name ≡ c.args.name.now = sym c.as_slice.ensures.value ∙ (bytes_eq-Decides c.as_slice.result.now c.args.name.now).0 (sym c.eq.ensures ∙ c.if-eq.true) in
    ap (found_or no_group) (sym c.in-Some.ensures.value ∙ found_alike name c.self.inside.kept.entries ∙ ap (lookup (bytes_eq name)) c.self.view_is)
    ∙ ap (kept_group c.args.self.now) same
