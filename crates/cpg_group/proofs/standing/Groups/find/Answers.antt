use Rattle.std.proofs.Common.{bytes_eq, ap, ◌∙◌}
use Rattle.std.specs.Map.{lookup}
use Rattle.cpg_record.specs.Named.{found_or}
use Rattle.cpg_group.specs.Standing.{no_group}
use Rattle.cpg_record.proofs.Named.{found_alike}
use Rattle.cpg_group.proofs.standing.Groups.find.Goals as goal

pub returns-in-Some : goal.returns-in-Some
returns-in-Some c =
    ap (found_or no_group) (c.in-Some.ensures.value ∙ found_alike c.args.name.now c.self.inside.kept.entries ∙ ap (lookup (bytes_eq c.args.name.now)) c.self.view_is)

pub returns-in-None : goal.returns-in-None
returns-in-None c =
    c.self.invariant
    ∙ ap (found_or no_group) (c.in-None.ensures.value ∙ found_alike c.args.name.now c.self.inside.kept.entries ∙ ap (lookup (bytes_eq c.args.name.now)) c.self.view_is)
