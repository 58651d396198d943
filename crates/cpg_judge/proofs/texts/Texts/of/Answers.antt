use Rattle.std.proofs.Common.{bytes_eq, ap, ◌∙◌}
use Rattle.std.specs.Map.{lookup}
use Rattle.cpg_record.specs.Named.{found_or}
use Rattle.cpg_judge.specs.Texts.{no_text}
use Rattle.cpg_judge.proofs.texts.Texts.of.Goals as goal

pub returns-in-Some : goal.returns-in-Some
returns-in-Some c =
    ap (found_or no_text) (c.in-Some.ensures.value ∙ ap (lookup (bytes_eq c.args.name.now)) c.self.view_is)

pub returns-in-None : goal.returns-in-None
returns-in-None c =
    c.self.invariant ∙ ap (found_or no_text) (c.in-None.ensures.value ∙ ap (lookup (bytes_eq c.args.name.now)) c.self.view_is)
