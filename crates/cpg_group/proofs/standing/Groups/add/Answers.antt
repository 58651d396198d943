use Rattle.std.proofs.Common.{bytes_eq, ap, sym, ◌∙◌, List, ℕ}
use Rattle.std.specs.Map.{lookup}
use Rattle.indexmap.proofs.CallerLemmas.{insert_entry-new}
use Rattle.cpg_record.specs.Named.{named, found_or}
use Rattle.cpg_group.specs.Standing.{Kept, no_group, kept_group, changed}
use Rattle.cpg_record.proofs.Named.{found_alike, kept_added, kept_grown, named-push}
use Rattle.cpg_group.proofs.Kept.{always_err}
use Rattle.cpg_group.proofs.standing.Groups.add.Goals as goal

pub returns-in_err-insert-clause-err : goal.returns-in_err-insert-clause-err
returns-in_err-insert-clause-err c =
    always_err c.from_residual-in_err-insert.result
    (λ g. ap (λ es. kept_group (named es) g) c.in_err-insert.ensures.err ∙ ap (λ (kept : Kept). kept_group kept g) c.self.view_is)

pub returns-clause-ok : goal.returns-clause-ok
returns-clause-ok c =
    let entries = c.self.inside.kept.entries in
    let lacking = found_alike c.in_ok-key.key.items entries ∙ ap (λ (n : List ℕ). lookup (bytes_eq n) (named entries)) c.in_ok-key.ensures.items ∙ ap (lookup (bytes_eq c.args.name.now)) c.self.view_is ∙ c.requires.absent in
    let grown = c.in_ok-insert.ensures.entries ∙ insert_entry-new _ c.self.inside.kept c.in_ok-key.key c.take_in.new.self lacking in
    λ g. ap (λ es. kept_group (named es) g) grown
    ∙ ap (λ (kept : Kept). kept_group kept g) (named-push entries c.args.self.now c.args.name.now c.in_ok-key.key c.take_in.new.self c.self.view_is c.in_ok-key.ensures.items)
    ∙ kept_added no_group c.args.self.now c.args.name.now c.take_in.new.self g c.requires.absent
    ∙ kept_grown no_group c.args.self.now c.args.name.now g no_group c.take_in.new.self (changed c.args.place c.args.past.now) (sym (ap (found_or no_group) c.requires.absent))
    (c.in_ok-take_in.ensures.ok ∙ ap (changed c.args.place c.args.past.now) c.in_ok-group.ensures.ok)
