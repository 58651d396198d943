use Rattle.std.proofs.Common.{◌≡◌, bytes_eq, ap, sym, Some, ◌∙◌}
use Rattle.std.specs.List.{slice_get}
use Rattle.std.specs.Map.{lookup}
use Rattle.std.proofs.lemmas.Map.Made.{lookup_key_passes}
use Rattle.std.proofs.lemmas.Slice.Eq.{bytes_eq-Decides}
use Rattle.cpg_record.specs.Named.{names_of}
use Rattle.cpg_group.proofs.Placed.{key_at}
use Rattle.cpg_judge.specs.Texts.{KeptTexts}
use Rattle.cpg_judge.proofs.texts.Texts.index_of.Goals as goal

pub returns-in-Some : goal.returns-in-Some
returns-in-Some c =
    let same : c.in-Some.kept.now ≡ c.args.name.now = (bytes_eq-Decides c.in-Some.kept.now c.args.name.now).0 (sym c.eq.ensures ∙ c.if-eq.true) in
    ap (λ (kept : KeptTexts). slice_get (names_of kept) c.self.inside.last) (sym c.self.view_is)
    ∙ key_at c.self.inside.kept.entries c.self.inside.last c.in-Some.kept.now _ (sym c.in-Some.ensures.entry)
    ∙ ap Some same

pub returns-in-Some-get_full : goal.returns-in-Some-get_full
returns-in-Some-get_full c =
    let entries = c.self.inside.kept.entries in
    let key = c.in-Some-get_full.field-0-1.now in
    let same : c.args.name.now ≡ key = (bytes_eq-Decides c.args.name.now key).0 (lookup_key_passes _ entries key (sym c.in-Some-get_full.ensures.key)) in
    ap (λ (kept : KeptTexts). slice_get (names_of kept) c.in-Some-get_full.index) (sym c.self.view_is)
    ∙ key_at entries c.in-Some-get_full.index key c.in-Some-get_full.field-0-2.now c.in-Some-get_full.ensures.entry
    ∙ ap Some (sym same)

pub returns-in-None : goal.returns-in-None
returns-in-None c =
    sym (c.in-None.ensures.value ∙ ap (lookup (bytes_eq c.args.name.now)) c.self.view_is)
