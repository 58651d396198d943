use Rattle.std.proofs.Common.{◌≡◌, bytes_eq, List, ℕ, [], ◌∷◌, ◌++◌, refl, sym, ap, ◌∙◌}
use Rattle.std.specs.Map.{lookup}
use Rattle.indexmap.proofs.CallerLemmas.{insert_entry-new}
use Rattle.cpg_record.specs.Judging.{judged}
use Rattle.cpg_record.specs.Named.{found_or}
use Rattle.cpg_judge.specs.Texts.{KeptTexts, TextValue, no_text, kept_text, told_text, with_place}
use Rattle.cpg_record.proofs.Named.{kept_added, kept_grown}
use Rattle.cpg_judge.proofs.texts.Texts.begin.Goals as goal

pub returns-clause-ok : goal.returns-clause-ok
returns-clause-ok c =
    let entries = c.self.inside.kept.entries in
    let line = told_text (judged c.args.placed.now.policy.now) c.args.placed.now.place in
    let lacking = ap (λ (n : List ℕ). lookup (bytes_eq n) entries) c.in_ok-key.ensures.ok ∙ ap (lookup (bytes_eq c.args.name.now)) c.self.view_is ∙ c.requires.lacking in
    let first : c.put_place.new.self ≡ with_place c.args.placed.now.past.now line no_text = c.in_ok-put_place.ensures.ok ∙ ap (with_place c.args.placed.now.past.now line) c.in_ok-text.ensures.ok in
    let grown : c.insert.new.self.entries ≡ c.args.self.now ++ (c.args.name.now, with_place c.args.placed.now.past.now line no_text) ∷ [] =
    c.in_ok-insert.ensures.entries
    ∙ insert_entry-new _ c.self.inside.kept c.in_ok-key.key c.put_place.new.self lacking
    ∙ ap (λ (kept : KeptTexts). kept ++ (c.in_ok-key.key, c.put_place.new.self) ∷ []) c.self.view_is
    ∙ ap (λ (n : List ℕ). c.args.self.now ++ (n, c.put_place.new.self) ∷ []) c.in_ok-key.ensures.ok
    ∙ ap (λ (value : TextValue). c.args.self.now ++ (c.args.name.now, value) ∷ []) first in
    λ g. ap (λ (kept : KeptTexts). kept_text kept g) grown
    ∙ kept_added no_text c.args.self.now c.args.name.now (with_place c.args.placed.now.past.now line no_text) g c.requires.lacking
    ∙ kept_grown no_text c.args.self.now c.args.name.now g no_text (with_place c.args.placed.now.past.now line no_text) (with_place c.args.placed.now.past.now line) (sym (ap (found_or no_text) c.requires.lacking)) refl
