use Rattle.std.proofs.Common.{[], ◌∷◌, ◌++◌, take, ap, sym, append_assoc, ◌∙◌}
use Rattle.cpg_hint.specs.Marks.{blanks}
use Rattle.cpg_hint.proofs.Texts.{blank_more}
use Rattle.cpg_hint.proofs.marks.put_blanks.Goals as goal

pub loop-character-preserved : goal.loop-character-preserved
loop-character-preserved c =
    let old = c.args.text.now.items in
    let done = blanks (take c.loop-character._character-index c.args.before.now) in
    c.in_ok-put_byte.ensures.ok ∙ ap (λ text. text ++ (32 ∷ [])) c.loop-character.invariant ∙ append_assoc old done (32 ∷ [])
    ∙ ap (λ text. old ++ text) (sym (blank_more c.args.before.now c.loop-character._character-index c.loop-character-test.true))
