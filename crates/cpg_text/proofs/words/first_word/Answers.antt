use Rattle.std.proofs.Common.{◌<◌, length, sym, ◌∙◌, arith}
use Rattle.std.proofs.lemmas.Bool.Decides.{nat_tests}
use Rattle.cpg_text.proofs.Blanks.{first_of_words, last_of_words}
use Rattle.cpg_text.proofs.words.first_word.Goals as goal

pub returns-in-None : goal.returns-in-None
returns-in-None c =
    let some : 0 < length c.skip_blanks-line.result.now = grind (arith, nat_tests, c.is_empty.ensures, c.if-is_empty.ensures) in
    sym c.skip_blanks-line.ensures.same ∙ last_of_words c.skip_blanks-line.result.now some (sym c.place_of_blank.ensures ∙ c.in-None.is)

pub returns-in-Some : goal.returns-in-Some
returns-in-Some c =
    sym c.skip_blanks-line.ensures.same
    ∙ first_of_words c.skip_blanks-line.result.now c.in-Some.end c.skip_blanks-line.ensures.start (sym c.place_of_blank.ensures ∙ c.in-Some.is)
