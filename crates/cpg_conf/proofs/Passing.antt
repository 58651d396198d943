-- a conf text that is gone through once: what its lines say by the lines before them is what they say where
-- they stand
use Rattle.std.proofs.Common.{◌≡◌, ℕ, ◌+◌, ◌==◌, List, [], ◌∷◌, Bool, true, false, ◌&&◌, Result, Ok, Err, refl, sym, ap, ◌∙◌, arith}
use Rattle.std.proofs.lemmas.Bool.Decides.{nat_tests}
use Rattle.std.specs.Prelude.{if◌then◌else◌, codes}
use Rattle.std.specs.Str.{bytes_eq}
use Rattle.cpg_cred.specs.Listed.{Listed}
use Rattle.cpg_cred.specs.declared.refusals.Refusal.{Refusal}
use Rattle.cpg_cred.specs.declared.refusals.Refusal.TheVariants.{BadLine, Unopened, Unclosed}
use Rattle.cpg_text.specs.Lines.{lines_of}
use Rattle.cpg_conf.specs.Lines.{Line, Ignored, Close, Open, Key, Bad}
use Rattle.cpg_conf.specs.Listed.{nothing, and_then, key_said, line_said, lines_said, listed}
use Rattle.cpg_conf.specs.Names.{Known, next_number}
use Rattle.cpg_conf.specs.Sections.{opens, closes, depth, section, number_after}
use Rattle.cpg_conf.specs.Steps.{nesting_after, said_at, said_from, shapes}
use Rattle.cpg_conf.specs.declared.nesting.Nesting.{Nesting}

-- where the line stands, and its number, are what the lines before it make of them
record Agrees (before : List Line) (nesting : Nesting) (number : ℕ) : Type 0 where
  counted : opens before ≡ closes before + nesting.depth
  named : bytes_eq (section before) (codes "uidgid") ≡ nesting.in_uidgid
  numbered : number ≡ number_after before

depth_is : (before : List Line) (nesting : Nesting) (number : ℕ) → Agrees before nesting number → depth before ≡ nesting.depth
depth_is before nesting number agrees = omega (arith, agrees.counted)

next_is : (before : List Line) (line : Line) (number : ℕ) → number ≡ number_after before → next_number number ≡ number_after (line ∷ before)
next_is before line number e = omega (arith, e)

-- the end of the text
end_alike : (before : List Line) (nesting : Nesting) (number : ℕ) → Agrees before nesting number
    → (if opens before == closes before then Ok nothing else Err Unclosed) ≡ (if nesting.depth == 0 then Ok nothing else Err Unclosed)
end_alike before nesting number agrees =
    let same : (opens before == closes before) ≡ (nesting.depth == 0) = grind (arith, nat_tests, agrees.counted) in
    ap (λ test. if test then Ok nothing else Err Unclosed) same

-- a line
line_alike : (names : Known) (before : List Line) (line : Line) (nesting : Nesting) (number : ℕ) → Agrees before nesting number
    → line_said names before line ≡ said_at names nesting number line
line_alike names before Ignored nesting number agrees = refl
line_alike names before Close nesting number agrees =
    ap (λ deep. if deep == 0 then Err (Unopened (number_after before)) else Ok nothing) (depth_is before nesting number agrees)
    ∙ ap (λ told. if nesting.depth == 0 then Err (Unopened told) else Ok nothing) (sym agrees.numbered)
line_alike names before (Open name) nesting number agrees = refl
line_alike names before (Key key value) nesting number agrees =
    ap (λ deep. if (deep == 1) && bytes_eq (section before) (codes "uidgid") then key_said names (number_after before) key value else Ok nothing) (depth_is before nesting number agrees)
    ∙ ap (λ test. if (nesting.depth == 1) && test then key_said names (number_after before) key value else Ok nothing) agrees.named
    ∙ ap (λ told. if (nesting.depth == 1) && nesting.in_uidgid then key_said names told key value else Ok nothing) (sym agrees.numbered)
line_alike names before Bad nesting number agrees = ap (λ told. Err (BadLine told)) (sym agrees.numbered)

-- a section's name, and whether it is the one that is read
name_alike : (test : Bool) (name outer : List ℕ) (flag : Bool) → bytes_eq outer (codes "uidgid") ≡ flag
    → bytes_eq (if test then name else outer) (codes "uidgid") ≡ (if test then bytes_eq name (codes "uidgid") else flag)
name_alike true name outer flag e = refl
name_alike false name outer flag e = e

-- past a line that opens a section
open_agrees : (before : List Line) (name : List ℕ) (nesting : Nesting) (number : ℕ) → Agrees before nesting number
    → Agrees (Open name ∷ before) (nesting_after nesting (Open name)) (next_number number)
open_agrees before name nesting number agrees = record {
  counted = omega (arith, agrees.counted);
  named =
      ap (λ deep. bytes_eq (if deep == 0 then name else section before) (codes "uidgid")) (depth_is before nesting number agrees)
      ∙ name_alike (nesting.depth == 0) name (section before) nesting.in_uidgid agrees.named;
  numbered = next_is before (Open name) number agrees.numbered;
}

-- past a line that closes one
close_agrees : (before : List Line) (nesting : Nesting) (number : ℕ) → (nesting.depth == 0) ≡ false → Agrees before nesting number
    → Agrees (Close ∷ before) (nesting_after nesting Close) (next_number number)
close_agrees before nesting number deep agrees = record {
  counted = grind (arith, nat_tests, agrees.counted, deep);
  named = agrees.named;
  numbered = next_is before Close number agrees.numbered;
}

-- past a close the rest counts only where there was a section to close
close_alike : (test : Bool) (fault : Refusal) (here there : Result Listed Refusal) → (test ≡ false → here ≡ there)
    → and_then (if test then Err fault else Ok nothing) here ≡ and_then (if test then Err fault else Ok nothing) there
close_alike true fault here there same = refl
close_alike false fault here there same = ap (and_then (Ok nothing)) (same refl)

said_alike : (names : Known) (before lines : List Line) (nesting : Nesting) (number : ℕ) → Agrees before nesting number
    → lines_said names before lines ≡ said_from names nesting number lines
said_alike names before [] nesting number agrees = end_alike before nesting number agrees
said_alike names before (Ignored ∷ later) nesting number agrees =
    ap (and_then (Ok nothing)) (said_alike names (Ignored ∷ before) later nesting (next_number number)
    (record { counted = agrees.counted; named = agrees.named; numbered = next_is before Ignored number agrees.numbered }))
said_alike names before (Close ∷ later) nesting number agrees =
    ap (λ said. and_then said (lines_said names (Close ∷ before) later)) (line_alike names before Close nesting number agrees)
    ∙ close_alike (nesting.depth == 0) (Unopened number) (lines_said names (Close ∷ before) later) (said_from names (nesting_after nesting Close) (next_number number) later)
    (λ deep. said_alike names (Close ∷ before) later (nesting_after nesting Close) (next_number number) (close_agrees before nesting number deep agrees))
said_alike names before (Open name ∷ later) nesting number agrees =
    ap (and_then (Ok nothing)) (said_alike names (Open name ∷ before) later (nesting_after nesting (Open name)) (next_number number) (open_agrees before name nesting number agrees))
said_alike names before (Key key value ∷ later) nesting number agrees =
    ap (λ said. and_then said (lines_said names (Key key value ∷ before) later)) (line_alike names before (Key key value) nesting number agrees)
    ∙ ap (and_then (said_at names nesting number (Key key value))) (said_alike names (Key key value ∷ before) later nesting (next_number number)
    (record { counted = agrees.counted; named = agrees.named; numbered = next_is before (Key key value) number agrees.numbered }))
said_alike names before (Bad ∷ later) nesting number agrees = line_alike names before Bad nesting number agrees

-- what a text lists is what its lines say, gone through from the outside
pub begins : (names : Known) (text : List ℕ) (nesting : Nesting) (lines : List (List ℕ)) → nesting ≡ record { depth = 0; in_uidgid = false } → lines ≡ lines_of text
    → listed names text ≡ said_from names nesting 1 (shapes lines)
begins names text nesting lines outside whole =
    said_alike names [] (shapes (lines_of text)) (record { depth = 0; in_uidgid = false }) 1 (record { counted = refl; named = refl; numbered = refl })
    ∙ ap (λ place. said_from names place 1 (shapes (lines_of text))) (sym outside)
    ∙ ap (λ each. said_from names nesting 1 (shapes each)) (sym whole)
