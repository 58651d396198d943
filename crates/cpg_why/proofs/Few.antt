-- a script has no more entries than there are places
use Rattle.std.proofs.Common.{◌≡◌, ℕ, ◌+◌, ◌<◌, ◌≤◌, nat_le, Bool, true, false, cond, List, [], ◌∷◌, length, Option, Some, None, Result, Ok, Err, refl, ap, arith}
use Rattle.std.proofs.lemmas.Bool.Decides.{nat_tests}
use Rattle.cpg_entry.specs.declared.entries.Entry.{Entry}
use Rattle.cpg_record.specs.Judging.{most_places}
use Rattle.cpg_text.specs.Lines.{words_of}
use Rattle.cpg_text.specs.Commands.{commands_of}
use Rattle.cpg_text.specs.Reading.{item_then, items_after}
use Rattle.cpg_print.specs.Entries.{entry_of}
use Rattle.cpg_judge.specs.Scripts.{entry_in, entries_of_script}

-- where a line has an entry there is room for it
room : (before : ℕ) (line : List ℕ) (entry : Entry) → entry_in before line ≡ Some entry → before < most_places
room before line entry is = by_case (nat_le most_places before) refl is
  where
    by_case : (b : Bool) → nat_le most_places before ≡ b → cond b None (entry_of (words_of line)) ≡ Some entry → before < most_places
    by_case true test h = absurd (cc)
    by_case false test h = grind (arith, nat_tests)

few_after : (lines : List (ℕ × List ℕ)) (before : ℕ) (entries : List Entry) → before ≤ most_places → items_after entry_in before lines ≡ Ok entries →
    before + length entries ≤ most_places
few_after [] before [] h is = omega arith
few_after [] before (e ∷ es) h is = absurd (cc)
few_after (line ∷ later) before entries h is = by_case (entry_in before line.1) (items_after entry_in (before + 1) later) refl refl (few_after later (before + 1)) is
  where
    by_case : (found : Option Entry) (rest : Result (List Entry) ℕ) → entry_in before line.1 ≡ found → items_after entry_in (before + 1) later ≡ rest →
        ((es : List Entry) → before + 1 ≤ most_places → items_after entry_in (before + 1) later ≡ Ok es → before + 1 + length es ≤ most_places) →
        item_then line.0 found rest ≡ Ok entries → before + length entries ≤ most_places
    by_case None rest one others more so = absurd (cc)
    by_case (Some e) (Err bad) one others more so = absurd (cc)
    by_case (Some e) (Ok es) one others more so =
        let within : before < most_places = room before line.1 e one in
        let same : e ∷ es ≡ entries = cc in
        let count : 1 + length es ≡ length entries = omega (arith, ap length same) in
        omega (arith, more es (omega arith) others)

pub entries_few : (script : List ℕ) (entries : List Entry) → entries_of_script script ≡ Ok entries → length entries ≤ most_places
entries_few script entries is = omega (arith, few_after (commands_of script) 0 entries (omega arith) is)
