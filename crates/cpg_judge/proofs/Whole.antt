-- what is written and left of a script that was read whole
use Rattle.std.proofs.Common.{◌≡◌, ℕ, ◌≤◌, List, length, Option, Some, None, Ok, Err, sym, subst}
use Rattle.std.specs.Prelude.{Result, OnOk, IfErr, IfSome}
use Rattle.std.specs.List.{concat}
use Rattle.std.specs.Io.KnownBytes.{Appends}
use Rattle.cpg_cred.specs.declared.refusals.Refusal.{Refusal}
use Rattle.cpg_cred.specs.declared.refusals.Refusal.TheVariants as refusal
use Rattle.cpg_entry.specs.declared.entries.Entry.{Entry}
use Rattle.cpg_text.specs.Written.{LeavesLines}
use Rattle.cpg_judge.specs.Judging.{lines_told, Form, IsWritten, Leaves}
use Rattle.cpg_judge.specs.Scripts.{entries_of_script}

-- all lines of its entries are written
pub judged_whole : (form : List ℕ → Form) (result : Result (Unit {0}) Refusal) (remaining : Option (List ℕ)) (text : List ℕ) (entries : List Entry) (most : ℕ) (old new : Option (List ℕ))
    → IfSome remaining (λ bytes. text ≡ bytes) → length text ≤ most → entries_of_script text ≡ Ok entries
    → OnOk result (Appends old new (concat (lines_told (form text) entries)))
    → OnOk result (IfSome remaining (λ script. (length script ≤ most) × IsWritten (form script) (entries_of_script script) old new))
judged_whole form (Err why) remaining text entries most old new same few are put = tt
judged_whole form (Ok done) None text entries most old new same few are put = tt
judged_whole form (Ok done) (Some script) text entries most old new same few are put =
    subst (λ (bytes : List ℕ). (length bytes ≤ most) × IsWritten (form bytes) (entries_of_script bytes) old new) same
    (few, subst (λ (read : Result (List Entry) ℕ). IsWritten (form text) read old new) (sym are) put)

-- a refusal leaves what it leaves of their lines
leaves_lines : (form : Form) (entries : List Entry) (refused : Refusal) (old new : Option (List ℕ)) → LeavesLines (lines_told form entries) refused old new
    → Leaves form (Ok entries) refused old new
leaves_lines form entries refusal.Memory old new left = left
leaves_lines form entries refusal.Write old new left = left
leaves_lines form entries _ old new left = absurd left

pub judged_left : (form : List ℕ → Form) (result : Result (Unit {0}) Refusal) (remaining : Option (List ℕ)) (text : List ℕ) (entries : List Entry) (old new : Option (List ℕ))
    → IfSome remaining (λ bytes. text ≡ bytes) → entries_of_script text ≡ Ok entries
    → IfErr result (λ refused. LeavesLines (lines_told (form text) entries) refused old new)
    → IfErr result (λ refused. IfSome remaining (λ script. Leaves (form script) (entries_of_script script) refused old new))
judged_left form (Ok done) remaining text entries old new same are left = tt
judged_left form (Err refused) None text entries old new same are left = tt
judged_left form (Err refused) (Some script) text entries old new same are left =
    subst (λ (bytes : List ℕ). Leaves (form bytes) (entries_of_script bytes) refused old new) same
    (subst (λ (read : Result (List Entry) ℕ). Leaves (form text) read refused old new) (sym are) (leaves_lines (form text) entries refused old new left))
