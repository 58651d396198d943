-- the judged entries with one more, and the record of the one that comes next
use Rattle.std.proofs.Common.{◌≡◌, ℕ, ◌+◌, ◌<◌, List, [], ◌∷◌, ◌++◌, length, take, slice_get, Some, sym, ap, subst, ◌∙◌, add-one, arith}
use Rattle.std.proofs.lemmas.List.{length-take}
use Rattle.std.proofs.lemmas.List.Sums.{fold_push}
use Rattle.std.proofs.lemmas.Option.{same_Some, slice_get_within}
use Rattle.cpg_entry.specs.declared.entries.Entry.{Entry}
use Rattle.cpg_record.specs.declared.records.Record.{Record}
use Rattle.cpg_record.specs.Judging.{judged, record_of, with_judgement}
use Rattle.cpg_record.specs.Places.{record_at, records_before}
use Rattle.cpg_record.proofs.Denials.{each_entry_is_judged, prefixes_are_judged_alike}
use Rattle.cpg_record.proofs.Told.{each_is_judged_by_those_before}
use Rattle.cpg_why.specs.Moves.{kept_move, moved, KeptMoves, AreLastMoves}
use Rattle.cpg_why.specs.Findings.{why_at, why_by}
use Rattle.cpg_why.proofs.Moved.{moves_push}
use Rattle.cpg_why.proofs.Tabled.{stands_at}

pub judged_push : (entries : List Entry) (entry : Entry) → judged (entries ++ entry ∷ []) ≡ judged entries ++ record_of (judged entries) entry ∷ []
judged_push entries entry = fold_push with_judgement [] entries entry

-- the kept moves after one entry more
pub moves_after : (old new : KeptMoves) (entries : List Entry) (entry : Entry) (r : Record) (place : ℕ) → AreLastMoves old (judged entries) → r ≡ record_of (judged entries) entry
    → place ≡ length entries + 1 → ((conn : _) → kept_move new conn ≡ moved conn (kept_move old conn) (place, r)) → AreLastMoves new (judged (entries ++ entry ∷ []))
moves_after old new entries entry r place are is at taken =
    let next = record_of (judged entries) entry in
    let here : place ≡ 1 + length (judged entries) = omega (arith, (each_entry_is_judged entries).0) in
    subst (AreLastMoves new) (sym (judged_push entries entry))
    (moves_push old new (judged entries) next are
    (λ conn. taken conn ∙ ap (λ (x : Record). moved conn (kept_move old conn) (place, x)) is ∙ ap (λ (n : ℕ). moved conn (kept_move old conn) (n, next)) here))

-- why the entry of a place was answered as it was, from the entries before it
pub why_next : (entries : List Entry) (index : ℕ) (entry : Entry) → slice_get entries index ≡ Some entry →
    why_at (judged entries) (index + 1) ≡ why_by (judged (take index entries)) (index + 1) (Some (record_of (judged (take index entries)) entry))
why_next entries index entry is =
    let records = judged entries in
    let within : index < length records = omega (arith, slice_get_within entries index entry is, (each_entry_is_judged entries).0) in
    let at = stands_at records index within in
    let told = each_is_judged_by_those_before entries index at.0 at.1 in
    let same : at.0.entry ≡ entry = same_Some at.0.entry entry (sym told.0 ∙ is) in
    let front : take index records ≡ judged (take index entries) = sym (prefixes_are_judged_alike entries index) in
    let next : at.0 ≡ record_of (judged (take index entries)) entry =
    told.1 ∙ ap (λ (rs : List Record). record_of rs at.0.entry) front ∙ ap (record_of (judged (take index entries))) same in
    let before : records_before records (index + 1) ≡ judged (take index entries) = ap (λ n. take n records) (omega arith) ∙ front in
    let stands : record_at records (index + 1) ≡ Some (record_of (judged (take index entries)) entry) = ap (record_at records) (add-one index) ∙ at.1 ∙ ap Some next in
    ap (λ (rs : List Record). why_by rs (index + 1) (record_at records (index + 1))) before
    ∙ ap (why_by (judged (take index entries)) (index + 1)) stands

-- the same, where the entries before it were judged
pub why_passed : (passed entries : List Entry) (index : ℕ) (entry : Entry) (r : Record) → slice_get entries index ≡ Some entry → passed ≡ take index entries
    → r ≡ record_of (judged passed) entry → why_by (judged passed) (length passed + 1) (Some r) ≡ why_at (judged entries) (index + 1)
why_passed passed entries index entry r is front so =
    let within : index < length entries = slice_get_within entries index entry is in
    let count : length passed ≡ index = omega (arith, ap length front, length-take index entries) in
    ap (λ (x : Record). why_by (judged passed) (length passed + 1) (Some x)) so
    ∙ ap (λ (es : List Entry). why_by (judged es) (length passed + 1) (Some (record_of (judged es) entry))) front
    ∙ ap (λ n. why_by (judged (take index entries)) (n + 1) (Some (record_of (judged (take index entries)) entry))) count
    ∙ sym (why_next entries index entry is)
