use Rattle.std.proofs.Common.{◌≡◌, ◌+◌, ◌++◌, ◌∷◌, [], List, length, take, slice_get, Some, refl, sym, ap, ◌∙◌}
use Rattle.std.proofs.lemmas.List.{take_more}
use Rattle.std.proofs.lemmas.Option.{slice_get-get_or}
use Rattle.cpg_entry.specs.declared.entries.Entry.{Entry}
use Rattle.cpg_record.specs.Judging.{judged, record_of}
use Rattle.cpg_why.specs.Findings.{why_at, why_by}
use Rattle.cpg_why.proofs.Chained.{if_ok_then, on_ok_then}
use Rattle.cpg_why.proofs.Walked.{why_passed}
use Rattle.cpg_why.proofs.walk.pass_at.Goals as goal

pub returns-clause-ok : goal.returns-clause-ok
returns-clause-ok c =
    let entries = c.args.entries.now in
    let index = c.args.index in
    let entry = c.index-entries-index.result in
    let more : take (index + 1) entries ≡ take index entries ++ entry ∷ [] =
    take_more entries index entry c.requires.within ∙ ap (λ (e : Entry). take index entries ++ e ∷ []) (sym c.index-entries-index.is) in
    on_ok_then c.pass_explained.result (c.pass_explained.new.walk.policy ≡ c.args.walk.now.policy ++ entry ∷ []) (c.pass_explained.new.walk.policy ≡ take (index + 1) entries)
    (λ is. is ∙ ap (λ (es : List Entry). es ++ entry ∷ []) c.requires.passed ∙ sym more) c.pass_explained.ensures.ok

pub returns-clause-list : goal.returns-clause-list
returns-clause-list c =
    let entries = c.args.entries.now in
    let index = c.args.index in
    let entry = c.index-entries-index.result in
    let passed = c.args.walk.now.policy in
    let stands : slice_get entries index ≡ Some entry = slice_get-get_or entries index entry c.requires.within ∙ ap Some (sym c.index-entries-index.is) in
    if_ok_then c.pass_explained.result (λ list. list.items ≡ why_by (judged passed) (length passed + 1) (Some (record_of (judged passed) entry)))
    (λ list. list.items ≡ why_at (judged entries) (index + 1))
    (λ list is. is ∙ why_passed passed entries index entry (record_of (judged passed) entry) stands c.requires.passed refl) c.pass_explained.ensures.list
