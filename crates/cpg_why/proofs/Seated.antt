-- entries read from a board, one after the other
use Rattle.std.proofs.Common.{◌≡◌, List, [], ◌∷◌, ◌++◌, sym, ap, ◌∙◌}
use Rattle.std.proofs.lemmas.List.{map-append}
use Rattle.cpg_entry.specs.declared.entries.Entry.{Entry}
use Rattle.cpg_record.specs.declared.records.Record.{Record}
use Rattle.cpg_record.specs.Judging.{entries_of}

-- the entry of one record more
pub entry_read : (old new : List Record) (past : Record) (before after : List Entry) → before ≡ entries_of old → new ≡ old ++ past ∷ [] → after ≡ before ++ past.entry ∷ []
    → after ≡ entries_of new
entry_read old new past before after is more put =
    put ∙ ap (λ (es : List Entry). es ++ past.entry ∷ []) is
    ∙ sym (ap entries_of more ∙ map-append (λ (r : Record). r.entry) old (past ∷ []))
