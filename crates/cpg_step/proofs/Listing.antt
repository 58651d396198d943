-- lines put one after the other
use Rattle.std.proofs.Common.{◌≡◌, ℕ, ◌+◌, ◌<◌, List, [], ◌∷◌, ◌++◌, length, map, take, get_or, slice_get, Option, Some, None, refl, sym, ap, ◌∙◌, append_assoc, append-nil, arith}
use Rattle.std.specs.List.{concat, enumerate_from}
use Rattle.std.proofs.lemmas.List.{take_more, length-take-le, map-append}
use Rattle.std.proofs.lemmas.List.Folds.{concat-append}
use Rattle.std.proofs.lemmas.Option.{none-some, get_or_from_slice_get, slice_get-get_or}
use Rattle.cpg_rules.specs.declared.rules.Rule.{Rule}
use Rattle.cpg_record.specs.declared.records.Record.{Record}
use Rattle.cpg_text.proofs.Lined.{enumerate_from-append}
use Rattle.cpg_step.specs.Looks.{numbered}
use Rattle.cpg_step.specs.Steps.{line_of}

-- lines, and one line more
concat_more : (lines : List (List ℕ)) (line : List ℕ) → concat (lines ++ line ∷ []) ≡ concat lines ++ line
concat_more lines line = concat-append lines (line ∷ []) ∙ ap (λ l. concat lines ++ l) (append-nil line)

-- the lines of one record more
records_next : (line : ℕ → Record → List ℕ) (records : List Record) (i : ℕ) (past : Record) → i < length records → get_or records i past ≡ past
    → numbered line (take (i + 1) records) ≡ numbered line (take i records) ++ line (i + 1) past ∷ []
records_next line records i past within e =
    let counted : 1 + length (take i records) ≡ i + 1 = omega (arith, length-take-le i records (omega arith)) in
    ap (numbered line) (take_more records i past within ∙ ap (λ x. take i records ++ x ∷ []) e)
    ∙ (ap (map (λ past. line past.0 past.1)) (enumerate_from-append 1 (take i records) (past ∷ []))
    ∙ (map-append (λ past. line past.0 past.1) (enumerate_from 1 (take i records)) (enumerate_from (1 + length (take i records)) (past ∷ []))
    ∙ ap (λ n. numbered line (take i records) ++ line n past ∷ []) counted))

-- the line of one record more is put
pub record_put : (line : ℕ → Record → List ℕ) (first lines new : List ℕ) (records : List Record) (i : ℕ) (past : Record) → i < length records → get_or records i past ≡ past
    → lines ≡ first ++ concat (numbered line (take i records)) → new ≡ lines ++ line (i + 1) past → new ≡ first ++ concat (numbered line (take (i + 1) records))
record_put line first lines new records i past within e before put =
    put ∙ (ap (λ l. l ++ line (i + 1) past) before ∙ (append_assoc first (concat (numbered line (take i records))) (line (i + 1) past)
    ∙ ap (λ l. first ++ l) (sym (ap concat (records_next line records i past within e) ∙ concat_more (numbered line (take i records)) (line (i + 1) past)))))

-- the rules of one rule more
rules_next : (line : ℕ × Rule → List ℕ) (table : List (ℕ × Rule)) (i : ℕ) (o : Option (ℕ × Rule)) → slice_get table i ≡ o → i < length table
    → concat (map line (take (i + 1) table)) ≡ concat (map line (take i table)) ++ line_of line o
rules_next line [] i None e within = absurd (omega arith)
rules_next line (r ∷ table) i None e within = absurd (none-some (get_or (r ∷ table) i r) (sym e ∙ slice_get-get_or (r ∷ table) i r within))
rules_next line table i (Some rule) e within =
    ap (λ l. concat (map line l)) (take_more table i rule within ∙ ap (λ x. take i table ++ x ∷ []) (get_or_from_slice_get table i rule rule e))
    ∙ (ap concat (map-append line (take i table) (rule ∷ [])) ∙ concat_more (map line (take i table)) (line rule))

-- the line of one rule more is put
pub rule_put : (line : ℕ × Rule → List ℕ) (first lines new : List ℕ) (table : List (ℕ × Rule)) (i : ℕ) → i < length table
    → lines ≡ first ++ concat (map line (take i table)) → new ≡ lines ++ line_of line (slice_get table i) → new ≡ first ++ concat (map line (take (i + 1) table))
rule_put line first lines new table i within before put =
    put ∙ (ap (λ l. l ++ line_of line (slice_get table i)) before ∙ (append_assoc first (concat (map line (take i table))) (line_of line (slice_get table i))
    ∙ ap (λ l. first ++ l) (sym (rules_next line table i (slice_get table i) refl within))))

-- lines and the line after them
pub lines_and_last : (first lines new : List ℕ) (done : List (List ℕ)) (line : List ℕ) → lines ≡ first ++ concat done → new ≡ lines ++ line → new ≡ first ++ concat (done ++ line ∷ [])
lines_and_last first lines new done line before put =
    put ∙ (ap (λ l. l ++ line) before ∙ (append_assoc first (concat done) line ∙ ap (λ l. first ++ l) (sym (concat_more done line))))
