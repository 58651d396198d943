-- What records leave, gathered from the last record on, and the tables' groups, from the first on.
use Rattle.std.proofs.Common.{◌≡◌, ◌<◌, ◌+◌, ◌-◌, ℕ, Bool, true, false, not, List, [], ◌∷◌, ◌++◌, length, take, get_or, reverse, refl, sym, ap, ◌∙◌, if◌then◌else◌}
use Rattle.std.specs.List.{filter, list_any}
use Rattle.std.proofs.lemmas.List.{take_more}
use Rattle.std.proofs.lemmas.List.Sums.{fold-append}
use Rattle.std.specs.Str.{bytes_eq}
use Rattle.cpg_entry.specs.declared.calls.Call.TheVariants.{Join}
use Rattle.cpg_entry.specs.declared.calls.Op.{Op}
use Rattle.cpg_entry.specs.declared.calls.Op.TheVariants.{Act}
use Rattle.cpg_record.specs.declared.records.Record.{Record}
use Rattle.cpg_record.specs.Connections.{conn_in, conn_of, member_of}
use Rattle.cpg_record.specs.Membership.{Membership, ends, is_allowed, taken_by_join}
use Rattle.cpg_record.proofs.Backwards.{one_or_none}
use Rattle.cpg_record.proofs.Nexts.{same_either_way}
use Rattle.cpg_serve.specs.Carrying.{is_among, lasting, tabled, tables_in, with_names}

-- ---- one record more, which stands before the others

pub same_backwards : (r : Record) (later : List Record) → reverse (lasting r later) ≡ lasting r later
same_backwards r later = by_verdict (is_allowed r.verdict) r.entry.op
  where
    by_verdict : (b : Bool) (op : Op) → reverse (filter (λ (m : Membership). not (list_any (ends (conn_in m.member)) later)) (if b then taken_by_join r.entry op else [])) ≡ filter (λ (m : Membership). not (list_any (ends (conn_in m.member)) later)) (if b then taken_by_join r.entry op else [])
    by_verdict false op = refl
    by_verdict true (Act (Join g)) = one_or_none (not (list_any (ends (conn_of r.entry)) later)) (record { group = g; member = member_of r.entry })
    by_verdict true _ = refl

-- ---- the tables' groups

same_names : (names : List (List ℕ)) (g : List ℕ) → list_any (bytes_eq g) names ≡ is_among names g
same_names names g = λ i. list_any (λ name. same_either_way g name i) names

pub name_put : (names : List (List ℕ)) (g : List ℕ) → (if list_any (bytes_eq g) names then names else names ++ g ∷ []) ≡ with_names names (g ∷ [])
name_put names g = ap (λ (b : Bool). if b then names else names ++ g ∷ []) (same_names names g)

pub tables_more : (records : List Record) (i : ℕ) (r : Record) (names new : List (List ℕ)) → i < length records → r ≡ get_or records i r → names ≡ tables_in (take i records) → new ≡ with_names names (tabled r) → new ≡ tables_in (take (i + 1) records)
tables_more records i r names new within is h k =
    k ∙ ap (λ (l : List (List ℕ)). with_names l (tabled r)) h
    ∙ sym (ap tables_in (take_more records i r within ∙ ap (λ (q : Record). take i records ++ q ∷ []) (sym is)) ∙ fold-append (λ (l : List (List ℕ)) (q : Record). with_names l (tabled q)) [] (take i records) (r ∷ []))
