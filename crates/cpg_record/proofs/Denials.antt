-- A denied entry changes nothing, and judging a prefix gives a prefix.
use Rattle.std.proofs.Common.{◌≡◌, ℕ, ◌+◌, ◌-◌, ◌≤◌, false, cond, ◌&&◌, List, [], ◌∷◌, ◌++◌, length, take, zero, suc, refl, sym, ap, ◌∙◌, arith, append_assoc, Option, Some, None}
use Rattle.std.specs.Prelude.{option_to_list}
use Rattle.std.specs.List.{fold, slice_get}
use Rattle.std.proofs.lemmas.List.{take_at, take_all, length-append, take-append-le, append-nil, map-append}
use Rattle.cpg_entry.specs.declared.entries.Entry.{Entry}
use Rattle.cpg_record.specs.declared.records.Record.{Record}
use Rattle.cpg_record.specs.declared.connections.ConnId.{ConnId}
use Rattle.cpg_record.specs.Connections.{conn_of, is_conn}
use Rattle.cpg_record.specs.Events.{events, events_by, answer, news, news_by}
use Rattle.cpg_record.specs.Membership.{is_named, is_allowed, members, group_of}
use Rattle.cpg_record.specs.Places.{record_at}
use Rattle.cpg_record.specs.RuleTables.{named, edited_by, rules_of}
use Rattle.cpg_record.specs.Judging.{judged, with_judgement, record_of, entries_of}
use Rattle.cpg_record.specs.Steps.{members_by, group_by}
use Rattle.cpg_record.specs.Laws.{DenialChangesNothing, PrefixesAreJudgedAlike, EachEntryIsJudged}
use Rattle.cpg_record.proofs.Growing.{members_push, group_of_push, rules_of_push}

-- ---- the last record's events

-- the last of a list
slice_get_last : (rs : List Record) (r : Record) → slice_get (rs ++ r ∷ []) (length rs) ≡ Some r
slice_get_last [] r = refl
slice_get_last (q ∷ rs) r = slice_get_last rs r

-- a denied record has no news
no_news : (place : ℕ) (before : List Record) (r : Record) (conn : ConnId) (g : Option (List ℕ)) → is_allowed r.verdict ≡ false → news place before r conn g ≡ None
no_news place before r conn None denied = refl
no_news place before r conn (Some g) denied = ap (λ b. cond b (news_by place before r conn g r.entry.op) None) denied

last_events : (rs : List Record) (r : Record) (conn : ConnId) →
    events (rs ++ r ∷ []) (1 + length rs) conn ≡ answer (1 + length rs) r conn ++ option_to_list (news (1 + length rs) rs r conn r.group)
last_events rs r conn =
    let at : 1 + length rs - 1 ≡ length rs = omega arith in
    let front : take (1 + length rs - 1) (rs ++ r ∷ []) ≡ rs = ap (λ n. take n (rs ++ r ∷ [])) at ∙ take_at rs (r ∷ []) (length rs) refl in
    let next : 1 + length rs ≡ suc (length rs) = omega arith in
    let last : record_at (rs ++ r ∷ []) (1 + length rs) ≡ Some r = ap (record_at (rs ++ r ∷ [])) next ∙ slice_get_last rs r in
    ap (λ before. events_by (1 + length rs) before conn (record_at (rs ++ r ∷ []) (1 + length rs))) front
    ∙ ap (events_by (1 + length rs) rs conn) last

-- ---- denials

pub denial_changes_nothing : DenialChangesNothing
denial_changes_nothing rs r denied = record {
  same_members = λ g. members_push rs r g ∙ ap (λ b. cond b (members_by r.entry r.entry.op g (members rs g)) (members rs g)) denied;
  same_rules = λ g. rules_of_push rs r g ∙ ap (λ b. cond (b && is_named (named r.entry.op) g) (edited_by (1 + length rs) r.entry.op (rules_of rs g)) (rules_of rs g)) denied;
  same_group = λ conn. group_of_push rs r conn ∙ ap (λ b. cond (b && is_conn conn (conn_of r.entry)) (group_by r.entry.op (group_of rs conn)) (group_of rs conn)) denied;
  one_event = λ conn. last_events rs r conn ∙ ap (λ o. answer (1 + length rs) r conn ++ option_to_list o) (no_news (1 + length rs) rs r conn r.group denied) ∙ append-nil (answer (1 + length rs) r conn);
}

-- ---- prefixes

-- records already there stay in front
grows : (rs : List Record) (es : List Entry) → (n : ℕ) → n ≤ length rs → take n (fold with_judgement rs es) ≡ take n rs
grows rs [] n h = refl
grows rs (e ∷ es) n h =
    grows (rs ++ record_of rs e ∷ []) es n (omega (arith, length-append rs (record_of rs e ∷ [])))
    ∙ take-append-le n rs (record_of rs e ∷ []) h

prefix_from : (rs : List Record) (es : List Entry) (n : ℕ) → fold with_judgement rs (take n es) ≡ take (length rs + n) (fold with_judgement rs es)
prefix_from rs es zero = sym (grows rs es (length rs + 0) (omega arith) ∙ take_all (length rs + 0) rs (omega arith))
prefix_from rs [] (suc n) = sym (take_all (length rs + suc n) rs (omega arith))
prefix_from rs (e ∷ es) (suc n) =
    prefix_from (rs ++ record_of rs e ∷ []) es n
    ∙ ap (λ k. take k (fold with_judgement (rs ++ record_of rs e ∷ []) es)) (omega (arith, length-append rs (record_of rs e ∷ [])))

pub prefixes_are_judged_alike : PrefixesAreJudgedAlike
prefixes_are_judged_alike es n = prefix_from [] es n ∙ ap (λ k. take k (judged es)) (omega arith)

-- ---- a record for each entry

length_from : (rs : List Record) (es : List Entry) → length (fold with_judgement rs es) ≡ length rs + length es
length_from rs [] = omega arith
length_from rs (e ∷ es) = length_from (rs ++ record_of rs e ∷ []) es ∙ omega (arith, length-append rs (record_of rs e ∷ []))

entries_from : (rs : List Record) (es : List Entry) → entries_of (fold with_judgement rs es) ≡ entries_of rs ++ es
entries_from rs [] = sym (append-nil (entries_of rs))
entries_from rs (e ∷ es) =
    entries_from (rs ++ record_of rs e ∷ []) es
    ∙ ap (λ xs. xs ++ es) (map-append (λ (r : Record). r.entry) rs (record_of rs e ∷ []))
    ∙ append_assoc (entries_of rs) (e ∷ []) es

pub each_entry_is_judged : EachEntryIsJudged
each_entry_is_judged es = (length_from [] es ∙ omega arith, entries_from [] es)
