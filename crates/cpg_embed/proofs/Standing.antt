-- The records at the places of joins take the memberships that last.
use Rattle.std.proofs.Common.{◌≡◌, ℕ, suc, ◌+◌, Bool, true, false, not, ◌&&◌, List, [], ◌∷◌, ◌++◌, if◌then◌else◌, refl, sym, ap, ◌∙◌, arith}
use Rattle.std.specs.Prelude.{Some}
use Rattle.std.specs.List.{filter, flat_map, list_any, slice_get}
use Rattle.std.proofs.lemmas.List.Concat.{flat_map-append}
use Rattle.cpg_entry.specs.declared.calls.Call.TheVariants.{Join, Leave, Send, Insert, Remove}
use Rattle.cpg_entry.specs.declared.calls.Op.{Op}
use Rattle.cpg_entry.specs.declared.calls.Op.TheVariants.{Act, Gone}
use Rattle.cpg_entry.specs.declared.entries.Entry.{Entry}
use Rattle.cpg_record.specs.declared.records.Record.{Record}
use Rattle.cpg_record.specs.Connections.{conn_of, conn_in, member_of}
use Rattle.cpg_record.specs.Membership.{Membership, is_allowed, ends, memberships, taken, taken_by_join}
use Rattle.cpg_record.specs.Places.{record_at}
use Rattle.cpg_embed.specs.Laws.{taken_in}
use Rattle.cpg_embed.specs.Seats.{is_join, seat_at, seats_from}

-- of one record: its place is told exactly where its membership lasts
of_one : (allowed ended : Bool) (entry : Entry) (op : Op) (place : ℕ) (f : ℕ → List Membership) (p : Membership → Bool) →
    f place ≡ (if allowed then taken_by_join entry op else []) → ((g : List ℕ) → p (record { group = g; member = member_of entry }) ≡ not ended) →
    flat_map f (if (allowed && is_join op) && not ended then place ∷ [] else []) ≡ filter p (if allowed then taken_by_join entry op else [])
of_one false ended entry op place f p is lasts = refl
of_one true true entry (Act (Join g)) place f p is lasts =
    sym (ap (λ b. if b then record { group = g; member = member_of entry } ∷ [] else []) (lasts g))
of_one true false entry (Act (Join g)) place f p is lasts =
    ap (λ x. x ++ []) is ∙ sym (ap (λ b. if b then record { group = g; member = member_of entry } ∷ [] else []) (lasts g))
of_one true ended entry (Act Leave) place f p is lasts = refl
of_one true ended entry (Act (Send message)) place f p is lasts = refl
of_one true ended entry (Act (Insert g index rule)) place f p is lasts = refl
of_one true ended entry (Act (Remove g id)) place f p is lasts = refl
of_one true ended entry Gone place f p is lasts = refl

-- of the records from an index on
of_rest : (all rest : List Record) (n : ℕ) → ((j : ℕ) → slice_get all (n + j) ≡ slice_get rest j) →
    flat_map (λ place. taken_in (record_at all place)) (seats_from (suc n) rest) ≡ memberships rest
of_rest all [] n at = refl
of_rest all (r ∷ later) n at =
    let f : ℕ → List Membership = λ place. taken_in (record_at all place) in
    let first : slice_get all n ≡ Some r = ap (slice_get all) (omega arith) ∙ at 0 in
    flat_map-append f (seat_at (suc n) r later) (seats_from (suc (suc n)) later)
    ∙ (ap (λ x. x ++ flat_map f (seats_from (suc (suc n)) later))
    (of_one (is_allowed r.verdict) (list_any (ends (conn_of r.entry)) later) r.entry r.entry.op (suc n) f
    (λ membership. not (list_any (ends (conn_in membership.member)) later)) (ap taken_in first) (λ g. refl))
    ∙ ap (λ x. filter (λ membership. not (list_any (ends (conn_in membership.member)) later)) (taken r) ++ x)
    (of_rest all later (suc n) (λ j. ap (slice_get all) (omega arith) ∙ at (suc j))))

pub seats_last : (records : List Record) → flat_map (λ place. taken_in (record_at records place)) (seats_from 1 records) ≡ memberships records
seats_last records = of_rest records records 0 (λ j. ap (slice_get records) (omega arith))
