-- An inbox tells each event once, by place.
use Rattle.std.proofs.Common.{◌≡◌, ℕ, zero, suc, ◌+◌, ◌≤◌, inl, inr, Bool, true, false, cond, List, [], ◌∷◌, ◌++◌, length, Option, Some, None, All, refl, sym, ◌∙◌, arith}
use Rattle.std.specs.Prelude.{AllPairs, option_to_list}
use Rattle.std.specs.List.{flat_map, range_with_len}
use Rattle.std.proofs.lemmas.List.Elements.{All-append, All-cons, All-head, All-nil, All-tail, All-weaker}
use Rattle.std.proofs.lemmas.List.Kept.{AllPairs-cons}
use Rattle.std.proofs.lemmas.Option.{none-some}
use Rattle.cpg_record.specs.declared.connections.ConnId.{ConnId}
use Rattle.cpg_record.specs.declared.events.Event.{Event}
use Rattle.cpg_record.specs.declared.events.Event.TheVariants as event
use Rattle.cpg_record.specs.declared.records.Record.{Record}
use Rattle.cpg_record.specs.Connections.{conn_of, is_conn}
use Rattle.cpg_record.specs.Events.{events, events_by, news, news_by}
use Rattle.cpg_record.specs.Membership.{is_allowed}
use Rattle.cpg_record.specs.Places.{record_at, records_before}
use Rattle.cpg_record.specs.Receiving.{is_verdict, place_of, Precedes, ToldInOrder}
use Rattle.cpg_record.proofs.Told.{news_place}

-- ---- pairs

AllPairs-nil : {X : Type 0} (R : X → X → Type 0) → AllPairs R []
AllPairs-nil R i j d before within = absurd (omega arith)

AllPairs-tail : {X : Type 0} (R : X → X → Type 0) (x : X) (xs : List X) → AllPairs R (x ∷ xs) → AllPairs R xs
AllPairs-tail R x xs pairs i j d before within = pairs (suc i) (suc j) d (omega arith) (omega arith)

AllPairs-head : {X : Type 0} (R : X → X → Type 0) (x : X) (xs : List X) → AllPairs R (x ∷ xs) → All (R x) xs
AllPairs-head R x xs pairs k d within = pairs 0 (suc k) d (omega arith) (omega arith)

AllPairs-append : {X : Type 0} (R : X → X → Type 0) (xs ys : List X) → AllPairs R xs → AllPairs R ys → All (λ x. All (R x) ys) xs → AllPairs R (xs ++ ys)
AllPairs-append R [] ys front back across = back
AllPairs-append R (x ∷ xs) ys front back across =
    AllPairs-cons R x (xs ++ ys)
    (All-append (R x) xs ys (AllPairs-head R x xs front) (All-head (λ z. All (R z) ys) x xs across))
    (AllPairs-append R xs ys (AllPairs-tail R x xs front) back (All-tail (λ z. All (R z) ys) x xs across))

-- ---- one place

-- events of one place, in order
record AtPlace (p : ℕ) (list : List Event) : Type 0 where
  there : All (λ told. place_of told ≡ p) list
  ordered : AllPairs Precedes list

nothing_told : (p : ℕ) → AtPlace p []
nothing_told p = record { there = All-nil (λ (told : Event). place_of told ≡ p); ordered = AllPairs-nil Precedes }

one_told : (p : ℕ) (told : Event) → place_of told ≡ p → AtPlace p (told ∷ [])
one_told p told is = record {
  there = All-cons (λ (x : Event). place_of x ≡ p) told [] is (All-nil (λ (x : Event). place_of x ≡ p));
  ordered = AllPairs-cons Precedes told [] (All-nil (Precedes told)) (AllPairs-nil Precedes);
}

two_told : (p : ℕ) (own other : Event) → place_of own ≡ p → is_verdict own ≡ true → place_of other ≡ p → is_verdict other ≡ false → AtPlace p (own ∷ other ∷ [])
two_told p own other is v also n =
    let o = one_told p other also in
    record {
      there = All-cons (λ (x : Event). place_of x ≡ p) own (other ∷ []) is o.there;
      ordered = AllPairs-cons Precedes own (other ∷ [])
          (All-cons (Precedes own) other [] (inr (is ∙ sym also, v, n)) (All-nil (Precedes own))) o.ordered;
    }

-- news are of their place, and no verdict
news_are : (p : ℕ) (before : List Record) (r : Record) (c : ConnId) (o : Option (List ℕ)) (told : Event) → news p before r c o ≡ Some told → (place_of told ≡ p) × (is_verdict told ≡ false)
news_are p before r c None told is = absurd (none-some told is)
news_are p before r c (Some g) told is = by_verdict (is_allowed r.verdict) is
  where
    by_verdict : (b : Bool) → cond b (news_by p before r c g r.entry.op) None ≡ Some told → (place_of told ≡ p) × (is_verdict told ≡ false)
    by_verdict true h = let at = news_place p before r c g r.entry.op told h in (sym at.0, sym at.1)
    by_verdict false h = absurd (none-some told h)

told_there : (p : ℕ) (before : List Record) (c : ConnId) (o : Option Record) → AtPlace p (events_by p before c o)
told_there p before c None = nothing_told p
told_there p before c (Some r) = by_case (is_conn c (conn_of r.entry)) (news p before r c r.group) refl
  where
    by_case : (b : Bool) (n : Option Event) → news p before r c r.group ≡ n → AtPlace p (cond b (event.Verdict p r.verdict ∷ []) [] ++ option_to_list n)
    by_case true None is = one_told p (event.Verdict p r.verdict) refl
    by_case true (Some told) is = let at = news_are p before r c r.group told is in two_told p (event.Verdict p r.verdict) told refl refl at.0 at.1
    by_case false None is = nothing_told p
    by_case false (Some told) is = one_told p told (news_are p before r c r.group told is).0

-- ---- all places

-- events of places from a on, in order
record FromPlace (a : ℕ) (list : List Event) : Type 0 where
  above : All (λ told. a ≤ place_of told) list
  sorted : AllPairs Precedes list

from_place : (f : ℕ → List Event) (a n : ℕ) → ((p : ℕ) → AtPlace p (f p)) → FromPlace a (flat_map f (range_with_len a n))
from_place f a zero at = record { above = All-nil (λ (told : Event). a ≤ place_of told); sorted = AllPairs-nil Precedes }
from_place f a (suc n) at =
    let here = at a in
    let later = from_place f (a + 1) n at in
    record {
      above = All-append (λ (told : Event). a ≤ place_of told) (f a) (flat_map f (range_with_len (a + 1) n))
          (All-weaker (λ (told : Event). place_of told ≡ a) (λ (told : Event). a ≤ place_of told) (λ told is. omega arith) (f a) here.there)
          (All-weaker (λ (told : Event). a + 1 ≤ place_of told) (λ (told : Event). a ≤ place_of told) (λ told is. omega arith) (flat_map f (range_with_len (a + 1) n)) later.above);
      sorted = AllPairs-append Precedes (f a) (flat_map f (range_with_len (a + 1) n)) here.ordered later.sorted
          (All-weaker (λ (told : Event). place_of told ≡ a) (λ (told : Event). All (Precedes told) (flat_map f (range_with_len (a + 1) n)))
          (λ told is. All-weaker (λ (x : Event). a + 1 ≤ place_of x) (Precedes told) (λ x above. inl (omega arith)) (flat_map f (range_with_len (a + 1) n)) later.above)
          (f a) here.there);
    }

pub told_in_order : ToldInOrder
told_in_order rs c = (from_place (λ p. events rs p c) 1 (length rs) (λ p. told_there p (records_before rs p) c (record_at rs p))).sorted
