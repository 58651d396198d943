-- What is held once a burst is placed, and what the loops of a visit find there.
use Rattle.std.proofs.Common.{◌≡◌, ◌≢◌, ◌⊎◌, ℕ, suc, ◌+◌, ◌-◌, ◌<◌, ◌≤◌, Bool, true, false, ◌&&◌, ◌||◌, true≢false, List, [], ◌∷◌, ◌++◌, length, take, refl, sym, ap, ◌∙◌, inl, inr, ⊎_elim, arith, nat_lt, nat_le, leb-true, ltb-true, le-leb, get_or}
use Rattle.std.specs.FinMap.{get, insert}
use Rattle.std.proofs.lemmas.Bool.{cases_eq, lt-ltb}
use Rattle.std.proofs.lemmas.List.{take_more, length-take-le}
use Rattle.cpg_ring.specs.States.{Entry, Settings, HeldPlaces, Holds, is_held}
use Rattle.cpg_ring.specs.Visits.{placed, hold_all}
use Rattle.cpg_ring.specs.Laws.{AllHeld, NoneAbove}
use Rattle.cpg_ring.specs.Rings.{RingNode}
use Rattle.cpg_ring.specs.Steps.{hold_from, held_after}
use Rattle.cpg_ring.proofs.Holding.{put_same, put_other, put_cases}
use Rattle.cpg_ring.proofs.Amounts.{placed_held, holds_of, is_some_of}

-- what was held stays held
pub put_holds : (held : HeldPlaces) (k : ℕ) (e : Entry) (place : ℕ) → Holds held place → Holds (insert held k e) place
put_holds held k e place d = ⊎_elim
    (λ (same : place ≡ k). (e, ap (get (insert held k e)) same ∙ put_same held k e))
    (λ (apart : place ≢ k). (d.0, put_other held k e place apart ∙ d.1))
    (cases_eq place k)

pub burst_keeps : (s : Settings) (held : HeldPlaces) (seq : ℕ) (now : List Entry) (place : ℕ) → Holds held place → Holds (hold_all held (placed s seq now)) place
burst_keeps s held seq [] place d = d
burst_keeps s held seq (e ∷ now) place d = burst_keeps s (insert held (suc seq) e) (suc seq) now place (put_holds held (suc seq) e place d)

pub burst_has : (s : Settings) (held : HeldPlaces) (seq : ℕ) (now : List Entry) (place : ℕ) → seq < place → place ≤ seq + length now → Holds (hold_all held (placed s seq now)) place
burst_has s held seq [] place low high = absurd (omega arith)
burst_has s held seq (e ∷ now) place low high = ⊎_elim
    (λ (same : place ≡ suc seq). burst_keeps s (insert held (suc seq) e) (suc seq) now place (e, ap (get (insert held (suc seq) e)) same ∙ put_same held (suc seq) e))
    (λ (apart : place ≢ suc seq). burst_has s (insert held (suc seq) e) (suc seq) now place (omega arith) (omega arith))
    (cases_eq place (suc seq))

same_bool : (b c : Bool) → (b ≡ true → c ≡ true) → (c ≡ true → b ≡ true) → b ≡ c
same_bool true c f g = sym (f refl)
same_bool false true f g = g refl
same_bool false false f g = refl

or_left : (b c : Bool) → b ≡ true → (b || c) ≡ true
or_left b c e = ap (λ x. x || c) e

or_right : (b c d : Bool) → c ≡ true → d ≡ true → (b || c && d) ≡ true
or_right true c d e f = refl
or_right false c d e f = ap (λ x. x && d) e ∙ f

or_cases : (b c d : Bool) → (b || c && d) ≡ true → (b ≡ true) ⊎ ((c ≡ true) × (d ≡ true))
or_cases true c d h = inl refl
or_cases false true true h = inr (refl, refl)
or_cases false true false h = absurd (true≢false (sym h))
or_cases false false d h = absurd (true≢false (sym h))

burst_test : (s : Settings) (held : HeldPlaces) (seq : ℕ) (now : List Entry) (place : ℕ) → is_held (hold_all held (placed s seq now)) place ≡ (is_held held place || nat_lt seq place && nat_le place (seq + length now))
burst_test s held seq now place = same_bool (is_held (hold_all held (placed s seq now)) place) (is_held held place || nat_lt seq place && nat_le place (seq + length now))
    (λ t. ⊎_elim
    (λ old. or_left (is_held held place) (nat_lt seq place && nat_le place (seq + length now)) (is_some_of held place old))
    (λ w. or_right (is_held held place) (nat_lt seq place) (nat_le place (seq + length now)) (lt-ltb seq place w.0) (le-leb place (seq + length now) w.1))
    (placed_held s held seq now place (holds_of (hold_all held (placed s seq now)) place t)))
    (λ t. is_some_of (hold_all held (placed s seq now)) place (⊎_elim
    (λ old. burst_keeps s held seq now place (holds_of held place old))
    (λ w. burst_has s held seq now place (ltb-true seq place w.0) (leb-true place (seq + length now) w.1))
    (or_cases (is_held held place) (nat_lt seq place) (nat_le place (seq + length now)) t)))

-- the test that the code makes
pub after_is : (x : RingNode) (seq count place : ℕ) → count ≤ length x.state.waiting → is_held (held_after x seq count) place ≡ (is_held x.state.held place || nat_lt seq place && nat_le place (seq + count))
after_is x seq count place h = burst_test x.settings x.state.held seq (take count x.state.waiting) place ∙ ap (λ n. is_held x.state.held place || nat_lt seq place && nat_le place (seq + n)) (length-take-le count x.state.waiting h)

pub after_keeps : (x : RingNode) (seq count d : ℕ) → AllHeld x.state.held d → AllHeld (held_after x seq count) d
after_keeps x seq count d all place low high = burst_keeps x.settings x.state.held seq (take count x.state.waiting) place (all place low high)

-- one packet more is placed
placed_push : (s : Settings) (seq : ℕ) (es : List Entry) (e : Entry) → placed s seq (es ++ e ∷ []) ≡ placed s seq es ++ record { ring = s.ring; place = suc (seq + length es); entry = e } ∷ []
placed_push s seq [] e = ap (λ n. record { ring = s.ring; place = suc n; entry = e } ∷ []) (omega arith)
placed_push s seq (x ∷ es) e = ap (λ l. record { ring = s.ring; place = suc seq; entry = x } ∷ l) (placed_push s (suc seq) es e ∙ ap (λ n. placed s (suc seq) es ++ record { ring = s.ring; place = suc n; entry = e } ∷ []) (omega arith))

pub placed_more : (s : Settings) (seq : ℕ) (es : List Entry) (i : ℕ) (d : Entry) → i < length es → placed s seq (take (i + 1) es) ≡ placed s seq (take i es) ++ record { ring = s.ring; place = seq + i + 1; entry = get_or es i d } ∷ []
placed_more s seq es i d h = ap (placed s seq) (take_more es i d h) ∙ (placed_push s seq (take i es) (get_or es i d) ∙ ap (λ n. placed s seq (take i es) ++ record { ring = s.ring; place = n; entry = get_or es i d } ∷ []) (let l = length-take-le i es (omega arith) in omega arith))

-- the places of a burst, one by one
pub from_is : (s : Settings) (held : HeldPlaces) (seq : ℕ) (es : List Entry) → hold_from held seq es ≡ hold_all held (placed s seq es)
from_is s held seq [] = refl
from_is s held seq (e ∷ es) = from_is s (insert held (suc seq) e) (suc seq) es

from_push : (held : HeldPlaces) (seq : ℕ) (es : List Entry) (e : Entry) → hold_from held seq (es ++ e ∷ []) ≡ insert (hold_from held seq es) (suc (seq + length es)) e
from_push held seq [] e = ap (λ n. insert held (suc n) e) (omega arith)
from_push held seq (x ∷ es) e = from_push (insert held (suc seq) x) (suc seq) es e ∙ ap (λ n. insert (hold_from (insert held (suc seq) x) (suc seq) es) (suc n) e) (omega arith)

pub from_more : (held : HeldPlaces) (seq : ℕ) (es : List Entry) (i : ℕ) (d : Entry) → i < length es → hold_from held seq (take (i + 1) es) ≡ insert (hold_from held seq (take i es)) (seq + i + 1) (get_or es i d)
from_more held seq es i d h = ap (hold_from held seq) (take_more es i d h) ∙ (from_push held seq (take i es) (get_or es i d) ∙ ap (λ n. insert (hold_from held seq (take i es)) n (get_or es i d)) (let l = length-take-le i es (omega arith) in omega arith))

pub from_keeps : (held : HeldPlaces) (seq : ℕ) (es : List Entry) (place : ℕ) → Holds held place → Holds (hold_from held seq es) place
from_keeps held seq [] place d = d
from_keeps held seq (e ∷ es) place d = from_keeps (insert held (suc seq) e) (suc seq) es place (put_holds held (suc seq) e place d)

pub from_held : (held : HeldPlaces) (seq : ℕ) (es : List Entry) (place : ℕ) → Holds (hold_from held seq es) place → Holds held place ⊎ ((seq < place) × (place ≤ seq + length es))
from_held held seq [] place d = inl d
from_held held seq (e ∷ es) place d = ⊎_elim
    (λ was. ⊎_elim
    (λ (here : (place ≡ suc seq) × (e ≡ was.0)). let same = here.0 in inr (omega arith, omega arith))
    (λ old. inl (was.0, old))
    (put_cases held (suc seq) e place was.0 was.1))
    (λ w. let l = w.0 in let h = w.1 in inr (omega arith, omega arith))
    (from_held (insert held (suc seq) e) (suc seq) es place d)

-- a burst in the window leaves nothing held above it
pub after_above : (x : RingNode) (seq count top : ℕ) → NoneAbove x.state.held top → count ≤ top - seq → count ≤ length x.state.waiting → NoneAbove (held_after x seq count) top
after_above x seq count top above fits ready place d =
    let len = length-take-le count x.state.waiting ready in
    ⊎_elim (λ old. above place old) (λ w. let low = w.0 in let high = w.1 in omega arith) (placed_held x.settings x.state.held seq (take count x.state.waiting) place d)
