-- What the definitions of a visit amount to.
use Rattle.std.proofs.Common.{◌≡◌, ◌⊎◌, ℕ, zero, suc, ◌+◌, ◌-◌, ◌<◌, ◌≤◌, Bool, true, false, not, ◌&&◌, ◌||◌, true≢false, List, [], ◌∷◌, length, take, drop, Option, Some, None, Contains, refl, sym, ap, ◌∙◌, inl, inr, ⊎_elim, arith, length-take, if◌then◌else◌, ◌==◌, nat_lt, nat_le, is_some, ltb-false, eqb-true, leb-true, le-leb}
use Rattle.std.specs.List.{filter, list_any, AllByRecursion, cons_option}
use Rattle.std.specs.Option.{option_map}
use Rattle.std.specs.FinMap.{get, insert, keys, contains_key-keys}
use Rattle.std.specs.Ordering.{nat_cmp, eq_by_cmp}
use Rattle.std.specs.Cmp.{unsigned_tied}
use Rattle.std.proofs.lemmas.Option.{none-some}
use Rattle.std.proofs.lemmas.Bool.{cases_lt}
use Rattle.std.proofs.lemmas.List.Elements.{All-from_recursion, All-append}
use Rattle.cpg_cred.specs.declared.refusals.Refusal.TheVariants.{Foreign, NotMine, Stale, Implausible, RingEnd}
use Rattle.cpg_entry.specs.declared.ranges.TheConstants.{MOST_REQUESTS}
use Rattle.cpg_ring.specs.declared.settings.TheConstants.{WINDOW}
use Rattle.cpg_ring.specs.States.{Entry, Token, Packet, Settings, IsSettings, HeldPlaces, Holds, NodeState, is_held}
use Rattle.cpg_ring.specs.Visits.{node_of, is_past, token_refusal, served, burst_size, placed, hold_all, held_through, reach, sets_aru, next_aru, up_to, is_wanted, visit_with, visit_step}
use Rattle.cpg_entry.specs.Ranges.{Ascends, IsToken}
use Rattle.cpg_ring.specs.Laws.{AllHeld, NoneAbove, IsGreatestHeld, LacksPlace, IsLeastMissing, IsVisit}
use Rattle.cpg_ring.proofs.Holding.{put_other, put_cases}
use Rattle.cpg_ring.proofs.Tours.{holds_to}
use Rattle.cpg_ring.proofs.Asking.{ascends_take, ascends_within, ascends_filter, contains_filter, passes, any_from_contains, contains_from_any}

-- the greatest, of those no more than so many further
through_greatest : (held : HeldPlaces) (a more b : ℕ) → AllHeld held b → b ≤ a + more → b ≤ held_through held a more
through_greatest held a zero b all l = omega arith
through_greatest held a (suc more) b all l = by_next (get held (suc a)) refl (through_greatest held (suc a) more b all (omega arith))
  where
    by_next : (o : Option Entry) → get held (suc a) ≡ o → b ≤ held_through held (suc a) more → b ≤ (if is_some o then held_through held (suc a) more else a)
    by_next (Some e) is next = next
    by_next None is next = ⊎_elim
        (λ (less : a < b). let d = all (suc a) (omega arith) less in absurd (none-some d.0 (sym is ∙ d.1)))
        (λ (h : b ≤ a). h)
        (cases_lt a b)

through_within : (held : HeldPlaces) (a more : ℕ) → held_through held a more ≤ a + more
through_within held a zero = omega arith
through_within held a (suc more) = by_next (is_held held (suc a)) (through_within held (suc a) more)
  where
    by_next : (b : Bool) → held_through held (suc a) more ≤ suc a + more → (if b then held_through held (suc a) more else a) ≤ a + suc more
    by_next true l = omega arith
    by_next false l = omega arith

greatest_held : (held : HeldPlaces) (seq : ℕ) → NoneAbove held seq → IsGreatestHeld held (reach held seq)
greatest_held held seq above = record {
  all = λ place low high. holds_to held seq place low high;
  greatest = λ b all. through_greatest held 0 seq b all (let l = within b all in omega arith);
}
  where
    within : (b : ℕ) → AllHeld held b → b ≤ seq
    within zero all = omega arith
    within (suc b) all = above (suc b) (all (suc b) (omega arith) (omega arith))

none_key_above : (seq place : ℕ) (ks : List ℕ) → list_any (nat_lt seq) ks ≡ false → list_any (eq_by_cmp nat_cmp place) ks ≡ true → place ≤ seq
none_key_above seq place [] n t = absurd (true≢false (sym t))
none_key_above seq place (k ∷ ks) n t = by_tests (nat_lt seq k) (eq_by_cmp nat_cmp place k) refl refl n t (none_key_above seq place ks)
  where
    by_tests : (b c : Bool) → nat_lt seq k ≡ b → eq_by_cmp nat_cmp place k ≡ c → (b || list_any (nat_lt seq) ks) ≡ false → (c || list_any (eq_by_cmp nat_cmp place) ks) ≡ true → (list_any (nat_lt seq) ks ≡ false → list_any (eq_by_cmp nat_cmp place) ks ≡ true → place ≤ seq) → place ≤ seq
    by_tests true c e f n t more = absurd (true≢false n)
    by_tests false true e f n t more = let l = ltb-false seq k e in let same : place ≡ k = eqb-true place k (sym (unsigned_tied place k) ∙ f) in omega arith
    by_tests false false e f n t more = more n t

none_above : (held : HeldPlaces) (seq : ℕ) → list_any (nat_lt seq) (keys held) ≡ false → NoneAbove held seq
none_above held seq n place d = none_key_above seq place (keys held) n (sym (contains_key-keys held place) ∙ ap is_some d.1)

-- what holds of a token that is accepted
pub record Accepted (s : Settings) (r : NodeState) (t : Token) : Type 0 where
  pub above : NoneAbove r.held t.seq
  pub seq : t.seq ≤ s.places
  pub hop : t.hop < s.hops

pub accepted : (s : Settings) (n : ℕ) (r : NodeState) (t : Token) → token_refusal s n r t ≡ None → Accepted s r t
accepted s n r t none = by_tests (t.ring == s.ring) (node_of s t.hop == n) (is_past t.hop r.last_hop) (list_any (nat_lt t.seq) (keys r.held)) (nat_lt s.places t.seq) (nat_le s.hops t.hop) refl refl refl none
  where
    some-none : (x : Rattle.cpg_cred.specs.declared.refusals.Refusal.Refusal) → Some x ≡ None → ⊥
    some-none x e = none-some x (sym e)

    not_le : nat_le s.hops t.hop ≡ false → t.hop < s.hops
    not_le z = ⊎_elim (λ (l : t.hop < s.hops). l) (λ (g : s.hops ≤ t.hop). absurd (true≢false (sym (le-leb s.hops t.hop g) ∙ z))) (cases_lt t.hop s.hops)

    by_tests : (a b c d e f : Bool) → list_any (nat_lt t.seq) (keys r.held) ≡ d → nat_lt s.places t.seq ≡ e → nat_le s.hops t.hop ≡ f → (if not a then Some Foreign else if not b then Some NotMine else if c then Some Stale else if d || e then Some Implausible else if f then Some RingEnd else None) ≡ None → Accepted s r t
    by_tests false b c d e f x y z h = absurd (some-none Foreign h)
    by_tests true false c d e f x y z h = absurd (some-none NotMine h)
    by_tests true true true d e f x y z h = absurd (some-none Stale h)
    by_tests true true false true e f x y z h = absurd (some-none Implausible h)
    by_tests true true false false true f x y z h = absurd (some-none Implausible h)
    by_tests true true false false false true x y z h = absurd (some-none RingEnd h)
    by_tests true true false false false false x y z h = record {
      above = none_above r.held t.seq x;
      seq = ltb-false s.places t.seq y;
      hop = not_le z;
    }

-- the places of a burst are those after seq
pub placed_held : (s : Settings) (held : HeldPlaces) (seq : ℕ) (now : List Entry) (place : ℕ) → Holds (hold_all held (placed s seq now)) place → Holds held place ⊎ ((seq < place) × (place ≤ seq + length now))
placed_held s held seq [] place d = inl d
placed_held s held seq (e ∷ now) place d = ⊎_elim
    (λ was. ⊎_elim
    (λ (here : (place ≡ suc seq) × (e ≡ was.0)). let same = here.0 in inr (omega arith, omega arith))
    (λ old. inl (was.0, old))
    (put_cases held (suc seq) e place was.0 was.1))
    (λ w. let l = w.0 in let h = w.1 in inr (omega arith, omega arith))
    (placed_held s (insert held (suc seq) e) (suc seq) now place d)

pub placed_keeps : (s : Settings) (held : HeldPlaces) (seq : ℕ) (now : List Entry) (place : ℕ) → place ≤ seq → get (hold_all held (placed s seq now)) place ≡ get held place
placed_keeps s held seq [] place l = refl
placed_keeps s held seq (e ∷ now) place l = placed_keeps s (insert held (suc seq) e) (suc seq) now place (omega arith) ∙ put_other held (suc seq) e place (λ same. omega arith)

-- the test of a place asked for, in words
pub is_some_of : (held : HeldPlaces) (place : ℕ) → Holds held place → is_held held place ≡ true
is_some_of held place d = ap is_some d.1

pub holds_of : (held : HeldPlaces) (place : ℕ) → is_held held place ≡ true → Holds held place
holds_of held place t = by_value (get held place) refl t
  where
    by_value : (o : Option Entry) → get held place ≡ o → is_some o ≡ true → Holds held place
    by_value None e t = absurd (true≢false (sym t))
    by_value (Some x) e t = (x, e)

pub lacks_of : (b : Bool) → (b ≡ true → ⊥) → not b ≡ true
lacks_of true h = absurd (h refl)
lacks_of false h = refl

pub and_parts : (a b c : Bool) → (not a && (b || c)) ≡ true → (a ≡ true → ⊥) × ((b ≡ true) ⊎ (c ≡ true))
and_parts true b c h = absurd (true≢false (sym h))
and_parts false true c h = ((λ e. true≢false (sym e)), inl refl)
and_parts false false true h = ((λ e. true≢false (sym e)), inr refl)
and_parts false false false h = absurd (true≢false (sym h))

pub and_whole : (a b c : Bool) → (a ≡ true → ⊥) → (b ≡ true) ⊎ (c ≡ true) → (not a && (b || c)) ≡ true
and_whole true b c n h = absurd (n refl)
and_whole false b c n h = ⊎_elim (λ e. rw e refl) (λ e. or_true b e) h
  where
    or_true : (b : Bool) {c : Bool} → c ≡ true → (b || c) ≡ true
    or_true true e = refl
    or_true false e = e

-- a packet of a place that the ring has
abbrev pub InRange : Settings → Packet → Type 0
InRange s p = (1 ≤ p.place) × (p.place ≤ s.places)

module _ (s : Settings) (n : ℕ) (r : NodeState) (t : Token) (now rest : List Entry) (ok : Accepted s r t) (range : IsToken t) where
  abbrev new_held : HeldPlaces
  new_held = hold_all r.held (placed s t.seq now)

  above' : NoneAbove new_held (t.seq + length now)
  above' place d = ⊎_elim (λ old. let l = ok.above place old in omega arith) (λ w. w.1) (placed_held s r.held t.seq now place d)

  wanted_is_missing : (place : ℕ) → (Contains (filter (is_wanted new_held r.delivered t.rtr) (up_to (t.seq + length now))) place) → LacksPlace r t (visit_with s n r t now rest) place
  wanted_is_missing place c =
      let w = passes (is_wanted new_held r.delivered t.rtr) (t.seq + length now) place c in
      let d = and_parts (is_held new_held place) (nat_le place (r.delivered + WINDOW)) (list_any (λ p. p == place) t.rtr) w.2 in
      let lacks : ¬ Holds new_held place = λ h. d.0 (is_some_of new_held place h) in
      ⊎_elim
      (λ near. let l : place ≤ r.delivered + WINDOW = leb-true place (r.delivered + WINDOW) near in let h = w.1 in inr (w.0, omega arith, lacks))
      (λ asked. let in_rtr = contains_from_any t.rtr place asked in inl (in_rtr, λ h. lacks (h.0, placed_keeps s r.held t.seq now place (ascends_within 0 t.seq t.rtr place range.rtr in_rtr).1 ∙ h.1)))
      d.1

  missing_is_wanted : (place : ℕ) → LacksPlace r t (visit_with s n r t now rest) place → Contains (filter (is_wanted new_held r.delivered t.rtr) (up_to (t.seq + length now))) place
  missing_is_wanted place (inl a) =
      let w = ascends_within 0 t.seq t.rtr place range.rtr a.0 in
      let low = w.0 in
      let high = w.1 in
      let free = a.1 in
      contains_filter (is_wanted new_held r.delivered t.rtr) (t.seq + length now) place (omega arith) (omega arith)
      (and_whole (is_held new_held place) (nat_le place (r.delivered + WINDOW)) (list_any (λ p. p == place) t.rtr)
      (λ h. let d = holds_of new_held place h in free (d.0, sym (placed_keeps s r.held t.seq now place w.1) ∙ d.1))
      (inr (any_from_contains t.rtr place a.0)))
  missing_is_wanted place (inr a) =
      let l = a.1 in
      let free = a.2 in
      contains_filter (is_wanted new_held r.delivered t.rtr) (t.seq + length now) place a.0 (omega arith)
      (and_whole (is_held new_held place) (nat_le place (r.delivered + WINDOW)) (list_any (λ p. p == place) t.rtr)
      (λ h. free (holds_of new_held place h))
      (inl (le-leb place (r.delivered + WINDOW) (omega arith))))

  requests : IsLeastMissing MOST_REQUESTS r t (visit_with s n r t now rest) (visit_with s n r t now rest).token.rtr
  requests = record {
    whole = filter (is_wanted new_held r.delivered t.rtr) (up_to (t.seq + length now));
    ascends = ascends_filter (is_wanted new_held r.delivered t.rtr) (t.seq + length now);
    has = λ place. (wanted_is_missing place, missing_is_wanted place);
    first = refl;
  }

  aru_within : next_aru n (reach new_held (t.seq + length now)) t ≤ t.seq + length now
  aru_within = by_test (sets_aru n (reach new_held (t.seq + length now)) t)
    where
      by_test : (b : Bool) → (if b then reach new_held (t.seq + length now) else t.aru) ≤ t.seq + length now
      by_test true = let l = through_within new_held 0 (t.seq + length now) in omega arith
      by_test false = let l = range.aru in omega arith

  asked_served : (asked : List ℕ) → Ascends 0 t.seq asked → AllByRecursion (InRange s) (served s r.held asked)
  asked_served asked a = from 0 asked a
    where
      from : (low : ℕ) (asked : List ℕ) → Ascends low t.seq asked → AllByRecursion (InRange s) (served s r.held asked)
      from low [] a = tt
      from low (place ∷ asked) a = one (from place asked a.2) (get r.held place)
        where
          one : AllByRecursion (InRange s) (served s r.held asked) → (o : Option Entry) → AllByRecursion (InRange s) (cons_option (option_map (λ e. record { ring = s.ring; place = place; entry = e }) o) (served s r.held asked))
          one more None = more
          one more (Some e) = ((let l = a.0 in omega arith, let l = a.1 in let k = ok.seq in omega arith), more)

placed_within : (s : Settings) (seq : ℕ) (now : List Entry) → seq + length now ≤ s.places → AllByRecursion (InRange s) (placed s seq now)
placed_within s seq [] l = tt
placed_within s seq (e ∷ now) l = ((omega arith, omega arith), placed_within s (suc seq) now (omega arith))

pub visit_is : (s : Settings) (n : ℕ) (r : NodeState) (t : Token) → IsSettings s → IsToken t → token_refusal s n r t ≡ None → IsVisit s r t (visit_step s n r t)
visit_is s n r t settings range none =
    let ok = accepted s n r t none in
    let k = burst_size s r t.seq in
    let now = take k r.waiting in
    let rest = drop k r.waiting in
    let count : length now ≤ s.places - t.seq = let l = length-take k r.waiting in omega arith in
    let low = ok.seq in
    let room : t.seq + length now ≤ s.places = omega arith in
    let hop = ok.hop in
    let most_places = settings.places.1 in
    let most_hops = settings.hops.1 in
    record {
      reach = greatest_held _ (t.seq + length now) (above' s n r t now rest ok range);
      requests = requests s n r t now rest ok range;
      token = record {
        hop = omega arith;
        seq = omega arith;
        aru = aru_within s n r t now rest ok range;
        count = let l = length-take MOST_REQUESTS (filter (is_wanted (hold_all r.held (placed s t.seq now)) r.delivered t.rtr) (up_to (t.seq + length now))) in omega arith;
        rtr = ascends_take 0 (t.seq + length now) MOST_REQUESTS _ (ascends_filter (is_wanted (hold_all r.held (placed s t.seq now)) r.delivered t.rtr) (t.seq + length now));
      };
      seq = room;
      hop = omega arith;
      packets = All-append (InRange s) (served s r.held t.rtr) (placed s t.seq now) (All-from_recursion (InRange s) _ (asked_served s n r t now rest ok range t.rtr range.rtr)) (All-from_recursion (InRange s) _ (placed_within s t.seq now room));
    }
