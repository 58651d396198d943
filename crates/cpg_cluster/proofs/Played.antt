-- the script of what was recorded plays the history again
use Rattle.std.proofs.Common.{◌≡◌, ℕ, zero, suc, ◌+◌, ◌<◌, ◌≤◌, ◌%◌, ◌^◌, List, [], ◌∷◌, ◌++◌, length, take, slice_get, Some, option_map, refl, sym, ap, ◌∙◌, subst, arith, length-append, append_assoc}
use mathlib.Core.List.{IsPrefix}
use Rattle.std.proofs.Math.Nat.{mod-add-mod, mod-eq_of_lt}
use Rattle.std.proofs.Math.Seq.{take-append_seam}
use Rattle.std.proofs.lemmas.Option.{same_Some, slice_get-map, slice_get_within}
use Rattle.cpg_board.proofs.Known.{take_next}
use Rattle.cpg_world_laws.specs.declared.events.WorldEvent.{WorldEvent}
use Rattle.cpg_world_laws.specs.declared.events.WorldEvent.TheVariants as events
use Rattle.cpg_world_laws.specs.Worlds.{WorldValue, runs}
use Rattle.cpg_history.specs.declared.histories.Beginning.{Beginning}
use Rattle.cpg_history.specs.declared.traces.Recorded.{Recorded}
use Rattle.cpg_history.specs.Histories.{first_world}
use Rattle.cpg_history.specs.Traces.{WasRecorded, IsWritten, AreRecorded}
use Rattle.cpg_history.proofs.Resting.{prefix_then}
use Rattle.cpg_cluster.specs.TraceScripts.{sent_by, numbered, events_of, IsNumbered}
use Rattle.cpg_cluster.proofs.Ordered.{all_at, sent_by_both}

-- what stands behind a list's front
get_middle : {X : Type 0} (xs : List X) (x : X) (ys : List X) → slice_get ((xs ++ x ∷ []) ++ ys) (length xs) ≡ Some x
get_middle [] x ys = refl
get_middle (z ∷ xs) x ys = get_middle xs x ys

take_begins : {X : Type 0} (xs zs : List X) → IsPrefix xs zs → take (length xs) zs ≡ xs
take_begins xs zs p = ap (take (length xs)) (sym p.1) ∙ take-append_seam xs p.0

some_below : {X : Type 0} (xs : List X) (i : ℕ) → i < length xs → (x : X) × (slice_get xs i ≡ Some x)
some_below [] i less = absurd (omega (arith, less))
some_below (x ∷ xs) zero less = (x, refl)
some_below (x ∷ xs) (suc i) less = some_below xs i (omega (arith, less))

module _ (b : Beginning) (seen : List WorldEvent) (script : List Recorded) (short : length seen < 2 ^ 64)
    (all : AreRecorded (first_world b) seen script) (stamps : (i : ℕ) (r : Recorded) → slice_get script i ≡ Some r → r.stamp ≡ i) where
  abbrev start : WorldValue
  start = first_world b

  abbrev was : (i : ℕ) (r : Recorded) → slice_get script i ≡ Some r → WasRecorded start seen r
  was i r at = all_at (WasRecorded start seen) script i r all at

  begins : (i : ℕ) (r : Recorded) (at : slice_get script i ≡ Some r) → IsPrefix (was i r at).added.log seen
  begins i r at =
      let w = (was i r at).added in
      (((was i r at).event ∷ []) ++ w.here.0, sym (append_assoc w.log ((was i r at).event ∷ []) w.here.0) ∙ w.here.1)

  below : (i : ℕ) (r : Recorded) (at : slice_get script i ≡ Some r) → length (was i r at).added.log < length seen
  below i r at =
      let w = (was i r at).added in
      let long : length ((w.log ++ (was i r at).event ∷ []) ++ w.here.0) ≡ length seen = ap length w.here.1 in
      let front = length-append (w.log ++ (was i r at).event ∷ []) w.here.0 in
      let last = length-append w.log ((was i r at).event ∷ []) in
      counts (length w.log) (length (w.log ++ (was i r at).event ∷ [])) (length w.here.0) (length ((w.log ++ (was i r at).event ∷ []) ++ w.here.0)) (length seen) long front last
    where
      counts : (a c d e f : ℕ) → e ≡ f → e ≡ c + d → c ≡ a + 1 → a < f
      counts a c d e f is front last = omega (arith, is, front, last)

  whole : (stamp n : ℕ) → stamp ≡ n % 2 ^ 64 → n < 2 ^ 64 → stamp ≡ n
  whole stamp n is less = omega (arith, is, less)

  -- the entry of that index is the event of that index
  place_is : (i : ℕ) (r : Recorded) (at : slice_get script i ≡ Some r) → length (was i r at).added.log ≡ i
  place_is i r at =
      let less = below i r at in
      sym (whole r.stamp (length (was i r at).added.log) (was i r at).added.stamped (omega (arith, less, short))) ∙ stamps i r at

  front_is : (i : ℕ) (r : Recorded) (at : slice_get script i ≡ Some r) → take i seen ≡ (was i r at).added.log
  front_is i r at = ap (λ n. take n seen) (sym (place_is i r at)) ∙ take_begins (was i r at).added.log seen (begins i r at)

  event_is : (i : ℕ) (r : Recorded) (at : slice_get script i ≡ Some r) → slice_get seen i ≡ Some (was i r at).event
  event_is i r at =
      let w = (was i r at).added in
      ap (slice_get seen) (sym (place_is i r at)) ∙ (ap (λ l. slice_get l (length w.log)) (sym w.here.1) ∙ get_middle w.log (was i r at).event w.here.0)

  tally : (a c d e f : ℕ) → a ≡ c + d → c ≡ 1 + e → f ≡ e + (d + 0) → a ≡ 1 + f
  tally a c d e f now before more = omega (arith, now, before, more)

  -- the frames sent before the event of that index
  sums : (i : ℕ) → i ≤ length script → length (runs start (take i seen)).sent ≡ 1 + sent_by (take i script)
  sums zero less = refl
  sums (suc i) less = by_entry (sums i (omega (arith, less))) (some_below script i (omega (arith, less)))
    where
      by_entry : length (runs start (take i seen)).sent ≡ 1 + sent_by (take i script) → ((r : Recorded) × (slice_get script i ≡ Some r)) → length (runs start (take (suc i) seen)).sent ≡ 1 + sent_by (take (suc i) script)
      by_entry before entry =
          let r = entry.0 in
          let at = entry.1 in
          let w = (was i r at).added in
          let taken : take (suc i) seen ≡ w.log ++ (was i r at).event ∷ [] = take_next seen i (was i r at).event (event_is i r at) ∙ ap (λ l. l ++ (was i r at).event ∷ []) (front_is i r at) in
          let now : length (runs start (take (suc i) seen)).sent ≡ length (runs start (take i seen)).sent + r.sent =
          ap (λ l. length (runs start l).sent) taken ∙ (w.count ∙ ap (λ l. length (runs start l).sent + r.sent) (sym (front_is i r at))) in
          let more : sent_by (take (suc i) script) ≡ sent_by (take i script) + (r.sent + 0) = ap sent_by (take_next script i r at) ∙ sent_by_both (take i script) (r ∷ []) in
          tally (length (runs start (take (suc i) seen)).sent) (length (runs start (take i seen)).sent) r.sent (sent_by (take i script)) (sent_by (take (suc i) script)) now before more

  -- what is written of an entry is its event, where its number is among 64 bits
  said : (i : ℕ) (r : Recorded) (at : slice_get script i ≡ Some r) (written e : WorldEvent) → IsWritten start (was i r at).added.log r.source written e → IsNumbered e → numbered script r.source written ≡ e
  said i r at (events.Frame node index) e w fits =
      let h = w.1 in
      let log = (was i r at).added.log in
      let within : length h.log ≤ length log = shorter h.log log h.before in
      let less = below i r at in
      let source : r.source ≡ length h.log = whole r.source (length h.log) h.stamped (omega (arith, within, less, short)) in
      let early : r.source ≤ length script = early_enough r.source (length h.log) (length log) i (length script) source within (place_is i r at) (slice_get_within script i r at) in
      let sent : length (runs start h.log).sent ≡ 1 + sent_by (take r.source script) = ap (λ l. length (runs start l).sent) (sym (take_begins h.log seen (prefix_then h.log log seen h.before (begins i r at))) ∙ ap (λ n. take n seen) (sym source)) ∙ sums r.source early in
      let number : w.0 ≡ (2 + sent_by (take r.source script)) + index = counts w.0 (length (runs start h.log).sent) (sent_by (take r.source script)) index h.count sent in
      let fits' : w.0 < 2 ^ 64 = subst IsNumbered w.2 fits in
      ap (λ n. events.Frame node n) (mod-add-mod (2 + sent_by (take r.source script)) (2 ^ 64) index ∙ (ap (λ n. n % 2 ^ 64) (sym number) ∙ mod-eq_of_lt fits')) ∙ sym w.2
    where
      shorter : {X : Type 0} (xs ys : List X) → IsPrefix xs ys → length xs ≤ length ys
      shorter xs ys p = let is = ap length p.1 in let both = length-append xs p.0 in by_length (length xs) (length p.0) (length (xs ++ p.0)) (length ys) is both
        where
          by_length : (a c d e : ℕ) → d ≡ e → d ≡ a + c → a ≤ e
          by_length a c d e is both = omega (arith, is, both)

      early_enough : (s l m i n : ℕ) → s ≡ l → l ≤ m → m ≡ i → i < n → s ≤ n
      early_enough s l m i n is within place less = omega (arith, is, within, place, less)

      counts : (k c d index : ℕ) → k ≡ suc c + index → c ≡ 1 + d → k ≡ (2 + d) + index
      counts k c d index is sent = omega (arith, is, sent)
  said i r at written e w fits = sym w

  pub plays : (i : ℕ) (e : WorldEvent) → i < length script → slice_get seen i ≡ Some e → IsNumbered e → slice_get (events_of script) i ≡ Some e
  plays i e less here fits = by_entry (some_below script i less)
    where
      by_entry : ((r : Recorded) × (slice_get script i ≡ Some r)) → slice_get (events_of script) i ≡ Some e
      by_entry entry =
          let r = entry.0 in
          let at = entry.1 in
          let same : (was i r at).event ≡ e = same_Some (was i r at).event e (sym (event_is i r at) ∙ here) in
          slice_get-map (λ (r : Recorded). numbered script r.source r.event) script i
          ∙ (ap (option_map (λ (r : Recorded). numbered script r.source r.event)) at
          ∙ ap (λ (w : WorldEvent). Some w) (said i r at r.event (was i r at).event (was i r at).written (subst IsNumbered (sym same) fits) ∙ same))

  pub no_longer : length script ≤ length seen
  no_longer = by_length (length script) refl
    where
      by_length : (n : ℕ) → length script ≡ n → length script ≤ length seen
      by_length zero is = omega (arith, is)
      by_length (suc n) is = by_entry (some_below script n (omega (arith, is)))
        where
          by_entry : ((r : Recorded) × (slice_get script n ≡ Some r)) → length script ≤ length seen
          by_entry entry = let less = below n entry.0 entry.1 in let place = place_is n entry.0 entry.1 in omega (arith, is, less, place)
