-- Each step keeps the one history.
use Rattle.std.proofs.Common.{◌≡◌, ◌≢◌, ◌⊎◌, Bool, true, false, true≢false, ℕ, zero, suc, ◌+◌, ◌<◌, ◌%◌, ◌^◌, List, [], ◌∷◌, ◌++◌, length, set, eqb, eq-eqb, ne_eqb, refl, sym, ap, ◌∙◌, subst, inl, inr, ⊎_elim, arith, length-append, slice_set}
use Rattle.std.specs.Prelude.{slice_index}
use Rattle.std.proofs.Math.Nat.{mod-add-mod}
use mathlib.Core.Option.{some, some-ne-none, some-injective}
use mathlib.Core.List.{IsPrefix}
use prog.Atomic.{either}
use lib.ListN.{get_elem?}
use Rattle.atomic_table.specs.Table.{keeps, Me, Step, Allows, Splits, Joins}
use Rattle.atomic_table.proofs.Lists.{at_set, set_again}
use Rattle.cpg_world_laws.specs.declared.events.WorldEvent.{WorldEvent}
use Rattle.cpg_board.specs.declared.words.View.{View}
use Rattle.cpg_world_laws.specs.Worlds.{node_in}
use Rattle.atomic_table.specs.Seated.{TableId}
use Rattle.cpg_board.specs.Words.{is_counted, view, Owns, FitsHistory, Kept, spread, many_words, words_of}
use Rattle.cpg_history.specs.Histories.{Adds, Looks, first_node, other_nodes, front_of, told, nobody, TellsCatch}
use Rattle.cpg_history.proofs.Runs.{prefix_self, prefix_on}
use Rattle.cpg_history.proofs.Resting.{rests_on, rests_before, rests_behind}
use Rattle.cpg_board.proofs.Counting.{Rule, rests_self}

-- it is so of each pass
abbrev Each : List View → (ℕ → View → Type 0) → Type 0
Each views Says = (by : ℕ) (v : View) → get_elem? views by ≡ some v → Says by v

each_after : (views : List View) (Was Is : ℕ → View → Type 0) (by : ℕ) (w : View) → Each views Was → Is by w → ((other : ℕ) (u : View) → other ≢ by → Was other u → Is other u) → Each (set views by w) Is
each_after views Was Is by w was mine others j u at =
    ⊎_elim (λ (here : (j ≡ by) × (w ≡ u)). subst (λ k. Is k u) (sym here.0) (subst (Is by) here.1 mine)) (λ (there : (j ≢ by) × (get_elem? views j ≡ some u)). others j u there.0 (was j u there.1)) (at_set views by j w u at)

-- a pass of a list with one more is one of the list, or the one more, which is the last
last_of : (views : List View) (more v : View) (j : ℕ) → get_elem? (views ++ more ∷ []) j ≡ some v → (get_elem? views j ≡ some v) ⊎ ((j ≡ length views) × (more ≡ v))
last_of [] more v zero at = inr (refl, some-injective more v at)
last_of [] more v (suc j) at = absurd (some-ne-none v (sym at))
last_of (x ∷ xs) more v zero at = inl at
last_of (x ∷ xs) more v (suc j) at = ⊎_elim (λ front. inl front) (λ (end : (j ≡ length xs) × (more ≡ v)). inr (ap suc end.0, end.1)) (last_of xs more v j at)

-- whoever has no node of its own fits where it has seen a beginning
idle : (log : List WorldEvent) (seat : ℕ → ℕ) (by : ℕ) (seen also : List WorldEvent) (number : ℕ) → IsPrefix seen log → IsPrefix also log → FitsHistory log seat by (view 0 0 seen also number)
idle log seat by seen also number one other = record { seen = one; also = other; own = λ n owns. absurd (omega (arith, owns.1)) }

-- another pass still fits, once an event was added at a node that is not its own
other_fits : (log : List WorldEvent) (e : WorldEvent) (seat : ℕ → ℕ) (by j : ℕ) (u : View) → seat (node_in e) ≡ by → j ≢ by → FitsHistory log seat j u → FitsHistory (log ++ e ∷ []) seat j u
other_fits log e seat by j u mine apart fits = record {
  seen = prefix_on u.seen log (e ∷ []) fits.seen;
  also = prefix_on u.also log (e ∷ []) fits.also;
  own = λ n owns.
      let was = fits.own n owns in
      let else_where : node_in e ≢ n = λ same. apart (sym was.0 ∙ (ap seat (sym same) ∙ mine)) in
      (was.0, rests_on n u.seen log e was.1 else_where);
}

counts : (words : List ℕ) (log : List WorldEvent) (e : WorldEvent) → words ≡ words_of true (length log) → slice_set words 8 ((slice_index words 8 + 1) % 2 ^ 64) ≡ words_of true (length (log ++ e ∷ []))
counts words log e count =
    ap (λ ws. slice_set ws 8 ((slice_index ws 8 + 1) % 2 ^ 64)) count
    ∙ ap spread (mod-add-mod (length log) (2 ^ 64) 1 ∙ ap (λ n. n % 2 ^ 64) (sym (length-append log (e ∷ []))))

-- there is a first word, and one in the middle
has_middle : (counted : Bool) (words : ℕ) → words ≡ many_words counted → 8 < words
has_middle true words is = omega (arith, is)
has_middle false words is = omega (arith, is)

pub has_middle_of : (table named : TableId) → table ≡ named → named.words ≡ many_words (is_counted named) → 8 < table.words
has_middle_of table named same is = has_middle (is_counted named) table.words (ap (λ (t : TableId). t.words) same ∙ is)

pub has_word_of : (table named : TableId) → table ≡ named → named.words ≡ many_words (is_counted named) → 0 < table.words
has_word_of table named same is = let middle = has_middle_of table named same is in omega (arith, middle)

-- a word that is read stays as it is
reads : (counted : Bool) (words : List ℕ) (n : ℕ) → words ≡ words_of counted n → slice_set words 0 (slice_index words 0) ≡ words_of counted n
reads counted words n count = ap (λ ws. slice_set ws 0 (slice_index ws 0)) count ∙ by_flag counted
  where
    by_flag : (c : Bool) → slice_set (words_of c n) 0 (slice_index (words_of c n) 0) ≡ words_of c n
    by_flag true = refl
    by_flag false = refl

reads_middle : (words : List ℕ) (n : ℕ) → words ≡ words_of false n → slice_set words 8 (slice_index words 8) ≡ words_of false n
reads_middle words n count = ap (λ ws. slice_set ws 8 (slice_index ws 8)) count

-- an event is added, where a step at the middle word keeps the count so
added : (counted : Bool) (becomes : ℕ → ℕ) (e : WorldEvent) → ((words : List ℕ) (log : List WorldEvent) → words ≡ words_of counted (length log) → slice_set words 8 (becomes (slice_index words 8)) ≡ words_of counted (length (log ++ e ∷ [])))
    → ((words : List ℕ) (log : List WorldEvent) → words ≡ words_of counted (length log) → counted ≡ true → slice_index words 8 ≡ length log % 2 ^ 64) → (slots id : ℕ) (me : Me ℕ View) (st : Step ℕ) → Owns me.0 (node_in e) → Allows (Rule counted) slots id me 8 becomes (Adds counted e st me)
added counted becomes e keeps_count stamps slots id me st owns s h len at small =
    let v = me.0 in
    let log = h.log ++ e ∷ [] in
    let w = view v.from v.to log [] 0 in
    let mine = h.each id v at in
    let here = mine.own (node_in e) owns in (
      w,
      keeps,
      tt,
      record {
        log = log;
        seat = h.seat;
        count = keeps_count s.words h.log h.count;
        each = each_after s.views (FitsHistory h.log h.seat) (FitsHistory log h.seat) id w h.each
            (record { seen = prefix_self log; also = (log, refl); own = λ n owns. ((mine.own n owns).0, rests_self n log) })
            (λ j u apart was. other_fits h.log e h.seat id j u here.0 apart was);
      },
      (record { log = h.log; stamped = stamps s.words h.log h.count; before = mine.seen; also = mine.also; rests = here.1; after = refl }, refl, refl),
    )

-- an event is added where it is counted
pub adds : {counted : Bool} → counted ≡ true → (e : WorldEvent) (slots id : ℕ) (me : Me ℕ View) (st : Step ℕ) → Owns me.0 (node_in e) → Allows (Rule counted) slots id me 8 (λ n. (n + 1) % 2 ^ 64) (Adds true e st me)
adds is e slots id me st owns =
    subst (λ counted. Allows (Rule counted) slots id me 8 (λ n. (n + 1) % 2 ^ 64) (Adds true e st me)) (sym is)
    (added true (λ n. (n + 1) % 2 ^ 64) e (λ words log count. counts words log e count) (λ words log count yes. ap (λ ws. slice_index ws 8) count) slots id me st owns)

-- an event is added where none is counted
pub enters : {counted : Bool} → counted ≡ false → (e : WorldEvent) (slots id : ℕ) (me : Me ℕ View) (st : Step ℕ) → Owns me.0 (node_in e) → Allows (Rule counted) slots id me 8 (λ n. n) (Adds false e st me)
enters not e slots id me st owns =
    subst (λ counted. Allows (Rule counted) slots id me 8 (λ n. n) (Adds false e st me)) (sym not)
    (added false (λ n. n) e (λ words log count. reads_middle words (length log) count) (λ words log count yes. absurd (true≢false (sym yes))) slots id me st owns)

pub fronts : (counted : Bool) (id number : ℕ) (v : View) → Splits (Rule counted) id v v (front_of number v)
fronts counted id number v s h at =
    let mine = h.each id v at in
    record {
      log = h.log;
      seat = h.seat;
      count = h.count;
      each = λ j u now. ⊎_elim
          (λ was. h.each j u (subst (λ l. get_elem? l j ≡ some u) (set_again s.views id v at) was))
          (λ (new : (j ≡ length (set s.views id v)) × (front_of number v ≡ u)). subst (FitsHistory h.log h.seat j) new.1 (idle h.log h.seat j v.seen [] number mine.seen (h.log, refl)))
          (last_of (set s.views id v) (front_of number v) u j now);
    }

pub tells : (counted : Bool) (id : ℕ) (v : View) (other : ℕ) (w : View) → Joins (Rule counted) id v other w (told v w) nobody
tells counted id v other w s h at apart there =
    let mine = h.each id v at in
    let theirs = ⊎_elim (λ (t : (other ≡ id) × (told v w ≡ w)). absurd (apart t.0)) (λ (t : (other ≢ id) × (get_elem? s.views other ≡ some w)). h.each other w t.1) (at_set s.views id other (told v w) w there) in
    let Is = FitsHistory h.log h.seat in
    record {
      log = h.log;
      seat = h.seat;
      count = h.count;
      each = each_after (set s.views id (told v w)) Is Is other nobody
          (each_after s.views Is Is id (told v w) h.each (record { seen = mine.seen; also = theirs.seen; own = mine.own }) (λ j u not was. was))
          (idle h.log h.seat other [] [] 0 (h.log, refl) (h.log, refl))
          (λ j u not was. was);
    }

-- who has the node, once it was given to another
abbrev given : (ℕ → ℕ) → ℕ → ℕ → ℕ → ℕ
given seat k new n = either (eqb n k) new (seat n)

given_here : (seat : ℕ → ℕ) (k new n : ℕ) → n ≡ k → given seat k new n ≡ new
given_here seat k new n is = ap (λ b. either b new (seat n)) (eq-eqb n k is)

given_else : (seat : ℕ → ℕ) (k new n : ℕ) → n ≢ k → given seat k new n ≡ seat n
given_else seat k new n not = ap (λ b. either b new (seat n)) (ne_eqb n k not)

pub next : (counted : Bool) (id : ℕ) (v : View) → v.from < v.to → Splits (Rule counted) id v (other_nodes v) (first_node v)
next counted id v some_left s h at =
    let mine = h.each id v at in
    let first = mine.own v.from (omega arith, some_left) in
    let rest = set s.views id (other_nodes v) in
    let new = length rest in
    let seat = given h.seat v.from new in
    record {
      log = h.log;
      seat = seat;
      count = h.count;
      each = λ j u now. ⊎_elim
          (λ was. each_after s.views (FitsHistory h.log h.seat) (FitsHistory h.log seat) id (other_nodes v) h.each
          (record {
            seen = mine.seen;
            also = mine.also;
            own = λ n owns. let had = mine.own n (omega (arith, owns.0), owns.1) in (given_else h.seat v.from new n (λ is. omega (arith, owns.0, is)) ∙ had.0, had.1);
          })
          (λ i y apart fits. record {
            seen = fits.seen;
            also = fits.also;
            own = λ n owns. let had = fits.own n owns in (given_else h.seat v.from new n (λ is. apart (sym had.0 ∙ (ap h.seat is ∙ first.0))) ∙ had.0, had.1);
          })
          j u was)
          (λ (last : (j ≡ new) × (first_node v ≡ u)). subst (FitsHistory h.log seat j) last.1 (record {
            seen = mine.seen;
            also = (h.log, refl);
            own = λ n owns. let is : n ≡ v.from = omega (arith, owns.0, owns.1) in (given_here h.seat v.from new n is ∙ sym last.0, (mine.own n (omega (arith, is), omega (arith, is, some_left))).1);
          }))
          (last_of rest (first_node v) u j now);
    }

-- the count is read, and a pass has seen another beginning that fits
rereads : (counted : Bool) (words : List ℕ) (views : List View) (h : Kept counted words views) (id : ℕ) (w : View) → FitsHistory h.log h.seat id w → Kept counted (slice_set words 0 (slice_index words 0)) (set views id w)
rereads counted words views h id w fits = record {
  log = h.log;
  seat = h.seat;
  count = reads counted words (length h.log) h.count;
  each = each_after views (FitsHistory h.log h.seat) (FitsHistory h.log h.seat) id w h.each fits (λ j u apart was. was);
}

pub looks : (counted : Bool) (slots id : ℕ) (me : Me ℕ View) (st : Step ℕ) → Allows (Rule counted) slots id me 0 (λ n. n) (Looks st me)
looks counted slots id me st s h len at small =
    let mine = h.each id me.0 at in
    let w = view me.0.from me.0.to h.log [] 0 in (
      w,
      keeps,
      tt,
      rereads counted s.words s.views h id w (record { seen = prefix_self h.log; also = (h.log, refl); own = λ n owns. ((mine.own n owns).0, rests_self n h.log) }),
      (record { before = mine.seen; also = mine.also; rests = λ n owns. (mine.own n owns).1; same = refl }, refl),
    )

-- a pass that has seen just what it was told still fits
pub catches : (counted : Bool) (slots id : ℕ) (me : Me ℕ View) (st : Step ℕ) → IsPrefix me.0.seen me.0.also → Allows (Rule counted) slots id me 0 (λ n. n) (TellsCatch st me)
catches counted slots id me st on s h len at small =
    let v = me.0 in
    let mine = h.each id v at in
    let w = view v.from v.to v.also [] 0 in (
      w,
      keeps,
      tt,
      rereads counted s.words s.views h id w (record { seen = mine.also; also = (h.log, refl); own = λ n owns. let had = mine.own n owns in (had.0, rests_behind n v.seen v.also h.log on mine.also had.1) }),
      (record { rests = λ n owns. rests_before n v.seen v.also h.log on mine.also (mine.own n owns).1; same = refl }, refl),
    )
