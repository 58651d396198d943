-- Desks go over to the next ring, the last first.
use Rattle.std.proofs.Common.{◌≡◌, ◌<◌, ◌+◌, ℕ, zero, suc, Bool, true, false, List, [], ◌∷◌, ◌++◌, map, length, take, drop, get_or, reverse, Result, Ok, Err, IfOk, OnErr, refl, sym, ap, subst, ◌∙◌, arith, append_assoc, append-nil, length-append, eqb-true, ◌==◌, not, if◌then◌else◌}
use Rattle.std.proofs.Math.Seq.{take-length}
use Rattle.std.proofs.lemmas.List.{reverse-append, reverse-reverse}
use Rattle.cpg_cred.specs.Listed.{Listed}
use Rattle.cpg_ring.specs.declared.settings.Settings.{Settings}
use Rattle.cpg_node.specs.declared.connections.Client.{Client}
use Rattle.cpg_node.specs.Nodes.{NodeValue}
use Rattle.cpg_ask.proofs.Mapped.{length_mapped}
use Rattle.cpg_ask.specs.declared.greetings.Greeting.{Greeting}
use Rattle.cpg_serve.specs.Telling.{DeskValue, new_desk}
use Rattle.cpg_serve.specs.Serving.{greeting_of, served_of}
use Rattle.cpg_serve.specs.Carrying.{HaveMoved, IsNext, IsRenewed, anew, greeted, kept_desks, living, numbered}

drop_front : (xs ys : List DeskValue) → drop (length xs) (xs ++ ys) ≡ ys
drop_front [] ys = refl
drop_front (x ∷ xs) ys = drop_front xs ys

drop_at : (ns : List ℕ) (k : ℕ) → k < length ns → drop k ns ≡ get_or ns k 0 ∷ drop (suc k) ns
drop_at [] k within = absurd (omega arith)
drop_at (n ∷ ns) zero within = refl
drop_at (n ∷ ns) (suc k) within = drop_at ns k (omega arith)

-- what is left once one more was taken from the end
pub record Popped (ds : List DeskValue) (old : List DeskValue) (d : DeskValue) (before : List DeskValue) : Type 0 where
  pub count : length before ≡ suc (length old)
  pub whole : old ++ drop (length old) ds ≡ ds
  pub next : drop (length old) ds ≡ d ∷ drop (length before) ds
  pub within : length old < length ds

pub popped : (ds old before : List DeskValue) (d : DeskValue) → before ≡ old ++ d ∷ [] → before ++ drop (length before) ds ≡ ds → Popped ds old d before
popped ds old before d is whole =
    let rest : List DeskValue = drop (length before) ds in
    let all : ds ≡ old ++ (d ∷ rest) = sym whole ∙ ap (λ (l : List DeskValue). l ++ rest) is ∙ append_assoc old (d ∷ []) rest in
    let next : drop (length old) ds ≡ d ∷ rest = ap (drop (length old)) all ∙ drop_front old (d ∷ rest) in
    record {
      count = ap (λ (l : List DeskValue). length l) is ∙ length-append old (d ∷ []) ∙ omega arith;
      whole = ap (λ (l : List DeskValue). old ++ l) next ∙ sym all;
      next = next;
      within = omega (arith, ap (λ (l : List DeskValue). length l) all ∙ length-append old (d ∷ rest));
    }

suc_zero : (n : ℕ) → (suc n == 0) ≡ false
suc_zero n = by_test (suc n == 0) refl
  where
    by_test : (b : Bool) → (suc n == 0) ≡ b → (suc n == 0) ≡ false
    by_test true e = absurd (omega (arith, eqb-true (suc n) 0 e))
    by_test false e = e

pub kept_first : (n : ℕ) (ns : List ℕ) (d : DeskValue) (ds : List DeskValue) → kept_desks (suc n ∷ ns) (d ∷ ds) ≡ d ∷ kept_desks ns ds
kept_first n ns d ds = ap (λ (b : Bool). if b then kept_desks ns ds else d ∷ kept_desks ns ds) (suc_zero n)

kept_by : (ns : List ℕ) (ds : List DeskValue) (n : ℕ) (d : DeskValue) (more : List ℕ) (rest : List DeskValue) → ns ≡ n ∷ more → ds ≡ d ∷ rest → kept_desks ns ds ≡ (if n == 0 then kept_desks more rest else d ∷ kept_desks more rest)
kept_by ns ds n d more rest is are = ap (λ (l : List ℕ). kept_desks l ds) is ∙ ap (λ (l : List DeskValue). kept_desks (n ∷ more) l) are

-- a desk without a number is left
left_out : (greeting : Greeting) (ns : List ℕ) (ds old before new : List DeskValue) (d : DeskValue) → Popped ds old d before → length old < length ns → get_or ns (length old) 0 ≡ 0
    → new ≡ reverse (map (greeted greeting) (kept_desks (drop (length before) ns) (drop (length before) ds))) → new ≡ reverse (map (greeted greeting) (kept_desks (drop (length old) ns) (drop (length old) ds)))
left_out greeting ns ds old before new d p within none h =
    let number : drop (length old) ns ≡ 0 ∷ drop (length before) ns = drop_at ns (length old) within ∙ ap (λ n. n ∷ drop (suc (length old)) ns) none ∙ ap (λ k. 0 ∷ drop k ns) (sym p.count) in
    h ∙ ap (λ (l : List DeskValue). reverse (map (greeted greeting) l)) (sym (kept_by (drop (length old) ns) (drop (length old) ds) 0 d (drop (length before) ns) (drop (length before) ds) number p.next))

-- one with a number goes over
taken_over : (greeting : Greeting) (ns : List ℕ) (ds old before new : List DeskValue) (d : DeskValue) → Popped ds old d before → length old < length ns → (get_or ns (length old) 0 == 0) ≡ false
    → new ≡ reverse (map (greeted greeting) (kept_desks (drop (length before) ns) (drop (length before) ds))) → new ++ greeted greeting d ∷ [] ≡ reverse (map (greeted greeting) (kept_desks (drop (length old) ns) (drop (length old) ds)))
taken_over greeting ns ds old before new d p within some h =
    let n : ℕ = get_or ns (length old) 0 in
    let number : drop (length old) ns ≡ n ∷ drop (length before) ns = drop_at ns (length old) within ∙ ap (λ k. n ∷ drop k ns) (sym p.count) in
    let kept : kept_desks (drop (length old) ns) (drop (length old) ds) ≡ d ∷ kept_desks (drop (length before) ns) (drop (length before) ds) =
    kept_by (drop (length old) ns) (drop (length old) ds) n d (drop (length before) ns) (drop (length before) ds) number p.next ∙ ap (λ (b : Bool). if b then kept_desks (drop (length before) ns) (drop (length before) ds) else d ∷ kept_desks (drop (length before) ns) (drop (length before) ds)) some in
    ap (λ (l : List DeskValue). l ++ greeted greeting d ∷ []) h
    ∙ sym (ap (λ (l : List DeskValue). reverse (map (greeted greeting) l)) kept ∙ reverse-append (greeted greeting d ∷ []) (map (greeted greeting) (kept_desks (drop (length before) ns) (drop (length before) ds))))

-- a desk goes over, or is left
pub kept_one : (greeting : Greeting) (ns : List ℕ) (ds old before new now : List DeskValue) (d : DeskValue) (n : ℕ) → Popped ds old d before → length ns ≡ length ds → now ≡ (if n == 0 then new else new ++ greeted greeting d ∷ [])
    → n ≡ get_or ns (length old) 0 → new ≡ reverse (map (greeted greeting) (kept_desks (drop (length before) ns) (drop (length before) ds)))
    → now ≡ reverse (map (greeted greeting) (kept_desks (drop (length old) ns) (drop (length old) ds)))
kept_one greeting ns ds old before new now d n p many k is h = by_number (n == 0) refl
  where
    within : length old < length ns
    within = omega (arith, p.within, many)

    none : (n == 0) ≡ true → n ≡ 0
    none e = eqb-true n 0 e

    by_number : (b : Bool) → (n == 0) ≡ b → now ≡ reverse (map (greeted greeting) (kept_desks (drop (length old) ns) (drop (length old) ds)))
    by_number true e = k ∙ ap (λ (b : Bool). if b then new else new ++ greeted greeting d ∷ []) e ∙ left_out greeting ns ds old before new d p within (sym is ∙ none e) h
    by_number false e = k ∙ ap (λ (b : Bool). if b then new else new ++ greeted greeting d ∷ []) e ∙ taken_over greeting ns ds old before new d p within (ap (λ m. m == 0) (sym is) ∙ e) h

pub nothing_yet : (ds : List DeskValue) → (ds ++ drop (length ds) ds ≡ ds) × (drop (length ds) ds ≡ [])
nothing_yet ds = (ap (λ (l : List DeskValue). ds ++ l) (none ds) ∙ append-nil ds, none ds)
  where
    none : (l : List DeskValue) → drop (length l) l ≡ []
    none [] = refl
    none (d ∷ l) = none l

kept_none : (ns : List ℕ) → kept_desks ns [] ≡ []
kept_none [] = refl
kept_none (n ∷ ns) = refl

pub begins_empty : (greeting : Greeting) (ns : List ℕ) (ds new : List DeskValue) → new ≡ [] → new ≡ reverse (map (greeted greeting) (kept_desks (drop (length ds) ns) (drop (length ds) ds)))
begins_empty greeting ns ds new e = e ∙ sym (ap (λ (l : List DeskValue). reverse (map (greeted greeting) l)) (ap (kept_desks (drop (length ds) ns)) (nothing_yet ds).1 ∙ kept_none (drop (length ds) ns)))

-- the daemon's own desk comes last, and then first
pub turned_round : (greeting : Greeting) (kept new : List DeskValue) → new ≡ reverse (map (greeted greeting) kept) → reverse (new ++ new_desk greeting ∷ []) ≡ new_desk greeting ∷ map (greeted greeting) kept
turned_round greeting kept new h =
    reverse-append new (new_desk greeting ∷ []) ∙ ap (λ (l : List DeskValue). new_desk greeting ∷ l) (ap reverse h ∙ reverse-reverse (map (greeted greeting) kept))

-- as many as there are connections
pub empty_end : (greeting : Greeting) (ns : List ℕ) (ds old new : List DeskValue) → length old ≡ 0 → new ≡ reverse (map (greeted greeting) (kept_desks (drop (length old) ns) (drop (length old) ds))) → new ≡ reverse (map (greeted greeting) (kept_desks ns ds))
empty_end greeting ns ds old new e h = h ∙ ap (λ k. reverse (map (greeted greeting) (kept_desks (drop k ns) (drop k ds)))) e

-- ---- as many desks as connections

kept_count : (n : ℕ) (cs : List Client) (ds : List DeskValue) → length ds ≡ length cs → length (kept_desks (numbered n cs) ds) ≡ length (living cs)
kept_count n [] [] e = refl
kept_count n [] (d ∷ ds) e = absurd (omega (arith, e))
kept_count n (c ∷ cs) [] e = absurd (omega (arith, e))
kept_count n (c ∷ cs) (d ∷ ds) e = by_end c.ended (kept_count n cs ds (omega (arith, e))) (kept_count (suc n) cs ds (omega (arith, e)))
  where
    by_end : (b : Bool) → length (kept_desks (numbered n cs) ds) ≡ length (living cs) → length (kept_desks (numbered (suc n) cs) ds) ≡ length (living cs) → length (kept_desks (if b then 0 ∷ numbered n cs else suc n ∷ numbered (suc n) cs) (d ∷ ds)) ≡ length (if not b then c ∷ living cs else living cs)
    by_end true f g = f
    by_end false f g = ap (λ (l : List DeskValue). length l) (kept_first n (numbered (suc n) cs) d ds) ∙ ap suc g

count_numbers : (n : ℕ) (cs : List Client) → length (numbered n cs) ≡ length cs
count_numbers n [] = refl
count_numbers n (c ∷ cs) = by_end c.ended (count_numbers n cs) (count_numbers (suc n) cs)
  where
    by_end : (b : Bool) → length (numbered n cs) ≡ length cs → length (numbered (suc n) cs) ≡ length cs → length (if b then 0 ∷ numbered n cs else suc n ∷ numbered (suc n) cs) ≡ suc (length cs)
    by_end true f g = ap suc f
    by_end false f g = ap suc g

-- a number for each connection
pub number_each : (last n : ℕ) (cs : List Client) (numbers : List ℕ) → last ≡ length cs → numbers ≡ numbered n (take last cs) → length numbers ≡ length cs
number_each last n cs numbers is e =
    ap (λ (l : List ℕ). length l) e ∙ count_numbers n (take last cs) ∙ ap (λ (l : List Client). length l) (ap (λ k. take k cs) is ∙ take-length cs)

pub as_many : (s : Settings) (list : Listed) (numbers : List ℕ) (x y : NodeValue) (old new : List DeskValue) (greeting : Greeting) → length old ≡ length x.clients → IsNext s list numbers x y → HaveMoved greeting numbers old new → length new ≡ length y.clients
as_many s list numbers x y old new greeting e h moved =
    ap (λ (l : List DeskValue). length l) moved ∙ ap suc (length_mapped (greeted greeting) (kept_desks numbers old) ∙ ap (λ (l : List ℕ). length (kept_desks l old)) h.renumbers ∙ kept_count 1 x.clients old e ∙ sym (length_mapped anew (living x.clients)))
    ∙ sym (ap (λ (l : List Client). length l) h.clients) ∙ length_mapped anew y.clients

pub greeting_is : (s : Settings) (list : Listed) (numbers : List ℕ) (x y : NodeValue) → IsNext s list numbers x y → record { node = 1; nodes = 1; ring = s.ring } ≡ greeting_of y
greeting_is s list numbers x y h =
    let a : y.ring.node ≡ 1 = h.begun.lone.node in
    let b : y.ring.settings.nodes ≡ 1 = h.begun.lone.one in
    let c : y.ring.settings.ring ≡ s.ring = ap (λ (k : Settings). k.ring) h.settings in
    sym (ap (λ (n : ℕ). greet n y.ring.settings.nodes y.ring.settings.ring) a ∙ ap (λ (n : ℕ). greet 1 n y.ring.settings.ring) b ∙ ap (λ (n : ℕ). greet 1 1 n) c)
  where
    greet : ℕ → ℕ → ℕ → Greeting
    greet node nodes ring = record { node = node; nodes = nodes; ring = ring }

-- the next ring with its clients
pub renewed_is : (s : Settings) (list : Listed) (numbers : List ℕ) (greeting now : Greeting) (x y : NodeValue) (old new : List DeskValue) → now ≡ greeting_of y → IsNext s list numbers x y → HaveMoved (greeting_of y) numbers old new
    → IsRenewed s list numbers (served_of greeting x old) (served_of now y new)
renewed_is s list numbers greeting now x y old new h next moved = record { node = next; greeting = h; desks = subst (λ (g : Greeting). HaveMoved g numbers old new) (sym h) moved }

-- desks went over where the client is greeted as all are, by numbers that are seen
pub moved_by : (s : Settings) (list : Listed) (numbers seen : List ℕ) (now : Greeting) (x y : NodeValue) (old new : List DeskValue) → now ≡ record { node = 1; nodes = 1; ring = s.ring } → seen ≡ numbers → IsNext s list numbers x y → HaveMoved now seen old new
    → HaveMoved (greeting_of y) numbers old new
moved_by s list numbers seen now x y old new h k next moved =
    subst (λ (g : Greeting). HaveMoved g numbers old new) (h ∙ greeting_is s list numbers x y next) (subst (λ (l : List ℕ). HaveMoved now l old new) k moved)

-- what holds whether it was done or refused
pub either_way : {T E C : Type 0} (r : Result T E) → IfOk r (λ x. C) → OnErr r C → C
either_way (Ok x) h k = h
either_way (Err e) h k = k
