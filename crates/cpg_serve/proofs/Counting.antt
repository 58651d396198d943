-- Verdicts and the calls that they answer, counted.
use Rattle.std.proofs.Common.{◌≡◌, ◌≤◌, ◌+◌, ℕ, suc, Bool, true, false, cond, is_some, not, List, [], ◌∷◌, ◌++◌, map, length, take, drop, Option, refl, sym, ap, ◌∙◌, append_assoc, length-append, arith, ◌⊎◌, inl, inr}
use Rattle.std.specs.List.{flat_map, AllByRecursion}
use Rattle.std.proofs.lemmas.Grind.{flat_map-append}
use Rattle.cpg_rules.specs.declared.rules.Asker.{Asker}
use Rattle.cpg_record.specs.declared.events.Event.{Event}
use Rattle.cpg_record.specs.declared.events.Event.TheVariants as event
use Rattle.cpg_record.specs.declared.records.Record.{Record}
use Rattle.cpg_record.specs.declared.verdicts.Verdict.{Verdict}
use Rattle.cpg_ask.specs.declared.greetings.Greeting.{Greeting}
use Rattle.cpg_serve.specs.declared.desks.Owed.{Owed}
use Rattle.cpg_serve.specs.Telling.{is_verdict}
use Rattle.cpg_serve.specs.Asking.{call_of, owed_to}
use Rattle.cpg_serve.specs.Stories.{Note, Made, Answered, Happened, ask_in, event_in, owed_in, IsPlain, IsRefused, IsNote}
use Rattle.cpg_serve.specs.Verdicts.{verdict_in}
use Rattle.cpg_serve.specs.Meeting.{verdicts, is_taken, calls_among, answered_in, made_in}

pub verdicts_append : (one other : List Event) → verdicts (one ++ other) ≡ verdicts one + verdicts other
verdicts_append one other = ap (λ (l : List Verdict). length l) (flat_map-append verdict_in one other) ∙ length-append (flat_map verdict_in one) (flat_map verdict_in other)

abbrev pub mades : List Note → List Owed
mades notes = flat_map made_in notes

abbrev pub told : List Note → ℕ
told notes = verdicts (flat_map event_in notes)

pub verdict_one : (e : Event) → verdicts (e ∷ []) ≡ cond (is_verdict e) 1 0
verdict_one (event.Verdict place v) = refl
verdict_one (event.Message place g node pid m) = refl
verdict_one (event.Change place g ms ls js) = refl
verdict_one (event.RulesChanged place g) = refl

told_more : (e : Event) (notes : List Note) → told (Happened e ∷ notes) ≡ cond (is_verdict e) 1 0 + told notes
told_more e notes = verdicts_append (e ∷ []) (flat_map event_in notes) ∙ ap (λ (n : ℕ). n + told notes) (verdict_one e)

-- no verdict takes more than one call
at_least : (owed : List Owed) (notes : List Note) → length owed + length (mades notes) ≤ length (owed_in owed notes) + told notes
at_least owed [] = omega arith
at_least owed (Made ask ∷ notes) =
    let more = at_least (owed ++ owed_to ask ∷ []) notes in
    omega (arith, more, length-append owed (owed_to ask ∷ []))
at_least owed (Answered places ask tell ∷ notes) = at_least owed notes
at_least owed (Happened e ∷ notes) = by (is_verdict e) (told_more e notes) (at_least owed notes) (at_least (drop 1 owed) notes) (dropped owed)
  where
    dropped : (l : List Owed) → length l ≤ length (drop 1 l) + 1
    dropped [] = omega arith
    dropped (o ∷ os) = omega arith

    by : (b : Bool) → told (Happened e ∷ notes) ≡ cond b 1 0 + told notes → length owed + length (mades notes) ≤ length (owed_in owed notes) + told notes
        → length (drop 1 owed) + length (mades notes) ≤ length (owed_in (drop 1 owed) notes) + told notes → length owed ≤ length (drop 1 owed) + 1
        → length owed + length (mades notes) ≤ length (owed_in (cond b (drop 1 owed) owed) notes) + told (Happened e ∷ notes)
    by true t same less d = omega (arith, t, less, d)
    by false t same less d = omega (arith, t, same)

-- what verdicts answered are the first calls, where none met an empty list
pub answered_first : (owed : List Owed) (notes : List Note) → length (owed_in owed notes) + told notes ≡ length owed + length (mades notes)
    → answered_in owed notes ≡ take (told notes) (owed ++ mades notes)
answered_first owed [] even = refl
answered_first owed (Made ask ∷ notes) even =
    let longer : length (owed ++ owed_to ask ∷ []) ≡ length owed + 1 = length-append owed (owed_to ask ∷ []) in
    answered_first (owed ++ owed_to ask ∷ []) notes (omega (arith, even, longer)) ∙ ap (take (told notes)) (append_assoc owed (owed_to ask ∷ []) (mades notes))
answered_first owed (Answered places ask tell ∷ notes) even = answered_first owed notes even
answered_first owed (Happened e ∷ notes) even =
    by (is_verdict e) owed (told_more e notes) even (at_least (drop 1 owed) notes) (answered_first owed notes) (answered_first (drop 1 owed) notes)
  where
    by : (b : Bool) (l : List Owed) → told (Happened e ∷ notes) ≡ cond b 1 0 + told notes → length (owed_in (cond b (drop 1 l) l) notes) + told (Happened e ∷ notes) ≡ length l + length (mades notes)
        → length (drop 1 l) + length (mades notes) ≤ length (owed_in (drop 1 l) notes) + told notes
        → (length (owed_in l notes) + told notes ≡ length l + length (mades notes) → answered_in l notes ≡ take (told notes) (l ++ mades notes))
        → (length (owed_in (drop 1 l) notes) + told notes ≡ length (drop 1 l) + length (mades notes) → answered_in (drop 1 l) notes ≡ take (told notes) (drop 1 l ++ mades notes))
        → cond b (take 1 l) [] ++ answered_in (cond b (drop 1 l) l) notes ≡ take (told (Happened e ∷ notes)) (l ++ mades notes)
    by true [] t even least same less = absurd (omega (arith, t, even, least))
    by true (o ∷ os) t even least same less =
        let one : told (Happened e ∷ notes) ≡ suc (told notes) = omega (arith, t) in
        ap (λ (r : List Owed). o ∷ r) (less (omega (arith, one, even))) ∙ sym (ap (λ (n : ℕ). take n (o ∷ (os ++ mades notes))) one)
    by false l t even least same less =
        let none : told (Happened e ∷ notes) ≡ told notes = omega (arith, t) in
        same (omega (arith, none, even)) ∙ sym (ap (λ (n : ℕ). take n (l ++ mades notes)) none)

-- the calls that notes made are those among their asks
pub made_asks : (g : Greeting) (a : Option Asker) (rs : List Record) (notes : List Note) → AllByRecursion (IsNote g a rs) notes → mades notes ≡ map owed_to (calls_among (flat_map ask_in notes))
made_asks g a rs [] h = refl
made_asks g a rs (Made ask ∷ notes) h =
    let taken : is_taken (call_of ask.want) ≡ true = ap is_taken h.0.1 ∙ ap (λ o. not (is_some o)) h.0.2 in
    rw taken (ap (λ (l : List Owed). owed_to ask ∷ l) (made_asks g a rs notes h.1))
made_asks g a rs (Answered places ask tell ∷ notes) h = rw (not_taken h.0.1) (made_asks g a rs notes h.1)
  where
    not_taken : IsPlain g a (take places rs) ask tell ⊎ IsRefused ask tell → is_taken (call_of ask.want) ≡ false
    not_taken (inl p) = ap is_taken p.0
    not_taken (inr p) = ap is_taken p.2 ∙ ap (λ o. not (is_some o)) p.3
made_asks g a rs (Happened e ∷ notes) h = made_asks g a rs notes h.1
