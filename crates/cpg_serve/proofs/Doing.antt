-- One deed after another is a life.
use Rattle.std.proofs.Common.{◌≡◌, ◌<◌, ◌+◌, ℕ, suc, List, [], ◌∷◌, ◌++◌, length, take, get_or, refl, sym, ap, subst, ◌∙◌}
use Rattle.std.proofs.lemmas.List.{take_more}
use Rattle.cpg_serve.specs.declared.deeds.Deed.{Deed}
use Rattle.cpg_serve.specs.declared.deeds.Deed.TheVariants as deeds
use Rattle.cpg_serve.specs.declared.deeds.Outcome.{Outcome}
use Rattle.cpg_serve.specs.declared.deeds.Outcome.TheVariants as outcomes
use Rattle.cpg_serve.specs.Serving.{ServedValue}
use Rattle.cpg_serve.specs.Deeds.{did_of, GoesAs, IsOutcome, IsStep, AreDone, AreServed, AreSteps}
use Rattle.cpg_serve.specs.Rings.{Step, Does, Moves, Renews, GoesBy, Life}
use Rattle.cpg_serve.proofs.Lives.{lives_tell}

one_more : (x y z : ServedValue) (deeds : List Deed) (outcomes : List Outcome) (deed : Deed) (outcome : Outcome) → AreDone x deeds outcomes y → GoesAs y deed outcome z → IsOutcome y deed outcome z
    → AreDone x (deeds ++ deed ∷ []) (outcomes ++ outcome ∷ []) z
one_more x y z [] [] deed outcome h g r = (z, subst (λ (w : ServedValue). GoesAs w deed outcome z) h g, subst (λ (w : ServedValue). IsOutcome w deed outcome z) h r, refl)
one_more x y z [] (o ∷ outcomes) deed outcome h g r = absurd h
one_more x y z (d ∷ deeds) [] deed outcome h g r = absurd h
one_more x y z (d ∷ deeds) (o ∷ outcomes) deed outcome h g r = (h.0, h.1, h.2, one_more h.0 y z deeds outcomes deed outcome h.3 g r)

-- the deed at the next place was done, too
pub next_done : (x y z : ServedValue) (deeds : List Deed) (i : ℕ) (deed : Deed) (outcomes : List Outcome) (outcome : Outcome) → i < length deeds → deed ≡ get_or deeds i deed → AreDone x (take i deeds) outcomes y
    → GoesAs y deed outcome z → IsOutcome y deed outcome z → AreDone x (take (i + 1) deeds) (outcomes ++ outcome ∷ []) z
next_done x y z deeds i deed outcomes outcome within is h g r =
    subst (λ (l : List Deed). AreDone x l (outcomes ++ outcome ∷ []) z) (ap (λ (d : Deed). take i deeds ++ d ∷ []) is ∙ sym (take_more deeds i deed within)) (one_more x y z (take i deeds) outcomes deed outcome h g r)

pub as_many : (x y : ServedValue) (deeds : List Deed) (outcomes : List Outcome) → AreDone x deeds outcomes y → length outcomes ≡ length deeds
as_many x y [] [] h = refl
as_many x y [] (o ∷ outcomes) h = absurd h
as_many x y (d ∷ deeds) [] h = absurd h
as_many x y (d ∷ deeds) (o ∷ outcomes) h = ap suc (as_many h.0 y deeds outcomes h.3)

-- the steps of what was done, one after another
pub record AreStepsOf (x : ServedValue) (deeds : List Deed) (outcomes : List Outcome) (y : ServedValue) : Type 0 where
  pub steps : List Step
  pub are : AreSteps deeds outcomes steps
  pub life : Life x steps y

-- the step that a deed is
step_of : (x y : ServedValue) (deed : Deed) (outcome : Outcome) → GoesAs x deed outcome y → (step : Step) × IsStep deed outcome step × GoesBy x step y
step_of x y (deeds.Renew settings list) (outcomes.Renewed numbers) g = (Renews (record { ended = g.0; numbers = numbers.items; next = y }), refl, (g.1, (g.2, (settings, list.now, g.3)), refl))
step_of x y (deeds.Renew settings list) _ g = (Moves, refl, g)
step_of x y deeds.Settle outcome g = (Moves, refl, g)
step_of x y deed outcome g = (Does (did_of deed outcome), refl, g)

steps_of : (x y : ServedValue) (deeds : List Deed) (outcomes : List Outcome) → AreDone x deeds outcomes y → AreStepsOf x deeds outcomes y
steps_of x y [] [] h = record { steps = []; are = tt; life = h }
steps_of x y [] (o ∷ outcomes) h = absurd h
steps_of x y (d ∷ deeds) [] h = absurd h
steps_of x y (d ∷ deeds) (o ∷ outcomes) h =
    let first = step_of x h.0 d o h.1 in
    let later = steps_of h.0 y deeds outcomes h.3 in
    record { steps = first.0 ∷ later.steps; are = (first.1, later.are); life = (h.0, first.2, later.life) }

pub served_by : (x y : ServedValue) (deeds : List Deed) (outcomes : List Outcome) → length x.desks ≡ length x.node.clients → AreDone x deeds outcomes y → AreServed x deeds outcomes y
served_by x y deeds outcomes many h =
    let s = steps_of x y deeds outcomes h in
    record { done = h; steps = s.steps; are = s.are; life = s.life; tells = lives_tell x y s.steps many s.life }
