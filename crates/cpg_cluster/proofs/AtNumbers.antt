-- sessions by their numbers
use Rattle.std.proofs.Common.{◌≡◌, ℕ, zero, suc, ◌≤◌, ◌-◌, true, false, length, slice_get, slice_set, slice_index_or, Option, Some, None, Err, refl, sym, ap, subst, ◌∙◌, arith}
use Rattle.std.specs.Option.{option_flatten}
use Rattle.std.proofs.lemmas.List.{set_past}
use Rattle.std.proofs.lemmas.Option.{slice_get_past, slice_get-get_or}
use Rattle.cpg_cred.specs.declared.refusals.Refusal.TheVariants.{NoConnection}
use Rattle.cpg_daemon.specs.Sessions.{SessionValue}
use Rattle.cpg_cluster.specs.Answers.{Answer, Slots, AtNumber}

-- a number that was not given
pub at_none : (Goes : Option SessionValue → Answer → Option SessionValue → Type 0) (number : ℕ) (sessions : Slots)
    → ((1 ≤ number) × (number ≤ length sessions) → false ≡ true) → Goes None (Err NoConnection) None → AtNumber Goes number sessions (Err NoConnection) sessions
at_none Goes zero sessions beyond goes = (None, goes, refl)
at_none Goes (suc i) sessions beyond goes =
    let past : length sessions ≤ i = grind (arith, beyond) in
    (None, subst (λ o. Goes (option_flatten o) (Err NoConnection) None) (sym (slice_get_past sessions i past)) goes, sym (set_past sessions i None past))

-- a number that was given
pub at_number : (Goes : Option SessionValue → Answer → Option SessionValue → Type 0) (number : ℕ) (old : Slots) (answer : Answer) (slot after : Option SessionValue)
    → 1 ≤ number → number ≤ length old → slice_index_or old (number - 1) slot ≡ slot → Goes slot answer after → AtNumber Goes number old answer (slice_set old (number - 1) after)
at_number Goes zero old answer slot after least most at goes = absurd (omega (arith, least))
at_number Goes (suc i) old answer slot after least most at goes =
    let lower : suc i - 1 ≡ i = omega arith in
    let stands : slice_get old i ≡ Some slot = slice_get-get_or old i slot (omega (arith, most)) ∙ ap Some (sym (ap (λ k. slice_index_or old k slot) lower) ∙ at) in
    (after, subst (λ o. Goes (option_flatten o) answer after) (sym stands) goes, ap (λ k. slice_set old k after) lower)
