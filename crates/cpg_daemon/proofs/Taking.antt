-- Takes in a row.
use Rattle.std.proofs.Common.{◌≡◌, ◌∙◌, ℕ, ◌+◌, ◌≤◌, List, [], ◌∷◌, ◌++◌, length, take, Option, Some, None, Result, Ok, Err, refl, sym, ap, subst, append_assoc, length-append, arith}
use Rattle.std.proofs.lemmas.List.{take-take, length-take}
use Rattle.cpg_cred.specs.declared.refusals.Refusal.{Refusal}
use Rattle.cpg_record.specs.declared.events.Event.{Event}
use Rattle.cpg_record.specs.Places.{Begins}
use Rattle.cpg_node.specs.declared.connections.Connection.{Connection}
use Rattle.cpg_world_laws.specs.Worlds.{WorldValue}
use Rattle.cpg_daemon.specs.Sessions.{SessionValue}
use Rattle.cpg_daemon.specs.Taking.{TakesOne, TakesEach, TakesOnto, TakesUntil}

begins_length : {X : Type 0} (xs ys : List X) → Begins xs ys → length xs ≤ length ys
begins_length xs ys b = let l = length-take (length xs) ys in omega (arith, ap length b, l)

-- what begins a list begins those that it begins
pub begins_on : {X : Type 0} (xs ys zs : List X) → Begins xs ys → Begins ys zs → Begins xs zs
begins_on xs ys zs first second = sym (take-take (length xs) (length ys) zs (begins_length xs ys first)) ∙ ap (take (length xs)) second ∙ first

-- a take leaves whose session it is
pub same_id : (start : WorldValue) (before : SessionValue) (answer : Result (Option Event) Refusal) (after : SessionValue) → TakesOne start before answer after → after.who.id ≡ before.who.id
same_id start before (Ok None) after is = ap (λ (who : Connection). who.id) is.who
same_id start before (Ok (Some event)) after is = ap (λ (who : Connection). who.id) is.who
same_id start before (Err why) after is = ap (λ (who : Connection). who.id) is.err.0

each_then : (start : WorldValue) (before : SessionValue) (events : List Event) (between : SessionValue) (event : Event) (after : SessionValue)
    → TakesEach start before events between → TakesOne start between (Ok (Some event)) after → TakesEach start before (events ++ event ∷ []) after
each_then start before [] between event after each last = (after, subst (λ (s : SessionValue). TakesOne start s (Ok (Some event)) after) each last, refl)
each_then start before (first ∷ events) between event after each last = (each.0, each.1, each_then start each.0 events between event after each.2 last)

-- one event more was taken
pub one_more : (start : WorldValue) (before : SessionValue) (old : List Event) (count : ℕ) (list : List Event) (between : SessionValue) (event : Event) (new : List Event) (after : SessionValue)
    → TakesOnto start before old count list between → TakesOne start between (Ok (Some event)) after → new ≡ list ++ event ∷ [] → TakesOnto start before old (count + 1) new after
one_more start before old count list between event new after some last more = record {
  events = some.events ++ event ∷ [];
  each = each_then start before some.events between event after some.each last;
  many = length-append some.events (event ∷ []) ∙ ap (λ n. n + 1) some.many;
  list = more ∙ ap (λ l. l ++ event ∷ []) some.list ∙ append_assoc old some.events (event ∷ []);
}

-- one take more gave no event
pub ends : (start : WorldValue) (before : SessionValue) (old : List Event) (count : ℕ) (list : List Event) (between : SessionValue) (answer : Result (Option Event) Refusal) (new : List Event) (after : SessionValue)
    → TakesOnto start before old count list between → TakesOne start between answer after → new ≡ list → TakesUntil start before old count answer new after
ends start before old count list between answer new after some last same = record { between = between; taken = subst (λ l. TakesOnto start before old count l between) (sym same) some; last = last }
