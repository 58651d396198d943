-- seats that have seen more
use Rattle.std.proofs.Common.{◌≡◌, ◌≤◌, List, length, take, Option, Some, None, Result, Ok, Err, slice_get, refl, sym, ap, subst, ◌∙◌, arith}
use Rattle.std.specs.Prelude.{IfOk, OnErr}
use Rattle.std.proofs.lemmas.List.{take-take, length-take, take_all}
use Rattle.cpg_cred.specs.declared.refusals.Refusal.{Refusal}
use Rattle.cpg_cred.specs.declared.refusals.Refusal.TheVariants as refusal
use Rattle.cpg_record.specs.declared.events.Event.{Event}
use Rattle.cpg_record.specs.Events.{inbox}
use Rattle.cpg_node.specs.declared.connections.Connection.{Connection}
use Rattle.cpg_record.specs.Places.{Begins}
use Rattle.cpg_station.specs.Serving.{OverFront, moved_on}
use mathlib.Core.List.{IsPrefix}
use Rattle.cpg_world_laws.specs.declared.events.WorldEvent.{WorldEvent}
use Rattle.cpg_world_laws.specs.declared.events.WorldEvent.TheVariants.{Take}
use Rattle.cpg_world_laws.specs.Worlds.{WorldValue}
use Rattle.cpg_history.specs.Members.{Told}
use Rattle.cpg_history.proofs.Resting.{prefix_then}
use Rattle.cpg_history.proofs.Runs.{prefix_self}
use Rattle.cpg_world_laws.specs.declared.replies.Reply.TheVariants as replied
use Rattle.cpg_daemon.specs.Sessions.{SessionValue, IsTaken}
use Rattle.cpg_daemon.specs.Taking.{TakeTold, TakesOne, take_of}
use Rattle.cpg_cluster.proofs.Fronts.{none_on, told_since}
use Rattle.cpg_cluster.specs.declared.commands.Ask.TheVariants as ask
use Rattle.cpg_cluster.specs.declared.replies.Reply.TheVariants.{Took}
use Rattle.cpg_cluster.specs.Answers.{GoesOn, IsTold, Serves}
use Rattle.cpg_cluster.specs.Steps.{IsPolled, poll_of}

begins_length : {X : Type 0} (xs ys : List X) → Begins xs ys → length xs ≤ length ys
begins_length xs ys b = let l = length-take (length xs) ys in omega (arith, ap length b, l)

-- what begins a list begins those that it begins
pub begins_on : {X : Type 0} (xs ys zs : List X) → Begins xs ys → Begins ys zs → Begins xs zs
begins_on xs ys zs first second = sym (take-take (length xs) (length ys) zs (begins_length xs ys first)) ∙ ap (take (length xs)) second ∙ first

-- a list begins itself
pub begins_self : {X : Type 0} (xs : List X) → Begins xs xs
begins_self xs = take_all (length xs) xs (omega arith)

-- a session that went on goes on
pub stays_on : (a b c : SessionValue) → GoesOn a b → GoesOn b c → GoesOn a c
stays_on a b c first second =
    ((second.0.0 ∙ first.0.0, begins_on a.seat b.seat c.seat first.0.1 second.0.1), prefix_then a.seen b.seen c.seen first.1 second.1)

pub stays_self : (a : SessionValue) → GoesOn a a
stays_self a = ((refl, begins_self a.seat), prefix_self a.seen)

-- an event that came after that
pub awaited_on : (start : WorldValue) (a b c : SessionValue) (event : Event) → GoesOn a b → Serves start b ask.Wait (Ok (Took event)) c → Serves start a ask.Wait (Ok (Took event)) c
awaited_on start a b c event on came = (over, told, after, begins_on a.seat b.seat c.seat on.0.1 came.3)
  where
    over : OverFront a.seat c.seat (λ front. slice_get (inbox front a.who.id) a.who.taken ≡ Some event)
    over =
        let before = came.0 in
        (before.0, before.1, omega (arith, begins_length a.seat b.seat on.0.1, before.2), subst (λ (who : Connection). slice_get (inbox before.0 who.id) who.taken ≡ Some event) on.0.0 before.3)

    told : IsTold start a event c
    told =
        let same : take_of b ≡ take_of a = ap (λ (who : Connection). Take who.id.node who.id.conn) on.0.0 in
        told_since start a.seen b.seen c.seen (take_of a) (Ok (replied.Took (Some event))) on.1
        (subst (λ (e : WorldEvent). Told start b.seen e (Ok (replied.Took (Some event))) c.seen) same came.1)

    after : c.who ≡ moved_on a.who (Some event)
    after = came.2 ∙ ap (λ who. moved_on who (Some event)) on.0.0

-- why waiting ended after that
pub ended_on : (start : WorldValue) (a b c : SessionValue) (why : Refusal) → GoesOn a b → Serves start b ask.Wait (Err why) c → Serves start a ask.Wait (Err why) c
ended_on start a b c why on came = (came.0, stays_on a b c on came.1)

-- what one poll tells, by what the session was answered
polled_as : (start : WorldValue) (a b : SessionValue) (answer : Result (Option Event) Refusal) → TakesOne start a answer b → IsPolled start a (poll_of answer) b
polled_as start a b (Ok None) took = ((took.who, took.seat), none_on start a b.seen took.history)
polled_as start a b (Ok (Some event)) took = ((took.answers.0, took.answers.1, took.answers.2, sym took.answers.3), took.history, took.who, took.seat)
polled_as start a b (Err (refusal.Behind reached)) took = goes took.err took.seat
  where
    goes : (b.who ≡ a.who) × (b.seen ≡ a.seen) → Begins a.seat b.seat → GoesOn a b
    goes same seat = ((same.0, seat), subst (IsPrefix a.seen) (sym same.1) (prefix_self a.seen))
polled_as start a b (Err refusal.Memory) took = (tt, ((took.err.0, took.seat), subst (IsPrefix a.seen) (sym took.err.1) (prefix_self a.seen)))
polled_as start a b (Err refusal.Stopped) took = (tt, ((took.err.0, took.seat), subst (IsPrefix a.seen) (sym took.err.1) (prefix_self a.seen)))
polled_as start a b (Err _) took = absurd took.answers

pub polled_is : (start : WorldValue) (a b : SessionValue) (answer : Result (Option Event) Refusal) (told : Option (Result Event Refusal)) → told ≡ poll_of answer
    → IsTaken a b.seat answer → IfOk answer (TakeTold start a b.seen) → IfOk answer (λ event. b.who ≡ moved_on a.who event) → OnErr answer ((b.who ≡ a.who) × (b.seen ≡ a.seen)) → Begins a.seat b.seat
    → IsPolled start a told b
polled_is start a b answer told is taken history who err seat =
    subst (λ (t : Option (Result Event Refusal)). IsPolled start a t b) (sym is) (polled_as start a b answer (record { answers = taken; history = history; who = who; err = err; seat = seat }))
