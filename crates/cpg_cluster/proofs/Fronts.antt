-- beginnings of the history that go on
use Rattle.std.proofs.Common.{◌≡◌, ℕ, List, [], ◌∷◌, None, Ok, inl, inr, refl, sym, subst}
use mathlib.Core.List.{IsPrefix}
use Rattle.cpg_world_laws.specs.declared.events.WorldEvent.{WorldEvent}
use Rattle.cpg_world_laws.specs.declared.events.WorldEvent.TheVariants.{Disconnect}
use Rattle.cpg_world_laws.specs.declared.replies.Reply.TheVariants.{Closed}
use Rattle.cpg_world_laws.specs.Replies.{Answer}
use Rattle.cpg_world_laws.specs.Worlds.{WorldValue}
use Rattle.cpg_history.specs.Members.{Told}
use Rattle.cpg_history.proofs.Resting.{prefix_then}
use Rattle.cpg_history.proofs.Runs.{prefix_on, prefix_self}
use Rattle.cpg_daemon.specs.Clusters.{IsMarkIn}
use Rattle.cpg_daemon.specs.Sessions.{SessionValue}
use Rattle.cpg_daemon.specs.Taking.{TakeTold}
use Rattle.cpg_cluster.specs.Answers.{EndsIn, MarksIn}

-- nothing begins everything
pub begins_any : (xs ys : List WorldEvent) → xs ≡ [] → IsPrefix xs ys
begins_any xs ys none = subst (λ (l : List WorldEvent). IsPrefix l ys) (sym none) (ys, refl)

-- what had been seen begins what is seen after an event
pub told_on : (start : WorldValue) (before after : List WorldEvent) (e : WorldEvent) (a : Answer) → Told start before e a after → IsPrefix before after
told_on start before after e a told = subst (IsPrefix before) (sym told.seen) (prefix_on before told.log (e ∷ []) told.begins)

-- an event that came after more was seen came after what was seen before that
pub told_since : (start : WorldValue) (first before after : List WorldEvent) (e : WorldEvent) (a : Answer) → IsPrefix first before → Told start before e a after → Told start first e a after
told_since start first before after e a on told = record { log = told.log; begins = prefix_then first before told.log on told.begins; reply = told.reply; seen = told.seen }

-- a take that found nothing
pub none_on : (start : WorldValue) (before : SessionValue) (after : List WorldEvent) → TakeTold start before after None → IsPrefix before.seen after
none_on start before after (inl told) = told_on start before.seen after _ _ told
none_on start before after (inr still) = subst (IsPrefix before.seen) (sym still.1) (prefix_self before.seen)

-- a session's end
pub ends_in : (start : WorldValue) (before : SessionValue) (old new seen : List WorldEvent) → Told start before.seen (Disconnect before.who.id.node before.who.id.conn) (Ok Closed) seen → IsPrefix seen new → IsPrefix old new → EndsIn start before old new
ends_in start before old new seen told here longer = record { seen = seen; told = told; here = here; longer = longer }

-- a node's mark
pub marks_in : (start : WorldValue) (node place : ℕ) (old new seen : List WorldEvent) → IsMarkIn start seen node place → IsPrefix seen new → IsPrefix old new → MarksIn start node place old new
marks_in start node place old new seen mark here longer = record { seen = seen; mark = mark; here = here; longer = longer }
