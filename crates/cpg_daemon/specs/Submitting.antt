-- What a session puts among what waits in one go: calls one after the other, each as `submit` puts one.
use Rattle.std.specs.Prelude.{◌≡◌, List, [], ◌∷◌, ◌++◌, Result, Ok, Err}
use Rattle.cpg_cred.specs.declared.refusals.Refusal.{Refusal}
use Rattle.cpg_cred.specs.declared.refusals.Refused.{Refused}
use Rattle.cpg_entry.specs.declared.calls.Call.{Call}
use Rattle.cpg_station.specs.Serving.{SubmitRefuses}
use Rattle.cpg_world_laws.specs.declared.events.WorldEvent.TheVariants.{Submit}
use Rattle.cpg_world_laws.specs.declared.replies.Reply.TheVariants.{Admitted}
use Rattle.cpg_world_laws.specs.Worlds.{WorldValue}
use Rattle.cpg_history.specs.Members.{Told}
use Rattle.cpg_daemon.specs.Sessions.{SessionValue}

-- One call of the session was admitted: all that `submit` says of it, and of the session that it leaves.
pub record SubmitsOne (start : WorldValue) (before : SessionValue) (call : Call) (after : SessionValue) : Type 0 where
  pub who : after.who ≡ before.who
  pub seat : after.seat ≡ before.seat
  pub history : Told start before.seen (Submit before.who.id.node before.who.id.conn call) (Ok Admitted) after.seen

-- What a session's station answers to a call, under its lock: that it is admitted; or why not, and then the call comes back, and the session is as
-- it was.
abbrev pub IsSubmitted : WorldValue → SessionValue → Call → Result (Unit {0}) (Refused Call) → SessionValue → Type 0
IsSubmitted start before call (Ok _) after = SubmitsOne start before call after
IsSubmitted start before call (Err refused) after = (refused.back ≡ call) × SubmitRefuses call refused.refusal × (after ≡ before)

-- these calls were admitted, one after the other, and no other
abbrev pub SubmitsEach : WorldValue → SessionValue → List Call → SessionValue → Type 0
SubmitsEach start before [] after = after ≡ before
SubmitsEach start before (call ∷ calls) after = (next : SessionValue) × SubmitsOne start before call next × SubmitsEach start next calls after

-- The first of the calls were admitted, and the others are left.
pub record SubmitsUpTo (start : WorldValue) (before : SessionValue) (calls : List Call) (left : List Call) (after : SessionValue) : Type 0 where
  pub admitted : List Call
  pub each : SubmitsEach start before admitted after
  pub list : calls ≡ admitted ++ left

-- the first of these is refused so
abbrev pub RefusesFirst : List Call → Refusal → Type 0
RefusesFirst left why = (call : Call) × (rest : List Call) × (left ≡ call ∷ rest) × SubmitRefuses call why

-- What `submit_many` answers: that all were admitted; or why the first of those that are left was not.
abbrev pub IsSubmittedMany : WorldValue → SessionValue → List Call → Result (Unit {0}) Refusal → List Call → SessionValue → Type 0
IsSubmittedMany start before calls (Ok _) left after = (left ≡ []) × SubmitsUpTo start before calls left after
IsSubmittedMany start before calls (Err why) left after = RefusesFirst left why × SubmitsUpTo start before calls left after
