-- What is done, what came of it, and which step of a run that is.
use Rattle.std.specs.Prelude.{◌≡◌, ◌⊎◌, ◌++◌, ℕ, take, suc, List, [], ◌∷◌, length, Some, None, Result, Ok, Err}
use Rattle.std.specs.declared.vec.Vec.{Vec}
use Rattle.std.specs.declared.alloc.Global.{Global}
use Rattle.bytes.specs.declared.shared.Bytes.{Bytes}
use Rattle.cpg_cred.specs.declared.refusals.Refusal.{Refusal}
use Rattle.cpg_cred.specs.declared.refusals.Refusal.TheVariants as refusal
use Rattle.cpg_cred.specs.Listed.{Listed}
use Rattle.cpg_entry.specs.declared.entries.Entry.{Entry}
use Rattle.cpg_entry.specs.declared.frames.Token.{Token}
use Rattle.cpg_ring.specs.declared.settings.Settings.{Settings}
use Rattle.cpg_wire.specs.Reading.{frame_of}
use Rattle.cpg_ring.specs.Worlds.{item}
use Rattle.cpg_node.specs.Nodes.{delivered_entries, open_client}
use Rattle.cpg_node.specs.Calls.{connect_refusal, closed_refusal, place_to_deliver}
use Rattle.cpg_node.specs.Answers.{IsFrameAnswer}
use Rattle.cpg_serve.specs.declared.deeds.Deed.{Deed}
use Rattle.cpg_serve.specs.declared.deeds.Deed.TheVariants as deeds
use Rattle.cpg_serve.specs.declared.deeds.Outcome.{Outcome}
use Rattle.cpg_serve.specs.declared.deeds.Outcome.TheVariants as outcomes
use Rattle.cpg_serve.specs.Serving.{ServedValue, IsAway, IsCaughtUp, IsUnwritten, out_of}
use Rattle.cpg_serve.specs.Runs.{Did, Arrives, Hears, Frames, Delivers, Tells, Writes, Loses, Nothing, Goes}
use Rattle.cpg_serve.specs.Settling.{IsBrisk, IsLone, MovesOn, StaysLone, WhyMoving}
use Rattle.cpg_serve.specs.Carrying.{ComesToNext, IsAtRest}
use Rattle.cpg_serve.specs.Refusals.{WhyNotRenewed}
use Rattle.cpg_serve.specs.Rings.{Step, Does, Moves, Renews, Life, EachLifeTells}

-- the step that a deed with that outcome is
abbrev pub did_of : Deed → Outcome → Did
did_of (deeds.Arrive pid cred) (outcomes.Arrived conn) = Arrives pid cred
did_of (deeds.Hear conn bytes) (outcomes.Heard heard) = Hears conn bytes.now heard.count heard.stop
did_of (deeds.Frame bytes) outcome = Frames
did_of deeds.Deliver (outcomes.Delivered place) = Delivers
did_of (deeds.Tell conn) outcome = Tells conn
did_of (deeds.Write conn most) (outcomes.Wrote bytes) = Writes conn bytes
did_of (deeds.Lose conn) outcomes.Lost = Loses conn
did_of deed outcome = Nothing

-- So it went: by a call; or the ring moved by itself, and it may be that the next one took its place.
abbrev pub GoesAs : ServedValue → Deed → Outcome → ServedValue → Type 0
GoesAs x (deeds.Renew settings list) (outcomes.Renewed numbers) y = ComesToNext settings list.now numbers.items x y
GoesAs x (deeds.Renew settings list) outcome y = MovesOn x y
GoesAs x deeds.Settle outcome y = MovesOn x y
GoesAs x deed outcome y = Goes x (did_of deed outcome) y

-- the step of a life that this is
abbrev pub IsStep : Deed → Outcome → Step → Type 0
IsStep (deeds.Renew settings list) (outcomes.Renewed numbers) (Renews r) = r.numbers ≡ numbers.items
IsStep (deeds.Renew settings list) (outcomes.Renewed numbers) step = ⊥
IsStep (deeds.Renew settings list) outcome step = step ≡ Moves
IsStep deeds.Settle outcome step = step ≡ Moves
IsStep deed outcome step = step ≡ Does (did_of deed outcome)

-- these are the steps of those deeds
abbrev pub AreSteps : List Deed → List Outcome → List Step → Type 0
AreSteps [] [] [] = Unit {0}
AreSteps (deed ∷ deeds) (outcome ∷ outcomes) (step ∷ steps) = IsStep deed outcome step × AreSteps deeds outcomes steps
AreSteps _ _ _ = ⊥

-- the node answers a frame so
abbrev pub AnswersFrame : ServedValue → List ℕ → Result (Vec (Bytes Global) Global) Refusal → ServedValue → Type 0
AnswersFrame x bytes answer y = IsFrameAnswer (λ list. list.items) x.node (frame_of bytes) answer y.node

-- a frame is heard, and what the node answers is sent; or it is refused as the node says
abbrev pub IsFrameOutcome : ServedValue → List ℕ → Outcome → ServedValue → Type 0
IsFrameOutcome x bytes (outcomes.Sent frames) y = AnswersFrame x bytes (Ok frames.list) y
IsFrameOutcome x bytes (outcomes.Refused why) y = AnswersFrame x bytes (Err why) y
IsFrameOutcome x bytes _ y = ⊥

-- a client was told all; or some of it, and then there was no memory
abbrev pub IsTellOutcome : ServedValue → ℕ → Outcome → ServedValue → Type 0
IsTellOutcome x conn outcomes.Told y = IsCaughtUp conn x (item x.desks conn) (Ok tt) y
IsTellOutcome x conn (outcomes.Refused why) y = IsCaughtUp conn x (item x.desks conn) (Err why) y
IsTellOutcome x conn _ y = ⊥

-- The ring came to rest. In a ring of one node that heard no other's frame all that was admitted is delivered then, in
-- its order, after one turn for each eight entries that waited.
pub record ComesToRest (x y : ServedValue) : Type 0 where
  pub rest : IsAtRest y
  pub placed : (t : Token) (placed : List Entry) → IsLone x.node.ring t placed → delivered_entries y.node.ring.state ≡ placed ++ x.node.ring.state.waiting
  pub turns : IsBrisk x.node.ring y.node.ring
  pub lone : StaysLone x.node.ring y.node.ring

-- in a ring of one node that heard no other's frame, why not
abbrev pub IsUnsettled : ServedValue → Refusal → ServedValue → Type 0
IsUnsettled x why y = (t : Token) (placed : List Entry) → IsLone x.node.ring t placed → WhyMoving x.node.ring y.node.ring why

-- and why the next ring does not begin
abbrev pub IsUnrenewed : ServedValue → Settings → Listed → Refusal → ServedValue → Type 0
IsUnrenewed x s list why y = (t : Token) (placed : List Entry) → IsLone x.node.ring t placed → WhyNotRenewed s list x y why

-- A deed has an outcome of its own kind, or it is refused: a client that comes, for want of memory or as its node's
-- list says; bytes, where their client is not there; a delivery, for want of memory; a loss, for that or where there is
-- no such client; the others as is said above.
abbrev pub IsOutcome : ServedValue → Deed → Outcome → ServedValue → Type 0
IsOutcome x (deeds.Arrive pid cred) (outcomes.Arrived conn) y = (conn ≡ suc (length x.desks)) × (connect_refusal x.node cred ≡ None)
IsOutcome x (deeds.Arrive pid cred) (outcomes.Refused why) y = (why ≡ refusal.Memory) ⊎ (connect_refusal x.node cred ≡ Some why)
IsOutcome x (deeds.Hear conn bytes) (outcomes.Heard heard) y = Unit {0}
IsOutcome x (deeds.Hear conn bytes) (outcomes.Refused why) y = (why ≡ refusal.NoConnection) × IsAway x conn
IsOutcome x (deeds.Frame bytes) outcome y = IsFrameOutcome x bytes.now outcome y
IsOutcome x deeds.Deliver (outcomes.Delivered place) y = place ≡ place_to_deliver x.node
IsOutcome x deeds.Deliver (outcomes.Refused why) y = why ≡ refusal.Memory
IsOutcome x (deeds.Tell conn) outcome y = IsTellOutcome x conn outcome y
IsOutcome x (deeds.Write conn most) (outcomes.Wrote bytes) y = bytes ≡ take most (out_of (item x.desks conn))
IsOutcome x (deeds.Write conn most) (outcomes.Refused why) y = IsUnwritten (item x.desks conn) why
IsOutcome x (deeds.Lose conn) outcomes.Lost y = closed_refusal (open_client x.node conn) ≡ None
IsOutcome x (deeds.Lose conn) (outcomes.Refused why) y = (why ≡ refusal.Memory) ⊎ (closed_refusal (open_client x.node conn) ≡ Some why)
IsOutcome x deeds.Settle outcomes.Settled y = ComesToRest x y
IsOutcome x deeds.Settle (outcomes.Refused why) y = IsUnsettled x why y
IsOutcome x (deeds.Renew settings list) (outcomes.Renewed numbers) y = Unit {0}
IsOutcome x (deeds.Renew settings list) (outcomes.Refused why) y = IsUnrenewed x settings list.now why y
IsOutcome x deed outcome y = ⊥

-- Each deed was done, one after another, and has its outcome: from the state before it to the state after it.
abbrev pub AreDone : ServedValue → List Deed → List Outcome → ServedValue → Type 0
AreDone x [] [] y = y ≡ x
AreDone x (deed ∷ deeds) (outcome ∷ outcomes) y = (z : ServedValue) × GoesAs x deed outcome z × IsOutcome x deed outcome z × AreDone z deeds outcomes y
AreDone x _ _ y = ⊥

-- The headline, for whoever serves clients by deeds, over one ring after another: each deed has its outcome; they are
-- steps of a life; and over it each client is sent its answers and its inboxes, in order.
pub record AreServed (x : ServedValue) (deeds : List Deed) (outcomes : List Outcome) (y : ServedValue) : Type 0 where
  pub done : AreDone x deeds outcomes y
  pub steps : List Step
  pub are : AreSteps deeds outcomes steps
  pub life : Life x steps y
  pub tells : EachLifeTells x steps y
