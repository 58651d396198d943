-- What a refused frame says of the status.
use Rattle.std.proofs.Common.{◌≡◌, ℕ, List, length, refl, sym, ap, subst, false, nat_lt, inl, inr}
use Rattle.std.specs.Prelude.{Option, Some, None, Err}
use Rattle.cpg_cred.specs.declared.refusals.Refusal.{Refusal}
use Rattle.cpg_cred.specs.declared.refusals.Refusal.TheVariants as refusal
use Rattle.cpg_node.specs.Nodes.{NodeValue}
use Rattle.cpg_node.specs.Calls.{frame_refusal}
use Rattle.cpg_node.specs.Answers.{IsFrameAnswer}
use Rattle.cpg_ring.specs.States.{Frame}
use Rattle.cpg_wire.specs.Reading.{frame_of}
use Rattle.cpg_embed.specs.Endpoints.{EndpointValue, at_node}
use Rattle.cpg_embed.specs.Frames.{IsHeardBy, IsRead, IsFrameStatus}
use Rattle.cpg_cred.specs.Shown.{number}
use Rattle.cpg_embed.specs.Statuses.{IfElse}
use Rattle.cpg_embed.specs.declared.statuses.TheConstants.{BUSY}

by_refusal : (e : EndpointValue) (f : Frame) (why : Refusal) (new : NodeValue) → frame_refusal e.node f ≡ Some why → new ≡ e.node → IsHeardBy e f (frame_refusal e.node f) (number why) (at_node e new)
by_refusal e f why new is same = subst (λ r. IsHeardBy e f r (number why) (at_node e new)) (sym is) (refl, ap (at_node e) same)

read : {X : Type 0} (items : X → List (List ℕ)) (e : EndpointValue) (f : Option Frame) (why : Refusal) (new : NodeValue) → IsFrameAnswer items e.node f (Err why) new → IsRead e f (number why) (at_node e new)
read items e None why new (is, same) = (search, ap (at_node e) same)
read items e (Some f) refusal.Memory new same = inl (refl, ap (at_node e) same.1)
read items e (Some f) refusal.Access new is = inr (by_refusal e f refusal.Access new is.0 is.1)
read items e (Some f) refusal.NoConnection new is = inr (by_refusal e f refusal.NoConnection new is.0 is.1)
read items e (Some f) refusal.BadName new is = inr (by_refusal e f refusal.BadName new is.0 is.1)
read items e (Some f) refusal.TooLong new is = inr (by_refusal e f refusal.TooLong new is.0 is.1)
read items e (Some f) refusal.QueueFull new is = inr (by_refusal e f refusal.QueueFull new is.0 is.1)
read items e (Some f) refusal.ConnectionsFull new is = inr (by_refusal e f refusal.ConnectionsFull new is.0 is.1)
read items e (Some f) refusal.Foreign new is = inr (by_refusal e f refusal.Foreign new is.0 is.1)
read items e (Some f) refusal.NotMine new is = inr (by_refusal e f refusal.NotMine new is.0 is.1)
read items e (Some f) refusal.Stale new is = inr (by_refusal e f refusal.Stale new is.0 is.1)
read items e (Some f) refusal.Implausible new is = inr (by_refusal e f refusal.Implausible new is.0 is.1)
read items e (Some f) refusal.Held new is = inr (by_refusal e f refusal.Held new is.0 is.1)
read items e (Some f) refusal.FarAhead new is = inr (by_refusal e f refusal.FarAhead new is.0 is.1)
read items e (Some f) refusal.Malformed new is = inr (by_refusal e f refusal.Malformed new is.0 is.1)
read items e (Some f) refusal.RingEnd new is = inr (by_refusal e f refusal.RingEnd new is.0 is.1)
read items e (Some f) refusal.NoFrame new is = inr (by_refusal e f refusal.NoFrame new is.0 is.1)
read items e (Some f) refusal.Differs new is = inr (by_refusal e f refusal.Differs new is.0 is.1)
read items e (Some f) refusal.BoardFull new is = inr (by_refusal e f refusal.BoardFull new is.0 is.1)
read items e (Some f) (refusal.Behind n) new is = inr (by_refusal e f (refusal.Behind n) new is.0 is.1)
read items e (Some f) refusal.Stopped new is = inr (by_refusal e f refusal.Stopped new is.0 is.1)
read items e (Some f) (refusal.Denied n) new is = inr (by_refusal e f (refusal.Denied n) new is.0 is.1)
read items e (Some f) (refusal.BadLine n) new is = inr (by_refusal e f (refusal.BadLine n) new is.0 is.1)
read items e (Some f) (refusal.Unopened n) new is = inr (by_refusal e f (refusal.Unopened n) new is.0 is.1)
read items e (Some f) refusal.Unclosed new is = inr (by_refusal e f refusal.Unclosed new is.0 is.1)
read items e (Some f) (refusal.BadItem n) new is = inr (by_refusal e f (refusal.BadItem n) new is.0 is.1)
read items e (Some f) (refusal.BadValue n) new is = inr (by_refusal e f (refusal.BadValue n) new is.0 is.1)
read items e (Some f) (refusal.UnknownName n) new is = inr (by_refusal e f (refusal.UnknownName n) new is.0 is.1)
read items e (Some f) refusal.Range new is = inr (by_refusal e f refusal.Range new is.0 is.1)
read items e (Some f) (refusal.BadCommand n) new is = inr (by_refusal e f (refusal.BadCommand n) new is.0 is.1)
read items e (Some f) refusal.Read new is = inr (by_refusal e f refusal.Read new is.0 is.1)
read items e (Some f) refusal.Write new is = inr (by_refusal e f refusal.Write new is.0 is.1)

-- a frame that is refused while none waits to be handed over
pub refused_frame : {X : Type 0} (items : X → List (List ℕ)) (e : EndpointValue) (bytes : List ℕ) (why : Refusal) (new : NodeValue) → nat_lt e.given (length e.made) ≡ false → IsFrameAnswer items e.node (frame_of bytes) (Err why) new → IsFrameStatus e bytes (number why) (at_node e new)
refused_frame items e bytes why new free is = subst (λ b. IfElse b ((number why ≡ BUSY) × (at_node e new ≡ e)) (IsRead e (frame_of bytes) (number why) (at_node e new))) (sym free) (read items e (frame_of bytes) why new is)
