-- What a turn's answer says of the status.
use Rattle.std.proofs.Common.{◌≡◌, ◌≤◌, ℕ, true, false, [], length, nat_lt, refl, sym, ap, subst, inl, inr, arith}
use Rattle.std.specs.Prelude.{Option, Some, None, Ok, Err}
use Rattle.cpg_cred.specs.declared.refusals.Refusal.{Refusal}
use Rattle.cpg_entry.specs.declared.frames.Frame.TheVariants as frames
use Rattle.cpg_node.specs.Nodes.{NodeValue}
use Rattle.cpg_node.specs.Answers.{IsTurnAnswer}
use Rattle.cpg_ring.specs.States.{Token}
use Rattle.cpg_embed.specs.Endpoints.{EndpointValue, at_node, with_frames}
use Rattle.cpg_embed.specs.Frames.{IsHeardAlone, IsTurned, IsTurnStatus}
use Rattle.cpg_cred.specs.Shown.{number}
use Rattle.cpg_embed.specs.Statuses.{IfElse}
use Rattle.cpg_embed.specs.declared.statuses.TheConstants.{OK, NONE, BUSY}

-- the token was heard
pub turned : (e : EndpointValue) (last : Option Token) (node : NodeValue) → IsTurnAnswer e.node last (Ok true) node → IsTurned e last OK (with_frames (at_node e node) [])
turned e None node is = absurd (cc)
turned e (Some t) node is =
    inr (subst (λ r. IsHeardAlone e (frames.Token t) r OK (with_frames (at_node e node) [])) (sym is.1) (refl, ap (λ n. with_frames (at_node e n) []) is.2))

-- there is none
pub not_turned : (e : EndpointValue) (last : Option Token) (node : NodeValue) → IsTurnAnswer e.node last (Ok false) node → IsTurned e last NONE (at_node e node)
not_turned e None node is = (refl, ap (at_node e) is.1)
not_turned e (Some t) node is = absurd (cc)

-- it was refused
pub refused : (e : EndpointValue) (last : Option Token) (why : Refusal) (node : NodeValue) → IsTurnAnswer e.node last (Err why) node → IsTurned e last (number why) (at_node e node)
refused e None why node is = absurd (cc)
refused e (Some t) why node (inl memory, same) = inl (ap number memory, ap (at_node e) same)
refused e (Some t) why node (inr says, same) = inr (subst (λ r. IsHeardAlone e (frames.Token t) r (number why) (at_node e node)) (sym says) (refl, ap (at_node e) same))

-- where no frames wait, the status is that of the turn
pub not_busy : (e : EndpointValue) (status : ℕ) (new : EndpointValue) → length e.made ≤ e.given → IsTurned e e.node.ring.state.last_token status new →
    IsTurnStatus e status new
not_busy e status new done says =
    let free : nat_lt e.given (length e.made) ≡ false = grind arith in
    subst (λ busy. IfElse busy ((status ≡ BUSY) × (new ≡ e)) (IsTurned e e.node.ring.state.last_token status new)) (sym free) says
