-- A node's answer to a frame, by what the frame is and whether it is refused.
use Rattle.std.proofs.Common.{◌≡◌, ℕ, [], refl, inl, inr}
use Rattle.std.specs.Prelude.{◌⊎◌, Option, Some, None}
use Rattle.cpg_entry.specs.declared.frames.Frame.TheVariants as frames
use Rattle.cpg_ring.specs.States.{Frame, Packet, Token, Refusal, NodeState}
use Rattle.cpg_ring.specs.declared.settings.Settings.{Settings}
use Rattle.cpg_ring.specs.Rings.{refusal_of, data_refusal_of}
use Rattle.cpg_ring.specs.Visits.{visit_step}
use Rattle.cpg_ring.specs.Worlds.{receive_token, receive_data}
use Rattle.cpg_node.specs.Nodes.{NodeValue}
use Rattle.cpg_node.specs.Calls.{answers_to}
use Rattle.cpg_embed.specs.Laws.{EndsWithToken}

to_token : (s : Settings) (n : ℕ) (r : NodeState) (t : Token) (why : Option Refusal) → ((receive_token s n r t why).1 ≡ []) ⊎ EndsWithToken (receive_token s n r t why).1
to_token s n r t (Some why) = inl refl
to_token s n r t None = inr ((visit_step s n r t).packets, (visit_step s n r t).token, refl)

to_packet : (r : NodeState) (p : Packet) (why : Option Refusal) → (receive_data r p why).1 ≡ []
to_packet r p (Some why) = refl
to_packet r p None = refl

pub answers_end : (x : NodeValue) (f : Frame) → (answers_to x f ≡ []) ⊎ EndsWithToken (answers_to x f)
answers_end x (frames.Packet p) = inl (to_packet x.ring.state p (data_refusal_of x.ring p))
answers_end x (frames.Token t) = to_token x.ring.settings x.ring.node x.ring.state t (refusal_of x.ring t)
