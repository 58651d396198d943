-- What a world keeps beside what it is.
use Rattle.std.specs.Prelude.{◌≡◌, ℕ, List, ◌∷◌, [], ◌++◌, All, Err}
use Rattle.std.specs.List.{filter_map}
use Rattle.cpg_cred.specs.declared.refusals.Refusal.TheVariants as refusal
use Rattle.cpg_wire.specs.Reading.{frame_of}
use Rattle.cpg_ring.specs.States.{Frame, IsSettings}
use Rattle.cpg_node.specs.Nodes.{NodeValue}
use Rattle.cpg_node.specs.Answers.{spelled, CanBeSpelled}
use Rattle.cpg_world_laws.specs.declared.events.WorldEvent.{WorldEvent}
use Rattle.cpg_world_laws.specs.Worlds.{WorldValue, moves, happens, Reached}
use Rattle.cpg_world_laws.specs.Replies.{Answer, IsAnswerAt, IsReply}
use Rattle.cpg_world.specs.Runs.{MayGrow}

-- the frames that byte strings spell
abbrev pub frames_of : List (List ℕ) → List Frame
frames_of sent = filter_map frame_of sent

-- each byte string is the spelling, in version 2, of a frame that has one
pub record AreSpelled (sent : List (List ℕ)) : Type 0 where
  pub spelled : sent ≡ spelled (frames_of sent)
  pub range : All CanBeSpelled (frames_of sent)

-- What is true of every world's fields: its settings are in their ranges, a list of events leads to it, and its frames are kept as they
-- are spelled.
pub record IsWorldKept (w : WorldValue) (sent : List (List ℕ)) : Type 0 where
  pub settings : IsSettings w.settings
  pub reached : Reached w
  pub spelled : AreSpelled sent

-- An event at its node: memory is refused, where it may be asked for, and the node and the frames are as before; or it is answered, the node moves, and what it
-- sends comes after the frames before.
abbrev pub IsMet : List Frame → WorldEvent → NodeValue → Answer → NodeValue → List Frame → Type 0
IsMet sent e x (Err refusal.Memory) y later = (y ≡ x) × (later ≡ sent) × MayGrow sent e x
IsMet sent e x answer y later = IsAnswerAt sent e x answer × (y ≡ (moves sent e x).0) × (later ≡ sent ++ (moves sent e x).1)

-- the event was answered, its reply stands after the others, and it happened
pub record IsAnswered (w : WorldValue) (e : WorldEvent) (replies later : List Answer) (after : WorldValue) : Type 0 where
  pub reply : Answer
  pub stands : later ≡ replies ++ reply ∷ []
  pub replied : IsReply w e reply
  pub happened : after ≡ happens w e
