-- From what a decoder answers to what the grammar says.
use Rattle.std.proofs.Common.{◌≡◌, ℕ, List, Option, Some, None, Result, Ok, Err, ◌⊎◌, refl, inl, inr}
use Rattle.std.specs.Prelude.{◌↔◌, IfOk, IfErr, IfSome, IsSome}
use Rattle.std.specs.Option.{option_map}
use Rattle.cpg_cred.specs.declared.refusals.Refusal.{Refusal}
use Rattle.cpg_cred.specs.declared.refusals.Refusal.TheVariants.{Memory, Malformed}
use Rattle.cpg_entry.specs.declared.frames.Frame.{Frame}
use Rattle.cpg_wire.specs.Answering.{AnswersRead}
use Rattle.cpg_wire.specs.declared.frames.FrameView.{FrameView}
use Rattle.cpg_wire.specs.Views.{frame_seen}
use Rattle.cpg_entry.specs.Ranges.{IsFrame}
use Rattle.cpg_entry.specs.Widths.{FrameFits}
use Rattle.cpg_wire.specs.Reading.{frame_of}
use Rattle.cpg_wire.specs.Spelling.{Spells}
use Rattle.cpg_wire.proofs.Readers.{IsBytes}
use Rattle.cpg_wire.proofs.ReadsFrames.{spelled_is_read, read_is_spelled}

pub found : (bytes : List ℕ) (answer : Result Frame Refusal) → IsBytes bytes → AnswersRead answer (frame_of bytes) → IfOk answer (λ frame. Spells bytes frame)
found bytes (Ok frame) fits h = read_is_spelled bytes frame fits h
found bytes (Err refusal) fits h = tt

-- a frame that is read has a name
the_frame : (read : Option Frame) → IsSome read → (frame : Frame) × (read ≡ Some frame)
the_frame (Some frame) h = (frame, refl)
the_frame None h = absurd cc

pub malformed : (bytes : List ℕ) (answer : Result Frame Refusal) → IsBytes bytes → AnswersRead answer (frame_of bytes) → (answer ≡ Err Malformed) ↔ ((frame : Frame) → Spells bytes frame → ⊥)
malformed bytes (Ok frame) fits h = (λ e. absurd cc, λ none. absurd (none frame (read_is_spelled bytes frame fits h)))
malformed bytes (Err Memory) fits h = (λ e. absurd cc, λ none. let f = the_frame (frame_of bytes) h in absurd (none f.0 (read_is_spelled bytes f.0 fits f.1)))
malformed bytes (Err Malformed) fits h = (λ e frame spelled. let r = spelled_is_read bytes frame spelled in cc (h, r), λ none. refl)
malformed bytes (Err _) fits h = absurd h

pub refused : (bytes : List ℕ) (answer : Result Frame Refusal) → AnswersRead answer (frame_of bytes) → IfErr answer (λ refusal. (refusal ≡ Malformed) ⊎ (refusal ≡ Memory))
refused bytes (Ok frame) h = tt
refused bytes (Err Memory) h = inr refl
refused bytes (Err Malformed) h = inl refl
refused bytes (Err _) h = absurd h

-- what a view shows of bytes is as the grammar has it
pub seen_in_range : (bytes : List ℕ) (view : Option FrameView) → IsBytes bytes → frame_of bytes ≡ option_map frame_seen view → IfSome view (λ v. IsFrame (frame_seen v) × FrameFits (frame_seen v))
seen_in_range bytes (Some v) fits h = let spelled = read_is_spelled bytes (frame_seen v) fits h in (spelled.1.0, spelled.1.1)
seen_in_range bytes None fits h = tt

pub in_range : (bytes : List ℕ) (answer : Result Frame Refusal) → IfOk answer (λ frame. Spells bytes frame) → IfOk answer (λ frame. IsFrame frame × FrameFits frame)
in_range bytes (Ok frame) h = (h.1.0, h.1.1)
in_range bytes (Err refusal) h = tt
