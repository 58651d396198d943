-- What is spelled in version 2 is read again.
use Rattle.std.specs.Prelude.{◌≡◌, Option, Some, None, IfSome}
use Rattle.cpg_rules.specs.declared.rules.Rule.{Rule}
use Rattle.cpg_entry.specs.declared.frames.Frame.TheVariants as frame
use Rattle.cpg_wire.specs.declared.codes.Version.{Version}
use Rattle.cpg_wire.specs.declared.codes.Version.TheVariants.{Two}
use Rattle.cpg_entry.specs.Ranges.{IsFrame}
use Rattle.cpg_entry.specs.Widths.{FrameFits}
use Rattle.cpg_wire.specs.Versions.{Fits, HasRoom, rule_in}
use Rattle.cpg_wire.specs.Reading.{frame_of}
use Rattle.cpg_wire.specs.Spelling.{spelling}
use Rattle.cpg_ring.specs.States.{Frame}

-- what the codec promises: a frame's spelling is read again
abbrev pub ReadAgain : Type 0
ReadAgain = (version : Version) (f : Frame) → IsFrame f → FrameFits f → Fits version f → frame_of (spelling version f) ≡ Some f

pub fits_two : (f : Frame) → Fits Two f
fits_two (frame.Token t) = tt
fits_two (frame.Packet p) = by_rule (rule_in p.entry.op)
  where
    by_rule : (o : Option Rule) → IfSome o (λ rule. HasRoom Two rule.who)
    by_rule None = tt
    by_rule (Some rule) = tt
