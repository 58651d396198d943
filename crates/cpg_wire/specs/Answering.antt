-- what a decoder answers where memory may be refused
use Rattle.std.specs.Prelude.{◌≡◌, Option, Some, None, Result, Ok, Err, IsSome}
use Rattle.cpg_cred.specs.declared.refusals.Refusal.{Refusal}
use Rattle.cpg_cred.specs.declared.refusals.Refusal.TheVariants.{Memory, Malformed}
use Rattle.cpg_entry.specs.declared.frames.Frame.{Frame}

-- the frame that was read, or Malformed where none was; memory is asked for, and may be refused, only for a frame
abbrev pub AnswersRead : Result Frame Refusal → Option Frame → Type 0
AnswersRead (Ok frame) read = read ≡ Some frame
AnswersRead (Err Memory) read = IsSome read
AnswersRead (Err Malformed) read = read ≡ None
AnswersRead (Err _) read = ⊥
