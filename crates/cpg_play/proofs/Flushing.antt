-- how a script that checks itself ends, after the flush
use Rattle.std.proofs.Common.{◌≡◌, ℕ, List, Bool, true, false, Option, Some, None, Result, Ok, Err, refl, sym, ap, ◌∙◌, subst}
use Rattle.std.proofs.KnownBytes.{Keeps-trans}
use Rattle.std.specs.Prelude.{◌↔◌, OnOk, IfOk, IfSome}
use Rattle.std.specs.Io.KnownBytes.{Keeps}
use Rattle.cpg_cred.specs.Listed.{Listed}
use Rattle.cpg_ring.specs.declared.settings.Settings.{Settings}
use Rattle.cpg_console.specs.declared.failures.Failure.{Failure}
use Rattle.cpg_console.specs.declared.failures.Failure.TheVariants as failure
use Rattle.cpg_console.specs.Runs.{failure_of, failure_told}
use Rattle.cpg_console.proofs.Flushed.{word_stays}
use Rattle.cpg_play.specs.declared.performing.Stage.{Stage}
use Rattle.cpg_play.specs.declared.performing.Stage.TheVariants as stage
use Rattle.cpg_play.specs.Playing.{IsPlayedOn, failure_played, wanted_played}

word_of : (played : Result Bool Failure) → failure_played played ≡ Some failure.BadWord → played ≡ Err failure.BadWord
word_of (Err failure.BadWord) is = refl
word_of (Err (failure.Missing what)) is = absurd (cc)
word_of (Err (failure.Fault fault)) is = absurd (cc)
word_of (Ok wanted) is = absurd (cc)

-- a wrong word is told whatever a flush does
pub word_played : (P : Type 0) (played : Result Bool Failure) (done : Result (Unit {0}) Failure) (flushed : Bool) (end : Option Failure) → failure_of done ≡ failure_played played
    → end ≡ failure_told flushed (failure_of done) → (played ≡ Err failure.BadWord) ↔ P → (end ≡ Some failure.BadWord) ↔ P
word_played P played done flushed end same e h =
    word_stays P flushed (failure_of done) end e ((λ is. h.0 (word_of played (sym same ∙ is))), (λ wrong. same ∙ ap failure_played (h.1 wrong)))

kept_by : (X : Type 0) (played : Result Bool Failure) (flushed : Bool) (end : Option Failure) → end ≡ failure_told flushed (failure_played played) → OnOk played X → end ≡ None → X
kept_by X (Ok wanted) true end e h none = h
kept_by X (Ok wanted) false end e h none = absurd (cc)
kept_by X (Err failure.BadWord) flushed end e h none = absurd (cc)
kept_by X (Err (failure.Missing what)) flushed end e h none = absurd (cc)
kept_by X (Err (failure.Fault fault)) true end e h none = absurd (cc)
kept_by X (Err (failure.Fault fault)) false end e h none = absurd (cc)

-- where it came to its end, all came
pub kept_played : (X : Type 0) (played : Result Bool Failure) (done : Result (Unit {0}) Failure) (flushed : Bool) (end : Option Failure) → failure_of done ≡ failure_played played
    → end ≡ failure_told flushed (failure_of done) → OnOk played X → end ≡ None → X
kept_played X played done flushed end same e h none = kept_by X played flushed end (e ∙ ap (failure_told flushed) same) h none

-- a flush leaves what was written
kept_on : (on : Stage) (s : Settings) (words : Option Listed) (script : List ℕ) (before amid after : Option (List ℕ)) (wanted : Bool)
    → Keeps amid after → IsPlayedOn on s words script before amid wanted → IsPlayedOn on s words script before after wanted
kept_on stage.World s None script before amid after wanted k is = is
kept_on stage.World s (Some list) script before amid after wanted k (world, (last, lines, player, written, by)) =
    (world, (last, lines, player, Keeps-trans last.written amid after written k, by))
kept_on (stage.Cluster live) s words script before amid after wanted k is = is

played_by : (on : Stage) (s : Settings) (words : Option Listed) (whole before amid after : Option (List ℕ)) (played : Result Bool Failure) (flushed : Bool)
    (end : Option Failure) → end ≡ failure_told flushed (failure_played played) → Keeps amid after
    → IfOk played (λ wanted. IfSome whole (λ script. IsPlayedOn on s words script before amid wanted))
    → end ≡ None → IfSome whole (λ script. IsPlayedOn on s words script before after (wanted_played played))
played_by on s words None before amid after played flushed end e k is none = tt
played_by on s words (Some script) before amid after (Ok wanted) flushed end e k is none = kept_on on s words script before amid after wanted k is
played_by on s words (Some script) before amid after (Err failure.BadWord) flushed end e k is none = absurd (cc)
played_by on s words (Some script) before amid after (Err (failure.Missing what)) flushed end e k is none = absurd (cc)
played_by on s words (Some script) before amid after (Err (failure.Fault fault)) true end e k is none = absurd (cc)
played_by on s words (Some script) before amid after (Err (failure.Fault fault)) false end e k is none = absurd (cc)

-- where it came to its end, all its lines were played
pub all_played : (on : Stage) (s : Settings) (words : Option Listed) (whole before amid after : Option (List ℕ)) (played : Result Bool Failure) (done : Result (Unit {0}) Failure)
    (flushed : Bool) (end : Option Failure) (wanted : Bool) → failure_of done ≡ failure_played played → wanted ≡ wanted_played played
    → end ≡ failure_told flushed (failure_of done) → Keeps amid after
    → IfOk played (λ wanted. IfSome whole (λ script. IsPlayedOn on s words script before amid wanted))
    → end ≡ None → IfSome whole (λ script. IsPlayedOn on s words script before after wanted)
all_played on s words whole before amid after played done flushed end wanted same w e k is none =
    subst (λ b. IfSome whole (λ script. IsPlayedOn on s words script before after b)) (sym w)
    (played_by on s words whole before amid after played flushed end (e ∙ ap (failure_told flushed) same) k is none)
