-- how a script that checks itself ends
use Rattle.std.specs.Prelude.{ℕ, ◌≡◌, ⊤, Bool, true, false, List, Option, Some, None, Result, Ok, Err}
use Rattle.cpg_cred.specs.Listed.{Listed}
use Rattle.cpg_ring.specs.declared.settings.Settings.{Settings}
use Rattle.cpg_history.specs.Members.{MemberValue}
use Rattle.cpg_world_laws.specs.Worlds.{WorldValue}
use Rattle.cpg_world_laws.specs.declared.events.WorldEvent.{WorldEvent}
use Rattle.cpg_console.specs.declared.failures.Failure.{Failure}
use Rattle.cpg_console.specs.Runs.{status_after}
use Rattle.cpg_console.specs.Tracing.{WasKeptOf}
use Rattle.cpg_play.specs.Worlds.{IsPlayedOverWorld}
use Rattle.cpg_play.specs.declared.performing.Stage.{Stage}
use Rattle.cpg_play.specs.declared.performing.Stage.TheVariants.{World, Cluster}

-- why a script was not played to its end, where it was not
abbrev pub failure_played : Result Bool Failure → Option Failure
failure_played (Err failure) = Some failure
failure_played (Ok wanted) = None

-- whether all was printed as wanted, which is said of what ended early, too
abbrev pub wanted_played : Result Bool Failure → Bool
wanted_played (Err failure) = true
wanted_played (Ok wanted) = wanted

-- the exit status: that of a run, and 1 where it ended well and something was printed otherwise than wanted
abbrev pub status_played : Option Failure → Bool → ℕ
status_played None false = 1
status_played None true = 0
status_played (Some failure) wanted = status_after (Some failure)

-- What a script wrote over a new world, and whether all was as wanted. What it does over a cluster is said line by line.
abbrev pub IsPlayedOn : Stage → Settings → Option Listed → List ℕ → Option (List ℕ) → Option (List ℕ) → Bool → Type 0
IsPlayedOn World settings list script before after wanted = IsPlayedOverWorld settings list script before after wanted
IsPlayedOn (Cluster live) settings list script before after wanted = ⊤

-- the keeper has what was left of a cluster; a world leaves nothing
abbrev pub IsLeftOf : {K : Type 0} → (WorldValue → List WorldEvent → List MemberValue → K → K → Type 0) → Stage → Settings → Option Listed → K → K → Type 0
IsLeftOf keeps World settings list old new = new ≡ old
IsLeftOf keeps (Cluster live) settings list old new = WasKeptOf keeps settings list old new
