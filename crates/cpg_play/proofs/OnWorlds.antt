-- a script that was played over a new world
use Rattle.std.proofs.Common.{ℕ, List, Bool, Option, Some, None, subst}
use Rattle.std.specs.Prelude.{IfSome}
use Rattle.cpg_cred.specs.Listed.{Listed}
use Rattle.cpg_ring.specs.declared.settings.Settings.{Settings}
use Rattle.cpg_world_laws.specs.Worlds.{WorldValue}
use Rattle.cpg_console.specs.Starting.{IsStarted}
use Rattle.cpg_play.specs.declared.worlds.OverWorld.{OverWorld}
use Rattle.cpg_play.specs.Walking.{IsScriptPlayed}
use Rattle.cpg_play.specs.Worlds.{IsPlayedOverWorld, does_in_world}

-- the world that it was played over was a new one
pub world_played : (s : Settings) (words : Option Listed) (w : WorldValue) (last : OverWorld) (whole before after : Option (List ℕ)) (wanted : Bool)
    → IsStarted s words w → IfSome whole (λ script. IsScriptPlayed does_in_world script (record { world = w }) last before after wanted)
    → IfSome whole (λ script. IsPlayedOverWorld s words script before after wanted)
world_played s None w last whole before after wanted started is = absurd started
world_played s (Some list) w last None before after wanted started is = tt
world_played s (Some list) w last (Some script) before after wanted started is =
    (last, subst (λ (v : WorldValue). IsScriptPlayed does_in_world script (record { world = v }) last before after wanted) started is)
