-- what a line of `step` does over a world
use Rattle.std.specs.Prelude.{◌≡◌, ℕ, Bool, true, false, List, length, MatchOption, Option, Some, None}
use Rattle.cpg_cred.specs.Listed.{Listed}
use Rattle.cpg_ring.specs.declared.settings.Settings.{Settings}
use Rattle.cpg_text.specs.Lines.{words_of}
use Rattle.cpg_step.specs.Commands.{command_of}
use Rattle.cpg_step.specs.Running.{stepped_text}
use Rattle.cpg_step.specs.Steps.{IsDone}
use Rattle.cpg_world_laws.specs.Worlds.{new_world}
use Rattle.cpg_play.specs.declared.worlds.OverWorld.{OverWorld}
use Rattle.cpg_play.specs.Walking.{Does, IsScriptPlayed}

-- its command, if it says one, is done, and prints that
abbrev pub does_in_world : Does OverWorld
does_in_world old line said text new =
    MatchOption (command_of (length old.world.nodes) (words_of line)) (said ≡ false) (λ command. (said ≡ true) × IsDone stepped_text 0 old.world command text new.world)

-- The script was played over a new world of those settings and that list, which is there.
abbrev pub IsPlayedOverWorld : Settings → Option Listed → List ℕ → Option (List ℕ) → Option (List ℕ) → Bool → Type 0
IsPlayedOverWorld settings None script before after wanted = ⊥
IsPlayedOverWorld settings (Some list) script before after wanted =
    (last : OverWorld) × IsScriptPlayed does_in_world script (record { world = new_world settings list }) last before after wanted
