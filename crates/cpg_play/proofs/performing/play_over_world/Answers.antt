use Rattle.cpg_play.proofs.OnWorlds.{world_played}
use Rattle.cpg_play.proofs.performing.play_over_world.Goals as goal

pub returns-in-Ok-play_script-clause-played : goal.returns-in-Ok-play_script-clause-played
returns-in-Ok-play_script-clause-played g c =
    world_played c.args.settings _ c.in-Ok.world c.play_script.new.player (g.R.Read.remaining c.args.reader.now) _ _ c.in-Ok-play_script.wanted c.in-Ok.ensures.ok c.in-Ok-play_script.ensures
