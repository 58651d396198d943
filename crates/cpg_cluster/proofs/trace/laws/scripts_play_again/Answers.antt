use Rattle.cpg_cluster.proofs.Playing.{is_no_longer, plays_again, whole_script}
use Rattle.cpg_cluster.proofs.trace.laws.scripts_play_again.Goals as goal

pub returns-clause-no_longer : goal.returns-clause-no_longer
returns-clause-no_longer c = is_no_longer

pub returns-clause-whole : goal.returns-clause-whole
returns-clause-whole c = whole_script

pub returns-clause-plays : goal.returns-clause-plays
returns-clause-plays c = plays_again
