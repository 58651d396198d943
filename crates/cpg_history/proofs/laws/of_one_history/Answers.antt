use Rattle.std.proofs.Common.{List, refl, sym, subst}
use Rattle.cpg_ring.specs.States.{IsSettings}
use Rattle.cpg_world_laws.specs.declared.events.WorldEvent.{WorldEvent}
use Rattle.cpg_world_laws.specs.Worlds.{runs}
use Rattle.cpg_history.specs.declared.histories.Beginning.{Beginning}
use Rattle.cpg_history.specs.Histories.{first_world}
use Rattle.cpg_history.proofs.Agreeing.{reached_by, agreed_on, judges_alike, same_on}
use Rattle.cpg_history.proofs.laws.of_one_history.Goals as goal

settings_on : (b : Beginning) (seen : List WorldEvent) → IsSettings b.settings → IsSettings (runs (first_world b) seen).settings
settings_on b seen settings = subst IsSettings (sym (same_on (first_world b) seen).0) settings

pub returns-clause-world : goal.returns-clause-world
returns-clause-world c b seen settings =
    c.every_run.ensures.world (runs (first_world b) seen) (settings_on b seen settings) (reached_by (first_world b) seen refl)

pub returns-clause-run : goal.returns-clause-run
returns-clause-run c b xs ys more answers settings are =
    c.every_run.ensures.run (runs (first_world b) xs) more.0 answers (settings_on b xs settings) (reached_by (first_world b) xs refl) are

pub returns-clause-agreed : goal.returns-clause-agreed
returns-clause-agreed c b xs ys n x settings pre at =
    let start = first_world b in
    let world = c.every_run.ensures.world (runs start xs) (settings_on b xs settings) (reached_by start xs refl) in
    agreed_on c.prefixes_are_judged_alike.ensures start xs ys x pre (world.judged_alike n x at)

pub returns-clause-alike : goal.returns-clause-alike
returns-clause-alike c b xs ys log n m x y settings one two at there =
    let start = first_world b in
    let law = c.prefixes_are_judged_alike.ensures in
    let first = c.every_run.ensures.world (runs start xs) (settings_on b xs settings) (reached_by start xs refl) in
    let other = c.every_run.ensures.world (runs start ys) (settings_on b ys settings) (reached_by start ys refl) in
    judges_alike law (runs start log) x y (agreed_on law start xs log x one (first.judged_alike n x at)) (agreed_on law start ys log y two (other.judged_alike m y there))
