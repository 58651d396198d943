-- refusals that come before anything is written
use Rattle.std.proofs.Common.{ℕ, List, Option}
use Rattle.cpg_cred.specs.declared.refusals.Refusal.{Refusal}
use Rattle.cpg_cred.specs.declared.refusals.Refusal.TheVariants as refusal
use Rattle.cpg_text.specs.Written.{WritesLate}
use Rattle.cpg_step.specs.Gathering.{EndsGathered}
use Rattle.cpg_cluster.specs.Running.{EndsRunning}

-- of a script that writes as it runs
pub run_late : (refused : Refusal) (a b : Option (List ℕ)) → EndsRunning refused a b → WritesLate refused a b
run_late refusal.Read a b h = h
run_late (refusal.BadCommand line) a b h = h
run_late refusal.Write a b h = tt
run_late refusal.Memory a b h = tt
run_late _ a b h = absurd h

-- one whose text is written at last leaves no more
leaves_no_more : (refused : Refusal) (a b : Option (List ℕ)) → EndsGathered refused a b → EndsRunning refused a b
leaves_no_more refusal.Memory a b h = tt
leaves_no_more _ a b h = h

pub gathered_late : (refused : Refusal) (a b : Option (List ℕ)) → EndsGathered refused a b → WritesLate refused a b
gathered_late refused a b h = run_late refused a b (leaves_no_more refused a b h)
