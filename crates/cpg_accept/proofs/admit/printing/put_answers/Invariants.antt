use Rattle.std.proofs.Common.{◌≡◌, ◌++◌, take}
use Rattle.std.specs.List.{flat_map}
use Rattle.cpg_accept.specs.Forms.{cred_answered}
use Rattle.cpg_accept.proofs.admit.printing.put_answers.Given as goal

abbrev pub invariant-loop-cred : goal.invariant-loop-cred
invariant-loop-cred g l = l.text.items ≡ l.initial.text.items ++ flat_map (cred_answered g.F.TellsAdmitted.form l.list) (take l.cred-index l.asks)
