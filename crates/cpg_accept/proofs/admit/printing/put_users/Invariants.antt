use Rattle.std.proofs.Common.{◌≡◌, ◌++◌, take}
use Rattle.std.specs.List.{flat_map}
use Rattle.cpg_accept.specs.Forms.{user_by}
use Rattle.cpg_accept.proofs.admit.printing.put_users.Given as goal

abbrev pub invariant-loop-uid : goal.invariant-loop-uid
invariant-loop-uid g l = l.text.items ≡ l.initial.text.items ++ flat_map (user_by g.F.TellsAdmitted.form) (take l.uid-index l.users)
