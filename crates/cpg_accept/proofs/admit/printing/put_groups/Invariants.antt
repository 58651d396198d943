use Rattle.std.proofs.Common.{◌≡◌, ◌++◌, take}
use Rattle.std.specs.List.{flat_map}
use Rattle.cpg_accept.specs.Forms.{group_by}
use Rattle.cpg_accept.proofs.admit.printing.put_groups.Given as goal

abbrev pub invariant-loop-gid : goal.invariant-loop-gid
invariant-loop-gid g l = l.text.items ≡ l.initial.text.items ++ flat_map (group_by g.F.TellsAdmitted.form) (take l.gid-index l.groups)
