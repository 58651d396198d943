use Rattle.std.proofs.Common.{◌≡◌, ◌++◌, take, codes}
use Rattle.std.specs.List.{flat_map}
use Rattle.cpg_print.specs.Records.{member_text}
use Rattle.cpg_print.proofs.records.put_more_members.Given as goal

abbrev pub invariant-loop-member : goal.invariant-loop-member
invariant-loop-member l = l.line.items ≡ l.initial.line.items ++ flat_map (λ member. codes "," ++ member_text member) (take l.member-index l.members)
