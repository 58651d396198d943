-- faults of scripts as they are printed
use Rattle.std.specs.Prelude.{ℕ, List, [], ◌++◌, codes, decimal, Option, Some, None}
use Rattle.cpg_cred.specs.Shown.{refusal_text}
use Rattle.cpg_text.specs.declared.faults.Fault.{Fault}

-- the number of the part, where the fault is that of a part
abbrev pub part_text : Option ℕ → List ℕ
part_text None = []
part_text (Some part) = codes "part " ++ decimal part ++ codes ": "

-- `41 BadCommand 2`, or `part 2: 35 BadValue 2`
abbrev pub fault_text : Fault → List ℕ
fault_text fault = part_text fault.part ++ refusal_text fault.refusal
