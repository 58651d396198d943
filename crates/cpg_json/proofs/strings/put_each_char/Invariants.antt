use Rattle.std.proofs.Common.{◌≡◌, ◌++◌}
use Rattle.std.specs.List.{flat_map}
use Rattle.cpg_json.specs.Strings.{string_char}
use Rattle.cpg_json.proofs.strings.put_each_char.Given as goal

abbrev pub invariant-loop-c : goal.invariant-loop-c
invariant-loop-c l = l.line.items ≡ l.initial.line.items ++ flat_map string_char l.yielded
