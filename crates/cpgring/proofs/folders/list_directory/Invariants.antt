use Rattle.std.proofs.Common.{map, string_bytes}
use Rattle.cpgring.specs.Folders.{AreBehind}
use Rattle.cpgring.proofs.folders.list_directory.Given as goal

abbrev pub invariant-loop-name : goal.invariant-loop-name
invariant-loop-name l = AreBehind l.directory (map string_bytes l.paths.items)
