use Rattle.std.proofs.Common.{map, take, string_bytes}
use Rattle.cpgring.specs.Folders.{AreFrom}
use Rattle.cpgring.proofs.folders.conf_paths.Given as goal

abbrev pub invariant-loop-path : goal.invariant-loop-path
invariant-loop-path l = AreFrom (map (λ path. path.now) (take l.path-index l.given)) (map string_bytes l.paths.items)
