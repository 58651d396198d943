use Rattle.std.proofs.Common.{◌≡◌, map, take, string_bytes}
use Rattle.cpgring.proofs.loading.read_all.Given as goal

abbrev pub invariant-loop-path : goal.invariant-loop-path
invariant-loop-path l = map (λ text. text.path.now) l.loaded.items ≡ map string_bytes (take l.path-index l.paths)
