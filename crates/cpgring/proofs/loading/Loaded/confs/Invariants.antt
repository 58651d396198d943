use Rattle.std.proofs.Common.{◌≡◌, map, take}
use Rattle.cpgring.specs.Loading.{loaded_at, named_at}
use Rattle.cpgring.proofs.loading.Loaded.confs.Given as goal

abbrev pub invariant-loop-conf : goal.invariant-loop-conf
invariant-loop-conf l = map named_at l.confs.items ≡ map loaded_at (take l.conf-index l.conf-items)
