use Rattle.std.proofs.Common.{◌≡◌, drop}
use Rattle.cpg_conf.specs.Listed.{nothing, numbers_listed}
use Rattle.cpg_accept.specs.Admitting.{listed_onto}
use Rattle.cpg_accept.proofs.admit.admitting.list_confs.Given as goal

abbrev pub invariant-loop-index : goal.invariant-loop-index
invariant-loop-index l = listed_onto l.names 0 l.confs nothing ≡ listed_onto l.names l.index (drop l.index l.confs) (numbers_listed l.numbers)
