use Rattle.std.proofs.Common.{◌≡◌, drop}
use Rattle.cpg_conf.specs.Names.{number_of}
use Rattle.cpg_conf.specs.Steps.{pairs}
use Rattle.cpg_conf.proofs.tables.NameTable.find_slowly.Given as goal

abbrev pub invariant-loop-place : goal.invariant-loop-place
invariant-loop-place l =
    number_of (pairs l.self-inside.numbers.entries) l.name ≡ number_of (pairs (drop l.place l.self-inside.numbers.entries)) l.name
