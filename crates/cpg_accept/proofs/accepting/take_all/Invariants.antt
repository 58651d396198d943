use Rattle.std.proofs.Common.{◌≡◌}
use Rattle.cpg_conf.specs.Names.{next_number}
use Rattle.cpg_text.specs.declared.faults.Fault.{Fault}
use Rattle.cpg_accept.specs.Accepting.{all_taken, MemoryIn}
use Rattle.cpg_accept.specs.Steps.{parts_of_head}
use Rattle.cpg_accept.proofs.accepting.take_all.Given as goal

abbrev pub invariant-loop-part : goal.invariant-loop-part
invariant-loop-part l = record {
  next : (goal.iterator-loop-part).can_next l.part-iterator;
  finite : (goal.iterator-loop-part).is_finite l.part-iterator;
  same : all_taken 1 (parts_of_head l.parts.head) l.initial.admitting ≡ all_taken (next_number l.number) (parts_of_head l.part-iterator.head) l.admitting;
  amid : (fault : Fault) → MemoryIn (next_number l.number) (parts_of_head l.part-iterator.head) l.admitting fault → MemoryIn 1 (parts_of_head l.parts.head) l.initial.admitting fault;
}
