use Rattle.std.proofs.Common.{◌≡◌, ◌≤◌, ◌-◌, vec_len}
use Rattle.std.specs.Io.KnownBytes.{Consumes}
use Rattle.cpg_text.specs.declared.streams.TheConstants.{MOST_BYTES, MOST_READS}
use Rattle.cpg_text.proofs.streams.read_counted.Given as goal

abbrev pub invariant-loop-reads : goal.invariant-loop-reads
invariant-loop-reads g l = record {
  read : Consumes (g.R.Read.remaining l.initial.reader) (g.R.Read.remaining l.reader) l.text.items;
  gathered : l.reads.bytes ≡ vec_len l.text;
  within : l.reads.bytes ≤ MOST_BYTES;
}

abbrev pub decreases-loop-reads : goal.decreases-loop-reads
decreases-loop-reads g l = MOST_READS - l.reads.count
