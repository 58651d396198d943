use Rattle.std.proofs.Common.{◌≡◌, ◌≤◌, ◌-◌, length}
use Rattle.cpg_record.specs.Judging.{judged}
use Rattle.cpg_node.specs.Cursors.{IsCursor}
use Rattle.cpg_node.proofs.inboxes.seek.Given as goal

abbrev pub invariant-loop-heard : goal.invariant-loop-heard
invariant-loop-heard l = record {
  right : IsCursor (judged l.policy) l.cursor;
  conn : l.cursor.conn ≡ l.fn.from.conn;
  before : l.cursor.told ≤ l.index;
}

abbrev pub decreases-loop-heard : goal.decreases-loop-heard
decreases-loop-heard l = length (judged l.policy) - l.cursor.place
