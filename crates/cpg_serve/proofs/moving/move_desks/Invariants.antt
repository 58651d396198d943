use Rattle.std.proofs.Common.{◌≡◌, ◌<◌, ◌+◌, ◌++◌, drop, length, map, reverse, vec_capacity, vec_len}
use Rattle.cpg_serve.specs.Carrying.{greeted, kept_desks}
use Rattle.cpg_serve.proofs.moving.move_desks.Given as goal

abbrev pub invariant-loop-desk : goal.invariant-loop-desk
invariant-loop-desk l = record {
  whole : l.old.items ++ drop (length l.old.items) l.fn.before.items ≡ l.fn.before.items;
  put : l.desks.items ≡ reverse (map (greeted l.greeting) (kept_desks (drop (length l.old.items) l.numbers) (drop (length l.old.items) l.fn.before.items)));
  room : vec_len l.desks + length l.old.items < vec_capacity l.desks;
}

abbrev pub decreases-loop-desk : goal.decreases-loop-desk
decreases-loop-desk l = length l.old.items
