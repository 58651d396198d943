-- who asks by an entry, and which ops move who asks
use Rattle.std.specs.Prelude.{Bool, true, false}
use Rattle.cpg_rules.specs.declared.rules.Asker.{Asker}
use Rattle.cpg_entry.specs.declared.calls.Call.TheVariants.{Join, Leave}
use Rattle.cpg_entry.specs.declared.calls.Op.{Op}
use Rattle.cpg_entry.specs.declared.calls.Op.TheVariants.{Act, Gone}
use Rattle.cpg_entry.specs.declared.entries.Entry.{Entry}

-- the node and the credentials of the entry's connection
abbrev pub asker_of : Entry → Asker
asker_of entry = record { node = entry.node; cred = entry.cred }

-- a join, a leave and the end of a connection move it into a group, or out of one
abbrev pub is_move : Op → Bool
is_move (Act (Join g)) = true
is_move (Act Leave) = true
is_move Gone = true
is_move _ = false
