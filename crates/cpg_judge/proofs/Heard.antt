-- What was looked up of a connection's group, whatever group it is.
use Rattle.std.proofs.Common.{ℕ, List}
use Rattle.std.specs.Prelude.{Option, Some, None, IfSome}
use Rattle.cpg_record.specs.declared.connections.ConnId.{ConnId}
use Rattle.cpg_record.specs.declared.records.Record.{Record}
use Rattle.cpg_judge.specs.Inboxes.{IsHeard, IsPast, ToldValue}

-- it has passed the places that it was looked up with
pub past_is : (rs : List Record) (conn : ConnId) (after : ℕ) (told : Option ToldValue) → IsHeard rs conn after told → IfSome told (IsPast rs after)
past_is rs conn after None h = tt
past_is rs conn after (Some told) h = h.1
