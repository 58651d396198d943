-- The verdicts in an inbox, and the calls that a node admitted.
use Rattle.std.specs.Prelude.{◌≡◌, ℕ, List, ◌++◌, map, Some}
use Rattle.std.specs.List.{filter, flat_map}
use Rattle.cpg_entry.specs.declared.entries.Entry.{Entry}
use Rattle.cpg_record.specs.declared.connections.ConnId.{ConnId}
use Rattle.cpg_record.specs.declared.records.Record.{Record}
use Rattle.cpg_record.specs.Connections.{conn_of, is_conn}
use Rattle.cpg_record.specs.Events.{inbox}
use Rattle.cpg_ring.specs.States.{IsSettings}
use Rattle.cpg_ring.specs.Worlds.{item}
use Rattle.cpg_node.specs.Nodes.{NodeValue, records_of}
use Rattle.cpg_world_laws.specs.declared.events.WorldEvent.{WorldEvent}
use Rattle.cpg_world_laws.specs.Worlds.{WorldValue, runs, Reached}
use Rattle.cpg_world_laws.specs.Replies.{Answer, AreReplies}
use Rattle.cpg_world_laws.specs.Claims.{admitted, node_entries}
use Rattle.cpg_serve.specs.Verdicts.{verdict_in, own_records}

-- the connection of that number at node n
abbrev pub conn_at : ℕ → ℕ → ConnId
conn_at n conn = record { node = n; conn = conn }

-- the entries of a connection among others
abbrev pub own_entries : ConnId → List Entry → List Entry
own_entries conn entries = filter (λ e. is_conn conn (conn_of e)) entries

-- what a connection was admitted at its node before the run and in it, in order
abbrev pub admitted_of : WorldValue → List WorldEvent → ℕ → ℕ → List Entry
admitted_of w events n conn = own_entries (conn_at n conn) (node_entries w n ++ admitted w n events)

-- The verdicts that a connection is told are judgements of the first of its entries, in order, and the others wait.
pub record AreInOrder (admitted : List Entry) (records : List Record) (conn : ConnId) : Type 0 where
  pub waiting : List Entry
  -- the entries of its records are the first of those that were admitted
  pub entries : admitted ≡ map (λ r. r.entry) (own_records records conn) ++ waiting
  -- and its verdicts are those of these records
  pub verdicts : flat_map verdict_in (inbox records conn) ≡ map (λ r. r.verdict) (own_records records conn)

abbrev pub VerdictsInOrder : Type 0
VerdictsInOrder = (w : WorldValue) (events : List WorldEvent) (answers : List Answer) → IsSettings w.settings → Reached w → AreReplies w events answers
    → (n conn : ℕ) (x : NodeValue) → item (runs w events).nodes n ≡ Some x → AreInOrder (admitted_of w events n conn) (records_of x) (conn_at n conn)
