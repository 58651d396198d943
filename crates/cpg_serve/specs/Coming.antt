-- What a node still has to tell a client, and all that the client is told in the end.
use Rattle.std.specs.Prelude.{◌≡◌, ◌≤◌, ℕ, zero, suc, Bool, true, false, List, [], ◌++◌, drop, length, Option, Some, None, option_to_list}
use Rattle.std.specs.List.{flat_map, fold}
use Rattle.cpg_record.specs.declared.events.Event.{Event}
use Rattle.cpg_node.specs.declared.connections.Client.{Client}
use Rattle.cpg_node.specs.Nodes.{NodeValue, inbox_of, open_client}
use Rattle.cpg_node.specs.Calls.{next_event, took}
use Rattle.cpg_ask.specs.Tells.{tell_bytes}
use Rattle.cpg_serve.specs.Telling.{tells, owed_after}
use Rattle.cpg_serve.specs.Asking.{At}

-- the items of the connection's inbox that were not taken
abbrev pub rest_of : NodeValue → ℕ → Option Client → List Event
rest_of x conn None = []
rest_of x conn (Some c) = drop c.taken (inbox_of x conn)

-- the events that the client was not told yet: the one that was taken, and those that were not
abbrev pub left_of : ℕ → At → List Event
left_of conn s = option_to_list s.desk.next ++ rest_of s.node conn (open_client s.node conn)

-- the next item of the connection's inbox
abbrev pub next_by : NodeValue → ℕ → Option Client → Option Event
next_by x conn None = None
next_by x conn (Some c) = next_event x conn c

abbrev pub next_of : NodeValue → ℕ → Option Event
next_of x conn = next_by x conn (open_client x conn)

-- the node and the desk where that item was taken
abbrev pub fetched : ℕ → At → At
fetched conn s = record { node = took s.node conn; desk = record { greeting = s.desk.greeting; owed = s.desk.owed; next = next_of s.node conn; out = s.desk.out } }

-- one event fewer is left; or none was
abbrev pub IsTold : Bool → List Event → List Event → Type 0
IsTold true old new = length old ≡ suc (length new)
IsTold false old new = new ≡ []

-- no more was taken than the inbox has
abbrev pub IsCounted : ℕ → NodeValue → Type 0
IsCounted conn x = (c : Client) → open_client x conn ≡ Some c → c.taken ≤ length (inbox_of x conn)

-- the node after the connection took so many events of its inbox
abbrev pub takes : ℕ → ℕ → NodeValue → NodeValue
takes zero conn x = x
takes (suc more) conn x = takes more conn (took x conn)

-- The client was told the first events of what was left, in order; but for what it took the node is as it was.
pub record GoesOn (conn : ℕ) (s t : At) : Type 0 where
  pub taken : ℕ
  pub node : t.node ≡ takes taken conn s.node
  pub first : List Event
  pub left : left_of conn s ≡ first ++ left_of conn t
  pub owed : t.desk.owed ≡ fold owed_after s.desk.owed first
  pub out : t.desk.out ≡ s.desk.out ++ flat_map tell_bytes (tells s.desk.owed first)
  pub greeting : t.desk.greeting ≡ s.desk.greeting
