-- One node with its clients.
use Rattle.std.specs.Prelude.{◌≡◌, ℕ, true, is_some, length, List, [], ◌∷◌, ◌++◌, Option, Some, None, OnOk, IsOkUnless, Result, Ok, Err}
use Rattle.cpg_cred.specs.declared.credentials.Cred.{Cred}
use Rattle.cpg_cred.specs.declared.refusals.Refusal.{Refusal}
use Rattle.cpg_cred.specs.declared.refusals.Refusal.TheVariants.{Memory, NoConnection}
use Rattle.cpg_cred.specs.declared.refusals.Refused.{Refused}
use Rattle.cpg_cred.specs.Listed.{Listed}
use Rattle.cpg_ring.specs.declared.settings.Settings.{Settings}
use Rattle.cpg_ring.specs.Worlds.{item, with_item}
use Rattle.cpg_node.specs.Nodes.{NodeValue, new_value, open_client}
use Rattle.cpg_node.specs.Calls.{connected, disconnected}
use Rattle.cpg_node.specs.Answers.{IsNodeMade}
use Rattle.cpg_serve.specs.declared.hearing.Stop.{Stop}
use Rattle.cpg_ask.specs.declared.greetings.Greeting.{Greeting}
use Rattle.cpg_serve.specs.Telling.{DeskValue, new_desk, wrote}
use Rattle.cpg_serve.specs.Asking.{at_of}
use Rattle.cpg_serve.specs.Hearing.{Hears}
use Rattle.cpg_serve.specs.Coming.{left_of, GoesOn}

-- one node, how its clients are greeted, and the desks of its connections
pub record ServedValue : Type 0 where
  pub greeting : Greeting
  pub node : NodeValue
  pub desks : List DeskValue

abbrev pub served_of : Greeting → NodeValue → List DeskValue → ServedValue
served_of greeting node desks = record { greeting = greeting; node = node; desks = desks }

-- there are as many connections, and as many desks
abbrev pub AreAsMany : ServedValue → ServedValue → Type 0
AreAsMany x y = (length y.node.clients ≡ length x.node.clients) × (length y.desks ≡ length x.desks)

abbrev pub with_node : ServedValue → NodeValue → ServedValue
with_node x node = record { greeting = x.greeting; node = node; desks = x.desks }

-- the node with one connection more, and its desk
abbrev pub arrived : ServedValue → ℕ → Cred → ServedValue
arrived x pid cred = record { greeting = x.greeting; node = connected x.node pid cred; desks = x.desks ++ new_desk x.greeting ∷ [] }

-- A client's bytes were heard at its own desk, through its own connection; the other desks are as they were.
pub record IsHeard (conn : ℕ) (x : ServedValue) (bytes : List ℕ) (count : ℕ) (stop : Stop) (y : ServedValue) : Type 0 where
  pub old : DeskValue
  pub new : DeskValue
  pub there : item x.desks conn ≡ Some old
  pub did : Hears conn (at_of x.node old) bytes count stop (at_of y.node new)
  pub alive : is_some (open_client x.node conn) ≡ true
  pub greeting : y.greeting ≡ x.greeting
  pub others : y.desks ≡ with_item x.desks conn new

-- A client was told what was left, or some of it; the other desks are as they were, and nothing more was delivered.
pub record IsToldAt (conn : ℕ) (x : ServedValue) (old : DeskValue) (result : Result Unit Refusal) (y : ServedValue) : Type 0 where
  pub new : DeskValue
  pub goes : GoesOn conn (at_of x.node old) (at_of y.node new)
  pub all : OnOk result (left_of conn (at_of y.node new) ≡ [])
  pub memory : IsOkUnless result Memory
  pub greeting : y.greeting ≡ x.greeting
  pub others : y.desks ≡ with_item x.desks conn new

-- the client was told so; where there never was such a client, there is nothing to tell
abbrev pub IsCaughtUp : ℕ → ServedValue → Option DeskValue → Result Unit Refusal → ServedValue → Type 0
IsCaughtUp conn x None result y = (result ≡ Ok tt) × (y ≡ x)
IsCaughtUp conn x (Some old) result y = IsToldAt conn x old result y

-- how the clients of a node are greeted
abbrev pub greeting_of : NodeValue → Greeting
greeting_of x = record { node = x.ring.node; nodes = x.ring.settings.nodes; ring = x.ring.settings.ring }

-- a node without clients
abbrev pub alone : NodeValue → ServedValue
alone x = record { greeting = greeting_of x; node = x; desks = [] }

-- the node, where the settings allow one; what is refused comes back
abbrev pub IsServedMade : Settings → ℕ → Listed → Result ServedValue (Refused Listed) → Type 0
IsServedMade s n list (Ok x) = (x ≡ alone (new_value s n list)) × IsNodeMade s n list (Ok x.node)
IsServedMade s n list (Err why) = IsNodeMade s n list (Err why)

-- the client's connection ends; what was told it, and not written, is dropped
abbrev pub parted : ServedValue → ℕ → ServedValue
parted x conn = record { greeting = x.greeting; node = disconnected x.node conn; desks = with_item x.desks conn (new_desk x.greeting) }

-- there is no such client, or its connection ended
abbrev pub IsAway : ServedValue → ℕ → Type 0
IsAway x conn = open_client x.node conn ≡ None

-- the bytes to write to the client, none where there is no such client
abbrev pub out_of : Option DeskValue → List ℕ
out_of None = []
out_of (Some d) = d.out

-- why nothing was taken from that output: there never was such a client; else there was no memory
abbrev pub IsUnwritten : Option DeskValue → Refusal → Type 0
IsUnwritten None why = why ≡ NoConnection
IsUnwritten (Some d) why = why ≡ Memory

-- These bytes were written to the client: the first of what it was told, and nothing else changed.
pub record IsWritten (conn : ℕ) (x : ServedValue) (bytes : List ℕ) (y : ServedValue) : Type 0 where
  pub old : DeskValue
  pub there : item x.desks conn ≡ Some old
  pub front : old.out ≡ bytes ++ (wrote old (length bytes)).out
  pub after : y ≡ record { greeting = x.greeting; node = x.node; desks = with_item x.desks conn (wrote old (length bytes)) }

-- so many bytes of the desk's output were written; nothing is done where there is no such desk
abbrev pub AreWritten : ℕ → ServedValue → Option DeskValue → ℕ → ServedValue → Type 0
AreWritten conn x None count y = y ≡ x
AreWritten conn x (Some old) count y = y ≡ record { greeting = x.greeting; node = x.node; desks = with_item x.desks conn (wrote old count) }
