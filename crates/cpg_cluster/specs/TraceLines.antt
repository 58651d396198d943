-- events as the commands that `step` reads
use Rattle.std.specs.Prelude.{ℕ, ◌≤◌, ◌<◌, ◌^◌, List, ◌++◌, codes, decimal}
use Rattle.cpg_entry.specs.declared.calls.Op.TheVariants.{Act}
use Rattle.cpg_entry.specs.declared.ranges.TheConstants.{MOST_CONNECTIONS}
use Rattle.cpg_entry.specs.Names.{IsName}
use Rattle.cpg_entry.specs.Ranges.{IsCall}
use Rattle.cpg_entry.specs.Widths.{CallFits, IsU32}
use Rattle.cpg_world_laws.specs.declared.events.WorldEvent.{WorldEvent}
use Rattle.cpg_world_laws.specs.declared.events.WorldEvent.TheVariants.{Connect, Submit, Disconnect, Frame, Timer, Deliver, Take, List as Listing, Groups}
use Rattle.cpg_print.specs.Calls.{SendsBytes, call_text}

-- two numbers
abbrev pub pair_text : ℕ → ℕ → List ℕ
pair_text a b = decimal a ++ codes " " ++ decimal b

-- the command of an event
abbrev pub event_text : WorldEvent → List ℕ
event_text (Connect n pid cred) = codes "connect " ++ decimal n ++ codes " " ++ decimal pid ++ codes " " ++ pair_text cred.uid cred.gid
event_text (Submit n conn call) = codes "call " ++ decimal n ++ codes " " ++ decimal conn ++ codes " " ++ call_text call
event_text (Disconnect n conn) = codes "disconnect " ++ pair_text n conn
event_text (Frame n number) = codes "frame " ++ pair_text n number
event_text (Timer n) = codes "timer " ++ decimal n
event_text (Deliver n) = codes "deliver " ++ decimal n
event_text (Take n conn) = codes "take " ++ pair_text n conn
event_text (Listing n conn g) = codes "list " ++ decimal n ++ codes " " ++ decimal conn ++ codes " " ++ g
event_text (Groups n conn) = codes "groups " ++ pair_text n conn

-- its line
abbrev pub event_line : WorldEvent → List ℕ
event_line e = event_text e ++ codes "\n"

-- A node and a connection that a ring of so many nodes has.
abbrev pub IsPlace : ℕ → ℕ → ℕ → Type 0
IsPlace nodes n conn = (1 ≤ n) × (n ≤ nodes) × (1 ≤ conn) × (conn ≤ MOST_CONNECTIONS)

abbrev pub IsInRing : ℕ → ℕ → Type 0
IsInRing nodes n = (1 ≤ n) × (n ≤ nodes)

-- what an event names is within the ranges of a ring of so many nodes, its call keeps the rules, and a group that is asked for is a name
abbrev pub IsSayable : ℕ → WorldEvent → Type 0
IsSayable nodes (Connect n pid cred) = IsInRing nodes n × IsU32 pid × IsU32 cred.uid × IsU32 cred.gid
IsSayable nodes (Submit n conn call) = IsPlace nodes n conn × IsCall call × CallFits call × SendsBytes (Act call)
IsSayable nodes (Disconnect n conn) = IsPlace nodes n conn
IsSayable nodes (Frame n number) = IsInRing nodes n × (number < 2 ^ 64)
IsSayable nodes (Timer n) = IsInRing nodes n
IsSayable nodes (Deliver n) = IsInRing nodes n
IsSayable nodes (Take n conn) = IsPlace nodes n conn
IsSayable nodes (Listing n conn g) = IsPlace nodes n conn × IsName g
IsSayable nodes (Groups n conn) = IsPlace nodes n conn
