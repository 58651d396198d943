-- commands as words
use Rattle.std.specs.Prelude.{ℕ, ◌≤◌, List, [], ◌∷◌, codes, nat_le, Option, Some, None, option_map, if◌then◌else◌}
use Rattle.std.specs.Str.{bytes_eq}
use Rattle.cpg_cred.specs.declared.nodes.TheConstants.{MOST_NODES}
use Rattle.cpg_entry.specs.declared.ranges.TheConstants.{MOST_CONNECTIONS}
use Rattle.cpg_world_laws.specs.declared.events.WorldEvent.{WorldEvent}
use Rattle.cpg_world_laws.specs.declared.events.WorldEvent.TheVariants.{Connect, Submit, Disconnect, Frame, Timer, Deliver, Take, List as Listing, Groups}
use Rattle.cpg_world_laws.specs.Worlds.{node_in}
use Rattle.cpg_text.specs.Numbers.{number_in}
use Rattle.cpg_text.specs.Words.{◌>>=◌, u32_of}
use Rattle.cpg_print.specs.Calls.{call_of}
use Rattle.cpg_step.specs.declared.commands.Look.{Look}
use Rattle.cpg_step.specs.declared.commands.Look.TheVariants.{Show, Audit, Rules, Safe}
use Rattle.cpg_step.specs.declared.commands.Command.{Command}
use Rattle.cpg_step.specs.declared.commands.Command.TheVariants as command

-- the node, where a ring of so many nodes has it
abbrev pub in_ring : ℕ → ℕ → Option ℕ
in_ring nodes node = if nat_le node nodes then Some node else None

-- the node of a NODE, 1 to 8, in a ring of so many nodes
abbrev pub node_of : ℕ → List ℕ → Option ℕ
node_of nodes word = number_in 1 MOST_NODES word >>= in_ring nodes

-- the connection of a CONN
abbrev pub conn_of : List ℕ → Option ℕ
conn_of word = number_in 1 MOST_CONNECTIONS word

-- the number of a K
abbrev pub u64_of : List ℕ → Option ℕ
u64_of word = number_in 0 18446744073709551615 word

-- `connect NODE PID UID GID`
abbrev pub connect_of : ℕ → List (List ℕ) → Option WorldEvent
connect_of nodes (node ∷ pid ∷ uid ∷ gid ∷ []) = do
  n ← node_of nodes node
  p ← u32_of pid
  u ← u32_of uid
  g ← u32_of gid
  Some (Connect n p (record { uid = u; gid = g }))
connect_of nodes _ = None

-- `call NODE CONN CALL`; its name and its message may be of any length
abbrev pub submit_of : ℕ → List (List ℕ) → Option WorldEvent
submit_of nodes (node ∷ conn ∷ call) = do
  n ← node_of nodes node
  c ← conn_of conn
  o ← call_of call
  Some (Submit n c o)
submit_of nodes _ = None

-- `frame NODE K`
abbrev pub frame_of : ℕ → List (List ℕ) → Option WorldEvent
frame_of nodes (node ∷ number ∷ []) = do
  n ← node_of nodes node
  k ← u64_of number
  Some (Frame n k)
frame_of nodes _ = None

-- `list NODE CONN GROUP`; any word is a group
abbrev pub list_of : ℕ → List (List ℕ) → Option WorldEvent
list_of nodes (node ∷ conn ∷ g ∷ []) = do
  n ← node_of nodes node
  c ← conn_of conn
  Some (Listing n c g)
list_of nodes _ = None

-- the node of a NODE that is the only word
abbrev pub node_alone : ℕ → List (List ℕ) → Option ℕ
node_alone nodes (node ∷ []) = node_of nodes node
node_alone nodes _ = None

-- the node and the connection of NODE CONN, and of no other words
abbrev pub node_and_conn : ℕ → List (List ℕ) → Option (ℕ × ℕ)
node_and_conn nodes (node ∷ conn ∷ []) = do
  n ← node_of nodes node
  c ← conn_of conn
  Some (n, c)
node_and_conn nodes _ = None

-- the event of a command that acts, its first word and those after it
abbrev pub event_of : ℕ → List ℕ → List (List ℕ) → Option WorldEvent
event_of nodes word arguments =
    if bytes_eq word (codes "connect") then connect_of nodes arguments
    else if bytes_eq word (codes "call") then submit_of nodes arguments
    else if bytes_eq word (codes "disconnect") then option_map (λ at. Disconnect at.0 at.1) (node_and_conn nodes arguments)
    else if bytes_eq word (codes "frame") then frame_of nodes arguments
    else if bytes_eq word (codes "timer") then option_map (λ n. Timer n) (node_alone nodes arguments)
    else if bytes_eq word (codes "deliver") then option_map (λ n. Deliver n) (node_alone nodes arguments)
    else if bytes_eq word (codes "take") then option_map (λ at. Take at.0 at.1) (node_and_conn nodes arguments)
    else if bytes_eq word (codes "list") then list_of nodes arguments
    else if bytes_eq word (codes "groups") then option_map (λ at. Groups at.0 at.1) (node_and_conn nodes arguments)
    else None

-- `show K`
abbrev pub show_of : List (List ℕ) → Option Look
show_of (number ∷ []) = option_map (λ k. Show k) (u64_of number)
show_of _ = None

-- `rules NODE GROUP`; any word is a group
abbrev pub rules_of : ℕ → List (List ℕ) → Option Look
rules_of nodes (node ∷ g ∷ []) = option_map (λ n. Rules n g) (node_of nodes node)
rules_of nodes _ = None

-- what a command that only looks is after, its first word and those after it
abbrev pub look_of : ℕ → List ℕ → List (List ℕ) → Option Look
look_of nodes word arguments =
    if bytes_eq word (codes "show") then show_of arguments
    else if bytes_eq word (codes "audit") then option_map (λ n. Audit n) (node_alone nodes arguments)
    else if bytes_eq word (codes "rules") then rules_of nodes arguments
    else if bytes_eq word (codes "safe") then option_map (λ n. Safe n) (node_alone nodes arguments)
    else None

-- the command that acts, if there is one, and else the one that looks
abbrev pub act_or_look : Option WorldEvent → Option Look → Option Command
act_or_look (Some event) look = Some (command.Act event)
act_or_look None look = option_map (λ l. command.Look l) look

-- the command of a line's words, in a ring of so many nodes
abbrev pub command_of : ℕ → List (List ℕ) → Option Command
command_of nodes [] = None
command_of nodes (word ∷ arguments) = act_or_look (event_of nodes word arguments) (look_of nodes word arguments)

-- what is looked at is there in a ring of so many nodes
abbrev pub LooksWithin : ℕ → Look → Type 0
LooksWithin nodes (Show k) = Unit {0}
LooksWithin nodes (Audit n) = n ≤ nodes
LooksWithin nodes (Rules n g) = n ≤ nodes
LooksWithin nodes (Safe n) = n ≤ nodes

-- the node of a command is one of a ring of so many nodes
abbrev pub IsWithin : ℕ → Command → Type 0
IsWithin nodes (command.Act event) = node_in event ≤ nodes
IsWithin nodes (command.Look look) = LooksWithin nodes look
