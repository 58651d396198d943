-- commands as words
use Rattle.std.specs.Prelude.{ℕ, ◌≤◌, Bool, true, false, List, [], ◌∷◌, codes, Option, Some, None, option_map, if◌then◌else◌}
use Rattle.std.specs.Str.{bytes_eq}
use Rattle.cpg_text.specs.Words.{◌>>=◌, u32_of}
use Rattle.cpg_print.specs.Calls.{call_of}
use Rattle.cpg_step.specs.Commands.{node_of, node_alone}
use Rattle.cpg_cluster.specs.declared.commands.Ask.{Ask}
use Rattle.cpg_cluster.specs.declared.commands.Ask.TheVariants as ask
use Rattle.cpg_cluster.specs.declared.commands.Command.{Command}
use Rattle.cpg_cluster.specs.declared.commands.Command.TheVariants as command

-- `connect NODE PID UID GID`
abbrev pub connect_of : ℕ → List (List ℕ) → Option Command
connect_of nodes (node ∷ pid ∷ uid ∷ gid ∷ []) = do
  n ← node_of nodes node
  p ← u32_of pid
  u ← u32_of uid
  g ← u32_of gid
  Some (command.Connect n p (record { uid = u; gid = g }))
connect_of nodes _ = None

-- what is asked, where no words follow
abbrev pub alone : {A : Type 0} → A → List (List ℕ) → Option A
alone asked [] = Some asked
alone asked _ = None

-- GROUP, where no other words follow; any word is a group
abbrev pub list_of : List (List ℕ) → Option Ask
list_of (g ∷ []) = Some (ask.List g)
list_of _ = None

-- what a session is asked for, by the command's first word and those after the session's number
abbrev pub ask_of : List ℕ → List (List ℕ) → Option Ask
ask_of word arguments =
    if bytes_eq word (codes "call") then option_map (λ call. ask.Call call) (call_of arguments)
    else if bytes_eq word (codes "wait") then alone ask.Wait arguments
    else if bytes_eq word (codes "list") then list_of arguments
    else if bytes_eq word (codes "groups") then alone ask.Groups arguments
    else if bytes_eq word (codes "audit") then alone ask.Audit arguments
    else None

-- `close S`, or what the session S is asked for
abbrev pub command_to : List ℕ → ℕ → List (List ℕ) → Option Command
command_to word number arguments =
    if bytes_eq word (codes "close") then alone (command.Close number) arguments
    else option_map (λ asked. command.Ask number asked) (ask_of word arguments)

-- a command whose second word is the number of a session
abbrev pub session_of : List ℕ → List (List ℕ) → Option Command
session_of word [] = None
session_of word (number ∷ arguments) = u32_of number >>= λ s. command_to word s arguments

-- the command of a line's words, where there are so many nodes
abbrev pub command_of : ℕ → List (List ℕ) → Option Command
command_of nodes [] = None
command_of nodes (word ∷ arguments) =
    if bytes_eq word (codes "connect") then connect_of nodes arguments
    else if bytes_eq word (codes "safe") then option_map (λ n. command.Safe n) (node_alone nodes arguments)
    else session_of word arguments

-- the node that a command names is there
abbrev pub IsWithin : ℕ → Command → Type 0
IsWithin nodes (command.Connect n pid cred) = n ≤ nodes
IsWithin nodes (command.Safe n) = n ≤ nodes
IsWithin nodes _ = Unit {0}

-- the command waits for an event
abbrev pub waits : Command → Bool
waits (command.Ask number ask.Wait) = true
waits _ = false
