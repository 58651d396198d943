-- what commands are named, and what they are of
use Rattle.std.specs.Prelude.{ℕ, List, ◌++◌, codes, decimal}
use Rattle.cpg_world_laws.specs.declared.events.WorldEvent.{WorldEvent}
use Rattle.cpg_world_laws.specs.declared.events.WorldEvent.TheVariants as event
use Rattle.cpg_step.specs.declared.commands.Command.{Command}
use Rattle.cpg_step.specs.declared.commands.Command.TheVariants.{Act, Look}
use Rattle.cpg_step.specs.declared.commands.Look.{Look as LookValue}
use Rattle.cpg_step.specs.declared.commands.Look.TheVariants as look
use Rattle.cpg_step.specs.declared.targets.Target.{Target}
use Rattle.cpg_step.specs.declared.targets.Target.TheVariants as target

-- the first word of an event's line
abbrev pub event_name : WorldEvent → List ℕ
event_name (event.Connect node pid cred) = codes "connect"
event_name (event.Submit node conn call) = codes "call"
event_name (event.Disconnect node conn) = codes "disconnect"
event_name (event.Frame node number) = codes "frame"
event_name (event.Timer node) = codes "timer"
event_name (event.Deliver node) = codes "deliver"
event_name (event.Take node conn) = codes "take"
event_name (event.List node conn group) = codes "list"
event_name (event.Groups node conn) = codes "groups"

-- that of a look's
abbrev pub look_name : LookValue → List ℕ
look_name (look.Show number) = codes "show"
look_name (look.Audit node) = codes "audit"
look_name (look.Rules node group) = codes "rules"
look_name (look.Safe node) = codes "safe"

abbrev pub command_name : Command → List ℕ
command_name (Act e) = event_name e
command_name (Look l) = look_name l

-- what an event is of: the connection that it names, or else the node
abbrev pub event_target : WorldEvent → Target
event_target (event.Connect node pid cred) = target.Node node
event_target (event.Submit node conn call) = target.Connection node conn
event_target (event.Disconnect node conn) = target.Connection node conn
event_target (event.Frame node number) = target.Node node
event_target (event.Timer node) = target.Node node
event_target (event.Deliver node) = target.Node node
event_target (event.Take node conn) = target.Connection node conn
event_target (event.List node conn group) = target.Connection node conn
event_target (event.Groups node conn) = target.Connection node conn

-- what a look is of
abbrev pub look_target : LookValue → Target
look_target (look.Show number) = target.Frame number
look_target (look.Audit node) = target.Node node
look_target (look.Rules node group) = target.Node node
look_target (look.Safe node) = target.Node node

abbrev pub command_target : Command → Target
command_target (Act e) = event_target e
command_target (Look l) = look_target l

-- the node of a target, 0 where it is a frame
abbrev pub node_of_target : Target → ℕ
node_of_target (target.Frame number) = 0
node_of_target (target.Node node) = node
node_of_target (target.Connection node conn) = node

-- the number of the frame that a target is; 0 is no frame's
abbrev pub frame_of_target : Target → ℕ
frame_of_target (target.Frame number) = number
frame_of_target _ = 0

-- a target as it stands before a line: `1.2`, `n1`, and for a frame `-`
abbrev pub target_word : Target → List ℕ
target_word (target.Frame number) = codes "-"
target_word (target.Node node) = codes "n" ++ decimal node
target_word (target.Connection node conn) = decimal node ++ codes "." ++ decimal conn
