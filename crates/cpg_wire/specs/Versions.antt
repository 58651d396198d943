-- Which frames a version has room for.
use Rattle.std.specs.Prelude.{ℕ, ◌+◌, ◌≤◌, Option, Some, None, IfSome}
use Rattle.cpg_rules.specs.declared.rules.Who.{Who}
use Rattle.cpg_rules.specs.declared.rules.Rule.{Rule}
use Rattle.cpg_entry.specs.declared.calls.Call.TheVariants.{Join, Leave, Send, Insert, Remove}
use Rattle.cpg_entry.specs.declared.calls.Op.{Op}
use Rattle.cpg_entry.specs.declared.calls.Op.TheVariants.{Act, Gone}
use Rattle.cpg_entry.specs.declared.frames.Frame.{Frame}
use Rattle.cpg_entry.specs.declared.frames.Frame.TheVariants as frames
use Rattle.cpg_wire.specs.declared.codes.Version.{Version}
use Rattle.cpg_wire.specs.declared.codes.Version.TheVariants.{One, Two}

-- 1 for a condition that is there
abbrev pub given : Option ℕ → ℕ
given None = 0
given (Some number) = 1

-- how many conditions a who has
abbrev pub conditions : Who → ℕ
conditions who = given who.uid + given who.gid + given who.node

-- version 1 has room for one condition
abbrev pub HasRoom : Version → Who → Type 0
HasRoom One who = conditions who ≤ 1
HasRoom Two who = Unit {0}

-- the rule that an op puts into a table, if any
abbrev pub rule_in : Op → Option Rule
rule_in (Act (Join name)) = None
rule_in (Act Leave) = None
rule_in (Act (Send message)) = None
rule_in (Act (Insert name position rule)) = Some rule
rule_in (Act (Remove name id)) = None
rule_in Gone = None

-- the version has room for the rule in the op, if any
abbrev pub FitsOp : Version → Op → Type 0
FitsOp version op = IfSome (rule_in op) (λ rule. HasRoom version rule.who)

-- the version has room for the rule in the frame, if any
abbrev pub Fits : Version → Frame → Type 0
Fits version (frames.Packet packet) = FitsOp version packet.entry.op
Fits version (frames.Token token) = Unit {0}
