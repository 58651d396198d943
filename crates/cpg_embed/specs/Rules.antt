-- Rules, in numbers.
use Rattle.std.specs.Prelude.{ℕ, Bool, true, false, ◌==◌, ◌&&◌, nat_le, Option, Some, None, is_some, unwrap_or, if◌then◌else◌}
use Rattle.cpg_cred.specs.declared.nodes.TheConstants.{MOST_NODES}
use Rattle.cpg_rules.specs.declared.rules.Effect.{Effect}
use Rattle.cpg_rules.specs.declared.rules.Effect.TheVariants.{Allow, Deny}
use Rattle.cpg_rules.specs.declared.rules.Right.{Right}
use Rattle.cpg_rules.specs.declared.rules.Right.TheVariants.{Join, Send, List as Listing, Edit}
use Rattle.cpg_rules.specs.declared.rules.Rule.{Rule}
use Rattle.cpg_embed.specs.declared.rules.RuleLine.{RuleLine}

-- the effect of a number
abbrev pub effect_of : ℕ → Option Effect
effect_of number = if number == 1 then Some Allow else if number == 2 then Some Deny else None

-- the right of a number
abbrev pub right_of : ℕ → Option Right
right_of number =
    if number == 1 then Some Join else if number == 2 then Some Send else if number == 3 then Some Listing else if number == 4 then Some Edit else None

-- a condition on a number, where there is one
abbrev pub number_if : Bool → ℕ → Option ℕ
number_if true number = Some number
number_if false number = None

-- a condition on a node, where there is one; nothing, where it is on no node
abbrev pub node_if : Bool → ℕ → Option (Option ℕ)
node_if true number = if nat_le 1 number && nat_le number MOST_NODES then Some (Some number) else None
node_if false number = Some None

-- the rule of those parts, where all are there
abbrev pub rule_by : RuleLine → Option Effect → Option Right → Option (Option ℕ) → Option Rule
rule_by line (Some effect) (Some right) (Some node) =
    Some (record { effect = effect; right = right; who = record { uid = number_if line.has_uid line.uid; gid = number_if line.has_gid line.gid; node = node } })
rule_by line _ _ _ = None

-- the rule that the numbers say, if they say one
abbrev pub rule_of : RuleLine → Option Rule
rule_of line = rule_by line (effect_of line.effect) (right_of line.right) (node_if line.has_node line.node)

-- the number of an effect
abbrev pub effect_number : Effect → ℕ
effect_number Allow = 1
effect_number Deny = 2

-- the number of a right
abbrev pub right_number : Right → ℕ
right_number Join = 1
right_number Send = 2
right_number Listing = 3
right_number Edit = 4

-- a rule of a table in numbers, with its id; a number that is not there is 0
abbrev pub line_of : ℕ → Rule → RuleLine
line_of id rule =
    record {
      id = id;
      effect = effect_number rule.effect;
      right = right_number rule.right;
      has_uid = is_some rule.who.uid;
      has_gid = is_some rule.who.gid;
      has_node = is_some rule.who.node;
      uid = unwrap_or rule.who.uid 0;
      gid = unwrap_or rule.who.gid 0;
      node = unwrap_or rule.who.node 0;
    }
