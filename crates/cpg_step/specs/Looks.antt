-- what commands that only look tell, by a form of lines
use Rattle.std.specs.Prelude.{ℕ, List, [], ◌∷◌, ◌++◌, length, map, Option, Some, None}
use Rattle.std.specs.List.{enumerate_from}
use Rattle.cpg_rules.specs.declared.rules.Rule.{Rule}
use Rattle.cpg_entry.specs.declared.frames.Frame.{Frame}
use Rattle.cpg_record.specs.declared.records.Record.{Record}
use Rattle.cpg_record.specs.RuleTables.{rules_of}
use Rattle.cpg_ring.specs.States.{safe_mark}
use Rattle.cpg_ring.specs.Worlds.{item}
use Rattle.cpg_node.specs.Nodes.{NodeValue, records_of}
use Rattle.cpg_world_laws.specs.Worlds.{WorldValue}
use Rattle.cpg_step.specs.declared.commands.Look.{Look}
use Rattle.cpg_step.specs.declared.commands.Look.TheVariants.{Show, Audit, Rules, Safe}

-- The form of a look: the line of a frame that was sent, if there is one, of the record at a place, of how many records there
-- are, of a rule with its id, of how many rules there are, and of a safe mark.
pub record LookForm : Type 0 where
  pub frame : Option Frame → List ℕ
  pub past : ℕ → Record → List ℕ
  pub records : ℕ → List ℕ
  pub rule : ℕ × Rule → List ℕ
  pub rules : ℕ → List ℕ
  pub safe : ℕ → List ℕ

-- what a form has of each
abbrev pub frame_by : LookForm → Option Frame → List ℕ
frame_by form frame = form.frame frame

abbrev pub past_by : LookForm → ℕ → Record → List ℕ
past_by form place past = form.past place past

abbrev pub records_by : LookForm → ℕ → List ℕ
records_by form count = form.records count

abbrev pub rule_by : LookForm → ℕ × Rule → List ℕ
rule_by form rule = form.rule rule

abbrev pub rules_by : LookForm → ℕ → List ℕ
rules_by form count = form.rules count

abbrev pub safe_by : LookForm → ℕ → List ℕ
safe_by form place = form.safe place

-- the lines of records, the first of which stands at place 1
abbrev pub numbered : (ℕ → Record → List ℕ) → List Record → List (List ℕ)
numbered line records = map (λ past. line past.0 past.1) (enumerate_from 1 records)

-- a node's records, and how many there are
abbrev pub audit_by : LookForm → List Record → List (List ℕ)
audit_by form records = numbered form.past records ++ form.records (length records) ∷ []

-- a table's rules, and how many there are
abbrev pub table_by : LookForm → List (ℕ × Rule) → List (List ℕ)
table_by form table = map form.rule table ++ form.rules (length table) ∷ []

-- the lines of the node, which is there
abbrev pub lines_at : (NodeValue → List (List ℕ)) → Option NodeValue → List (List ℕ)
lines_at lines None = []
lines_at lines (Some x) = lines x

-- what a command that only looks tells
abbrev pub told_by : LookForm → WorldValue → Look → List (List ℕ)
told_by form w (Show k) = form.frame (item w.sent k) ∷ []
told_by form w (Audit n) = lines_at (λ x. audit_by form (records_of x)) (item w.nodes n)
told_by form w (Rules n g) = lines_at (λ x. table_by form (rules_of (records_of x) g)) (item w.nodes n)
told_by form w (Safe n) = lines_at (λ x. form.safe (safe_mark x.ring.state.arus) ∷ []) (item w.nodes n)
