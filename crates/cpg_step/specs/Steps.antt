-- steps of the functions that run, which no contract of a public function cites
use Rattle.std.specs.Prelude.{ℕ, ◌≡◌, ◌⊎◌, List, [], ◌∷◌, ◌&&◌, nat_le, Option, Some, None, if◌then◌else◌}
use Rattle.std.specs.List.{concat}
use Rattle.cpg_cred.specs.declared.nodes.TheConstants.{MOST_NODES}
use Rattle.cpg_entry.specs.declared.ranges.TheConstants.{MOST_CONNECTIONS}
use Rattle.cpg_rules.specs.declared.rules.Rule.{Rule}
use Rattle.cpg_text.specs.Words.{◌>>=◌}
use Rattle.cpg_text.specs.Numbers.{number_in}
use Rattle.cpg_world_laws.specs.Worlds.{WorldValue}
use Rattle.cpg_world_laws.specs.Replies.{Answer, AreReplies}
use Rattle.cpg_step.specs.declared.commands.Command.{Command}
use Rattle.cpg_step.specs.Commands.{in_ring}
use Rattle.cpg_step.specs.Running.{after, events_in, lines_of, Form}

-- The command is done, and this is the text of its lines.
pub record IsDone (form : Form) (index : ℕ) (w : WorldValue) (command : Command) (text : List ℕ) (world : WorldValue) : Type 0 where
  pub answers : List Answer
  pub replies : AreReplies w (events_in (command ∷ [])) answers
  pub world_after : world ≡ after w (command ∷ [])
  pub said : text ≡ concat (lines_of form index w (command ∷ []) answers)

-- the command is not done, or it is
abbrev pub MayBeDone : WorldValue → Command → WorldValue → Type 0
MayBeDone w command world = (world ≡ w) ⊎ (world ≡ after w (command ∷ []))

-- the line of a rule, if there is one
abbrev pub line_of : (ℕ × Rule → List ℕ) → Option (ℕ × Rule) → List ℕ
line_of line None = []
line_of line (Some rule) = line rule

-- two words that are all there are
abbrev pub two : List (List ℕ) → Option (List ℕ × List ℕ)
two (first ∷ second ∷ []) = Some (first, second)
two _ = None

-- two numbers of 32 bits that are all that is written
abbrev pub two_numbers : List (List ℕ) → Option (ℕ × ℕ)
two_numbers (first ∷ second ∷ []) = do
  n ← number_in 0 4294967295 first
  m ← number_in 0 4294967295 second
  Some (n, m)
two_numbers _ = None

-- the number, where it is `low` to `high`
abbrev pub between : ℕ → ℕ → ℕ → Option ℕ
between low high number = if nat_le low number && nat_le number high then Some number else None

-- the node of that number, in a ring of so many nodes
abbrev pub node_numbered : ℕ → ℕ → Option ℕ
node_numbered nodes number = between 1 MOST_NODES number >>= in_ring nodes

-- the node and the connection of two numbers
abbrev pub at_numbered : ℕ → ℕ → ℕ → Option (ℕ × ℕ)
at_numbered nodes node conn = do
  n ← node_numbered nodes node
  c ← between 1 MOST_CONNECTIONS conn
  Some (n, c)
