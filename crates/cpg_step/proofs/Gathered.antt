-- lines of commands that are gathered
use Rattle.std.proofs.Common.{◌≡◌, ℕ, List, [], Some, subst}
use Rattle.cpg_world_laws.specs.Worlds.{WorldValue}
use Rattle.cpg_step.specs.declared.commands.Command.{Command}
use Rattle.cpg_step.specs.Gathering.{IsText}
use Rattle.cpg_step.specs.Running.{AreDone, Form}

-- what is written behind nothing is all that the commands print
pub all_gathered : (form : Form) (w v : WorldValue) (commands : List Command) (old text : List ℕ) → old ≡ [] → AreDone form 0 w commands (Some old) (Some text) v → IsText form w commands text
all_gathered form w v commands old text none done =
    let all : AreDone form 0 w commands (Some []) (Some text) v = subst (λ (l : List ℕ). AreDone form 0 w commands (Some l) (Some text) v) none done in
    record { answers = all.answers; replies = all.replies; said = all.written }
