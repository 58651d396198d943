-- what a line's deed does over sessions
use Rattle.std.specs.Prelude.{ℕ, ◌≡◌, ⊤, List, []}
use Rattle.cpg_world_laws.specs.Worlds.{WorldValue}
use Rattle.cpg_cluster.specs.Answers.{SessionsValue}
use Rattle.cpg_cluster.specs.Commands.{IsWithin}
use Rattle.cpg_cluster.specs.Lines.{shown_as}
use Rattle.cpg_cluster.specs.Running.{IsDone}
use Rattle.cpg_cluster.specs.declared.commands.Ask.TheVariants.{Wait}
use Rattle.cpg_cluster.specs.declared.commands.Command.{Command}
use Rattle.cpg_cluster.specs.declared.commands.Command.TheVariants.{Ask}
use Rattle.cpg_cluster.specs.declared.forms.TextForm.TheVariants.{Plain}
use Rattle.cpg_play.specs.declared.deeds.Deed.{Deed}
use Rattle.cpg_play.specs.declared.deeds.Deed.TheVariants as deed

-- The sessions that a script was given, over so many nodes.
pub record PlayerValue : Type 0 where
  pub nodes : ℕ
  pub sessions : SessionsValue

-- the node of a deed is there
abbrev pub IsDeedWithin : ℕ → Deed → Type 0
IsDeedWithin nodes (deed.Command command) = IsWithin nodes command
IsDeedWithin nodes (deed.Named command name) = IsWithin nodes command
IsDeedWithin nodes _ = ⊤

-- the command is answered, and its answer is printed alone
abbrev pub IsAnswered : WorldValue → SessionsValue → Command → List ℕ → SessionsValue → Type 0
IsAnswered start old command text new = IsDone (shown_as Plain) start old (record { number = 0; command = command }) text new

-- what a deed prints over running nodes whose history starts so, and the sessions after it
abbrev pub IsDeedDone : WorldValue → SessionsValue → Deed → List ℕ → SessionsValue → Type 0
IsDeedDone start old (deed.Command command) text new = IsAnswered start old command text new
IsDeedDone start old (deed.Named command name) text new = IsAnswered start old command text new
IsDeedDone start old (deed.Wait number millis) text new = IsAnswered start old (Ask number Wait) text new
IsDeedDone start old (deed.Drain number) text new = ⊤
IsDeedDone start old (deed.Turn switch) text new = (text ≡ []) × (new ≡ old)
