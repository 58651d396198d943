-- What a table says, by this project's own rule: the first rule that has the right and whose who matches
-- the asker decides, and where there is none, all but edit is allowed.
use Rattle.std.specs.Prelude.{ℕ, Bool, true, false, ◌&&◌, ◌==◌, Option, Some, None}
use Rattle.std.specs.List.{find}
use Rattle.cpg_cred.specs.declared.bases.By.TheVariants as by
use Rattle.cpg_rules.specs.declared.rules.Effect.{Effect}
use Rattle.cpg_rules.specs.declared.rules.Effect.TheVariants.{Allow, Deny}
use Rattle.cpg_rules.specs.declared.rules.Right.{Right}
use Rattle.cpg_rules.specs.declared.rules.Right.TheVariants.{Join, Send, List as Listing, Edit}
use Rattle.cpg_rules.specs.declared.rules.Who.{Who}
use Rattle.cpg_rules.specs.declared.rules.Rule.{Rule}
use Rattle.cpg_rules.specs.declared.rules.Asker.{Asker}
use Rattle.cpg_rules.specs.declared.decisions.Decision.{Decision}
use Rattle.cpg_rules.specs.declared.decisions.Decision.TheVariants.{Allowed, Denied}
use Rattle.cpg_rules.specs.Tables.{Rules}

-- the two rights are one
abbrev pub same_right : Right → Right → Bool
same_right Join Join = true
same_right Send Send = true
same_right Listing Listing = true
same_right Edit Edit = true
same_right _ _ = false

-- a condition holds of a value, and one that is not there holds of all
abbrev pub agrees : Option ℕ → ℕ → Bool
agrees None value = true
agrees (Some wanted) value = value == wanted

-- a who matches an asker where each of its conditions holds
abbrev pub matches : Who → Asker → Bool
matches who asker = agrees who.uid asker.cred.uid && agrees who.gid asker.cred.gid && agrees who.node asker.node

-- a rule of the table speaks of that right and of that asker
abbrev pub speaks : Right → Asker → ℕ × Rule → Bool
speaks right asker entry = same_right entry.1.right right && matches entry.1.who asker

-- what one rule says, by its effect and id
abbrev pub ruling : Effect → ℕ → Decision
ruling Allow id = Allowed (by.Rule id)
ruling Deny id = Denied (by.Rule id)

-- what holds where no rule speaks
abbrev pub default : Right → Decision
default Edit = Denied by.Default
default _ = Allowed by.Default

-- what the rule that was found says, else the right's default
abbrev pub said_by : Right → Option (ℕ × Rule) → Decision
said_by right None = default right
said_by right (Some entry) = ruling entry.1.effect entry.0

-- the first rule that speaks of the right and the asker decides
abbrev pub decide : Rules → Right → Asker → Decision
decide rules right asker = said_by right (find (speaks right asker) rules)
