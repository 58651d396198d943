-- which condition of a rule an asker does not meet
use Rattle.std.specs.Prelude.{ℕ, ◌==◌, Option, Some, None, if◌then◌else◌}
use Rattle.cpg_rules.specs.declared.rules.Asker.{Asker}
use Rattle.cpg_rules.specs.declared.rules.Who.{Who}
use Rattle.cpg_why.specs.declared.unmet.Subject.{Subject}
use Rattle.cpg_why.specs.declared.unmet.Subject.TheVariants.{Uid, Gid, Node}
use Rattle.cpg_why.specs.declared.unmet.Unmet.{Unmet}

-- the condition of a rule that is of that kind, if the rule has one
abbrev pub wanted_by : Subject → Who → Option ℕ
wanted_by Uid who = who.uid
wanted_by Gid who = who.gid
wanted_by Node who = who.node

-- what an asker has of that kind
abbrev pub had_by : Subject → Asker → ℕ
had_by Uid asker = asker.cred.uid
had_by Gid asker = asker.cred.gid
had_by Node asker = asker.node

-- a condition of that kind that is there and does not hold of the number
abbrev pub lacking : Subject → ℕ → Option ℕ → Option Unmet
lacking kind has None = None
lacking kind has (Some wanted) = if has == wanted then None else Some (record { kind = kind; has = has; wanted = wanted })

-- the first that is there
abbrev pub first_of_two : Option Unmet → Option Unmet → Option Unmet
first_of_two (Some found) other = Some found
first_of_two None other = other

-- the first condition, in the order uid, gid, node, that the asker does not meet
unfoldable pub unmet : Who → Asker → Option Unmet
unmet who asker =
    first_of_two (lacking Uid asker.cred.uid who.uid)
    (first_of_two (lacking Gid asker.cred.gid who.gid) (lacking Node asker.node who.node))
