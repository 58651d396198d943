-- which groups an asker is shown
use Rattle.std.specs.Prelude.{ℕ, Bool, true, false, ◌&&◌, List, [], ◌∷◌}
use Rattle.cpg_rules.specs.declared.decisions.Decision.{Decision}
use Rattle.cpg_rules.specs.declared.decisions.Decision.TheVariants as decision
use Rattle.cpg_rules.specs.declared.rules.Asker.{Asker}
use Rattle.cpg_record.specs.declared.memberships.Member.{Member}
use Rattle.cpg_record.specs.declared.records.Record.{Record}
use Rattle.cpg_record.specs.Listings.{list_decision}
use Rattle.cpg_record.specs.Membership.{members}

-- there is a member
abbrev pub has_members : List Member → Bool
has_members [] = false
has_members (member ∷ list) = true

-- the decision is an allowance
abbrev pub allows : Decision → Bool
allows (decision.Allowed by) = true
allows (decision.Denied by) = false

-- the group has members, and the asker may list it
abbrev pub is_shown : List Record → Asker → List ℕ → Bool
is_shown records asker g = allows (list_decision records asker g) && has_members (members records g)
