-- What an asker sees of members and groups (cpg_membership_get(3), under this project's own list right).
use Rattle.std.specs.Prelude.{ℕ, ◌≡◌, ◌≢◌, ◌↔◌, List, [], map, Result, Ok, Err, IsOk, Contains, AllPairs}
use Rattle.std.specs.Ordering.{nat_cmp}
use Rattle.std.specs.Cmp.Lexicographic.{slice_cmp}
use Rattle.std.specs.declared.cmp.Ordering.TheVariants.{Less}
use Rattle.cpg_cred.specs.declared.bases.By.{By}
use Rattle.cpg_cred.specs.declared.refusals.Refusal.{Refusal}
use Rattle.cpg_cred.specs.declared.refusals.Refusal.TheVariants as refusal
use Rattle.cpg_rules.specs.declared.decisions.Decision.{Decision}
use Rattle.cpg_rules.specs.declared.decisions.Decision.TheVariants as decision
use Rattle.cpg_rules.specs.declared.rules.Asker.{Asker}
use Rattle.cpg_rules.specs.declared.rules.Right.TheVariants as right
use Rattle.cpg_rules.specs.Decision.{decide}
use Rattle.cpg_record.specs.declared.memberships.Member.{Member}
use Rattle.cpg_record.specs.declared.records.Record.{Record}
use Rattle.cpg_record.specs.Membership.{members}
use Rattle.cpg_record.specs.RuleTables.{rules_of}

-- the node and the process of each member
abbrev pub processes : List Member → List (ℕ × ℕ)
processes list = map (λ member. (member.node, member.pid)) list

-- the processes where they may be listed, else what denies it
abbrev pub shown : Decision → List Member → Result (List (ℕ × ℕ)) By
shown (decision.Allowed by) list = Ok (processes list)
shown (decision.Denied by) list = Err by

-- the decision on listing a group
abbrev pub list_decision : List Record → Asker → List ℕ → Decision
list_decision records asker g = decide (rules_of records g) right.List asker

-- the processes of a group's members, in the order of their joins, or what denies the asker the listing
abbrev pub listing : List Record → Asker → List ℕ → Result (List (ℕ × ℕ)) By
listing records asker g = shown (list_decision records asker g) (members records g)

-- a listing call answers the listing or its denial; memory is refused only where the listing is allowed
abbrev pub AnswersListing : Result (List (ℕ × ℕ)) By → Result (List (ℕ × ℕ)) Refusal → Type 0
AnswersListing asked (Ok list) = asked ≡ Ok list
AnswersListing asked (Err refusal.Memory) = IsOk asked
AnswersListing asked (Err (refusal.Denied by)) = asked ≡ Err by
AnswersListing asked (Err _) = ⊥

-- a group with members that the asker may list
abbrev pub IsShownTo : List Record → Asker → List ℕ → Type 0
IsShownTo records asker g = (members records g ≢ []) × ((by : By) × (list_decision records asker g ≡ decision.Allowed by))

-- the names of the groups with members that the asker may list, in the order of their bytes, each once
pub record AreGroups (records : List Record) (asker : Asker) (names : List (List ℕ)) : Type 0 where
  pub ascending : AllPairs (λ g h. slice_cmp nat_cmp g h ≡ Less) names
  pub exactly : (g : List ℕ) → Contains names g ↔ IsShownTo records asker g
