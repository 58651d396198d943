-- Each verdict names what decided it.
use Rattle.std.proofs.Common.{◌≡◌, ℕ, Bool, true, false, cond, List, [], ◌∷◌, ◌++◌, Option, Some, None, Err, All, refl, sym, ap, ◌∙◌}
use Rattle.std.specs.List.{find}
use Rattle.std.proofs.lemmas.List.Elements.{All-cons, All-head, All-nil, All-tail}
use Rattle.std.proofs.lemmas.Option.{none-some, same_Some}
use Rattle.cpg_cred.specs.declared.bases.By.{By}
use Rattle.cpg_cred.specs.declared.bases.By.TheVariants as by
use Rattle.cpg_rules.specs.declared.decisions.Decision.{Decision}
use Rattle.cpg_rules.specs.declared.decisions.Decision.TheVariants as decision
use Rattle.cpg_rules.specs.declared.rules.Asker.{Asker}
use Rattle.cpg_rules.specs.declared.rules.Effect.{Effect}
use Rattle.cpg_rules.specs.declared.rules.Effect.TheVariants.{Allow, Deny}
use Rattle.cpg_rules.specs.declared.rules.Right.{Right}
use Rattle.cpg_rules.specs.declared.rules.Right.TheVariants as right
use Rattle.cpg_rules.specs.declared.rules.Rule.{Rule}
use Rattle.cpg_rules.specs.Decision.{decide, default, ruling, said_by, speaks}
use Rattle.cpg_rules.specs.Tables.{Rules}
use Rattle.cpg_record.specs.declared.memberships.Member.{Member}
use Rattle.cpg_record.specs.Listings.{list_decision, shown}
use Rattle.cpg_record.specs.Membership.{members}
use Rattle.cpg_record.specs.RuleTables.{rules_of}
use Rattle.cpg_record.specs.Reasons.{AreSilent, by_default, DeniedListingsNameTheirRule, IsFirst, Says}

-- ---- the first rule that speaks

-- the first that passes, with what stands round it
record Found (p : ℕ × Rule → Bool) (rules : Rules) (entry : ℕ × Rule) : Type 0 where
  earlier : Rules
  later : Rules
  stands : rules ≡ earlier ++ entry ∷ later
  passes : p entry ≡ true
  silent : All (λ e. p e ≡ false) earlier

found : (p : ℕ × Rule → Bool) (rules : Rules) (entry : ℕ × Rule) → find p rules ≡ Some entry → Found p rules entry
found p [] entry is = absurd (none-some entry is)
found p (e ∷ rules) entry is = by_case (p e) refl (found p rules entry) is
  where
    by_case : (b : Bool) → p e ≡ b → (find p rules ≡ Some entry → Found p rules entry) → cond b (Some e) (find p rules) ≡ Some entry → Found p (e ∷ rules) entry
    by_case true at further h =
        let same : e ≡ entry = same_Some e entry h in
        record { earlier = []; later = rules; stands = ap (λ (x : ℕ × Rule). x ∷ rules) same; passes = ap p (sym same) ∙ at; silent = All-nil (λ x. p x ≡ false) }
    by_case false at further h =
        let f = further h in
        record { earlier = e ∷ f.earlier; later = f.later; stands = ap (λ (list : Rules). e ∷ list) f.stands; passes = f.passes; silent = All-cons (λ x. p x ≡ false) e f.earlier at f.silent }

none_found : (p : ℕ × Rule → Bool) (rules : Rules) → find p rules ≡ None → All (λ e. p e ≡ false) rules
none_found p [] is = All-nil (λ x. p x ≡ false)
none_found p (e ∷ rules) is = by_case (p e) refl (none_found p rules) is
  where
    by_case : (b : Bool) → p e ≡ b → (find p rules ≡ None → All (λ x. p x ≡ false) rules) → cond b (Some e) (find p rules) ≡ None → All (λ x. p x ≡ false) (e ∷ rules)
    by_case true at further h = absurd (cc)
    by_case false at further h = All-cons (λ x. p x ≡ false) e rules at (further h)

silent_none : (p : ℕ × Rule → Bool) (rules : Rules) → All (λ e. p e ≡ false) rules → find p rules ≡ None
silent_none p [] silent = refl
silent_none p (e ∷ rules) silent =
    ap (λ (b : Bool). cond b (Some e) (find p rules)) (All-head (λ x. p x ≡ false) e rules silent)
    ∙ silent_none p rules (All-tail (λ x. p x ≡ false) e rules silent)

first_found : (p : ℕ × Rule → Bool) (earlier later : Rules) (entry : ℕ × Rule) → p entry ≡ true → All (λ e. p e ≡ false) earlier → find p (earlier ++ entry ∷ later) ≡ Some entry
first_found p [] later entry passes silent = ap (λ (b : Bool). cond b (Some entry) (find p later)) passes
first_found p (e ∷ earlier) later entry passes silent =
    ap (λ (b : Bool). cond b (Some e) (find p (earlier ++ entry ∷ later))) (All-head (λ x. p x ≡ false) e earlier silent)
    ∙ first_found p earlier later entry passes (All-tail (λ x. p x ≡ false) e earlier silent)

-- ---- what a table says

-- the decision, in words
abbrev pub DecidedSo : Rules → Right → Asker → Decision → Type 0
DecidedSo rules r asker (decision.Allowed basis) = Says rules r asker Allow basis
DecidedSo rules r asker (decision.Denied basis) = Says rules r asker Deny basis

by_rule : (rules : Rules) (r : Right) (asker : Asker) (id : ℕ) (rule : Rule) (effect : Effect) → IsFirst rules r asker id rule → rule.effect ≡ effect → DecidedSo rules r asker (ruling effect id)
by_rule rules r asker id rule Allow first is = (rule, first, is)
by_rule rules r asker id rule Deny first is = (rule, first, is)

silence : (rules : Rules) (r : Right) (asker : Asker) → AreSilent rules r asker → DecidedSo rules r asker (default r)
silence rules right.Edit asker silent = (silent, refl)
silence rules right.Join asker silent = (silent, refl)
silence rules right.Send asker silent = (silent, refl)
silence rules right.List asker silent = (silent, refl)

pub decided_so : (rules : Rules) (r : Right) (asker : Asker) → DecidedSo rules r asker (decide rules r asker)
decided_so rules r asker = by_found (find (speaks r asker) rules) refl
  where
    by_found : (o : Option (ℕ × Rule)) → find (speaks r asker) rules ≡ o → DecidedSo rules r asker (said_by r o)
    by_found None is = silence rules r asker (none_found (speaks r asker) rules is)
    by_found (Some entry) is =
        let f = found (speaks r asker) rules entry is in
        by_rule rules r asker entry.0 entry.1 entry.1.effect
        (record { earlier = f.earlier; later = f.later; stands = f.stands; speaks_so = f.passes; before_it = f.silent }) refl

-- the decision of that effect
abbrev pub decision_of : Effect → By → Decision
decision_of Allow basis = decision.Allowed basis
decision_of Deny basis = decision.Denied basis

ruling_is : (effect : Effect) (id : ℕ) → ruling effect id ≡ decision_of effect (by.Rule id)
ruling_is Allow id = refl
ruling_is Deny id = refl

default_is : (r : Right) → default r ≡ decision_of (by_default r) by.Default
default_is right.Edit = refl
default_is right.Join = refl
default_is right.Send = refl
default_is right.List = refl

pub decides_so : (rules : Rules) (r : Right) (asker : Asker) (effect : Effect) (basis : By) → Says rules r asker effect basis → decide rules r asker ≡ decision_of effect basis
decides_so rules r asker effect (by.Rule id) (rule, first, is) =
    ap (λ (list : Rules). said_by r (find (speaks r asker) list)) first.stands
    ∙ ap (said_by r) (first_found (speaks r asker) first.earlier first.later (id, rule) first.speaks_so first.before_it)
    ∙ ap (λ (e : Effect). ruling e id) is
    ∙ ruling_is effect id
decides_so rules r asker effect by.Default (silent, is) =
    ap (said_by r) (silent_none (speaks r asker) rules silent)
    ∙ default_is r
    ∙ ap (λ (e : Effect). decision_of e by.Default) (sym is)
decides_so rules r asker effect by.Root says = absurd says
decides_so rules r asker effect by.Free says = absurd says

-- ---- listings

listing_denied : (rules : Rules) (asker : Asker) (list : List Member) (basis : By) (d : Decision) → DecidedSo rules right.List asker d → shown d list ≡ Err basis →
    (id : ℕ) × (basis ≡ by.Rule id) × Says rules right.List asker Deny (by.Rule id)
listing_denied rules asker list basis (decision.Allowed b) says is = absurd (cc)
listing_denied rules asker list basis (decision.Denied (by.Rule id)) says is =
    let same : by.Rule id ≡ basis = cc in
    (id, sym same, says)
listing_denied rules asker list basis (decision.Denied by.Default) says is = let never = says.1 in absurd (cc)
listing_denied rules asker list basis (decision.Denied by.Root) says is = absurd says
listing_denied rules asker list basis (decision.Denied by.Free) says is = absurd says

pub denied_listings_name_their_rule : DeniedListingsNameTheirRule
denied_listings_name_their_rule rs asker g basis = (
  (λ is. listing_denied (rules_of rs g) asker (members rs g) basis (list_decision rs asker g) (decided_so (rules_of rs g) right.List asker) is),
  (λ (id, same, says). ap (λ (d : Decision). shown d (members rs g)) (decides_so (rules_of rs g) right.List asker Deny (by.Rule id) says) ∙ ap (λ (b : By). Err b) (sym same)),
)
