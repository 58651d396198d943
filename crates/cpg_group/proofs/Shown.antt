-- Which groups are shown: those that are kept, each once and sorted, and of these the ones that an asker
-- may list and that have members.
use Rattle.std.proofs.Common.{◌≡◌, ◌≢◌, ℕ, Bool, true, false, ◌&&◌, cond, List, [], ◌∷◌, Contains, refl, sym, ap, subst, ◌∙◌, arith, Option, Some, None}
use Rattle.std.specs.Prelude.{AllPairs}
use Rattle.std.specs.Ordering.{nat_cmp, eq_by_cmp}
use Rattle.std.specs.declared.cmp.Ordering.{Ordering}
use Rattle.std.specs.Cmp.Lexicographic.{slice_cmp, nat_list_eq_equiv}
use Rattle.std.specs.declared.cmp.Ordering.TheVariants.{Less}
use Rattle.std.specs.List.{filter, dedup, dedup_from, IsDistinct}
use Rattle.std.specs.List.Sorted.{IsStrictlySortedBy, IsSorted, IsPermutation}
use Rattle.std.specs.Str.{bytes_eq}
use Rattle.std.proofs.lemmas.Cmp.{nat_list_cmp_total}
use Rattle.std.proofs.lemmas.List.Elements.{All-from_recursion}
use Rattle.std.proofs.lemmas.List.Kept.{AllPairs-cons, AllPairs-filter, IsStrictlySortedBy-dedup}
use Rattle.std.proofs.lemmas.List.Sorted.{Contains-permutation}
use Rattle.std.proofs.lemmas.Map.Keys.{IsDistinct-IsPermutation}
use Rattle.std.proofs.lemmas.Map.Text.{is_eq-slice_cmp}
use Rattle.std.proofs.lemmas.Slice.Eq.{bytes_eq-Decides}
use Rattle.cpg_cred.specs.declared.bases.By.{By}
use Rattle.cpg_rules.specs.declared.decisions.Decision.{Decision}
use Rattle.cpg_rules.specs.declared.decisions.Decision.TheVariants as decision
use Rattle.cpg_rules.specs.declared.rules.Asker.{Asker}
use Rattle.cpg_record.specs.declared.memberships.Member.{Member}
use Rattle.cpg_record.specs.declared.records.Record.{Record}
use Rattle.cpg_record.specs.Listings.{AreGroups, list_decision}
use Rattle.cpg_record.specs.Membership.{members}
use Rattle.cpg_record.proofs.Kept.{Contains-behind, Contains-filter, Contains-from_filter}
use Rattle.std.specs.Prelude.{is_some}
use Rattle.std.specs.Map.{lookup}
use Rattle.cpg_group.specs.Groups.{allows, has_members, is_shown}
use Rattle.cpg_record.specs.Named.{names_of, found_or}
use Rattle.cpg_group.specs.Standing.{GroupValue, Kept, no_group, AreStanding}

-- ---- lists

-- an order that each element keeps with all later ones
AllPairs-from_sorted : {X : Type 0} (c : X → X → Ordering) (xs : List X) → IsStrictlySortedBy c xs → AllPairs (λ x y. c x y ≡ Less) xs
unfolding IsStrictlySortedBy
AllPairs-from_sorted c [] sorted = λ i j d below within. absurd (omega arith)
AllPairs-from_sorted c (x ∷ xs) sorted =
    AllPairs-cons (λ a b. c a b ≡ Less) x xs (All-from_recursion (λ b. c x b ≡ Less) xs sorted.0) (AllPairs-from_sorted c xs sorted.1)

-- names of which no two are the same stay, each once
same_from : (g : List ℕ) (names : List (List ℕ)) → IsDistinct bytes_eq (g ∷ names) → dedup_from bytes_eq g names ≡ g ∷ names
unfolding IsDistinct
same_from g [] apart = refl
same_from g (h ∷ names) apart =
    let flipped : bytes_eq h g ≡ false = nat_list_eq_equiv.symm h g ∙ apart.0.0 in
    ap (λ (b : Bool). cond b (dedup_from bytes_eq g names) (g ∷ dedup_from bytes_eq h names)) flipped
    ∙ ap (λ (rest : List (List ℕ)). g ∷ rest) (same_from h names apart.1)

each_once : (names : List (List ℕ)) → IsDistinct bytes_eq names → dedup bytes_eq names ≡ names
each_once [] apart = refl
each_once (g ∷ names) apart = same_from g names apart

-- ---- names that are kept

-- a name that is found is among the names
found_named : (kept : Kept) (g : List ℕ) → is_some (lookup (bytes_eq g) kept) ≡ true → Contains (names_of kept) g
found_named [] g h = absurd (cc)
found_named (pair ∷ kept) g h = by_case (bytes_eq g pair.0) refl (found_named kept g) h
  where
    by_case : (b : Bool) → bytes_eq g pair.0 ≡ b → (is_some (lookup (bytes_eq g) kept) ≡ true → Contains (names_of kept) g) →
        is_some (cond b (Some pair.1) (lookup (bytes_eq g) kept)) ≡ true → Contains (pair.0 ∷ names_of kept) g
    by_case true is others k = (0, omega arith, sym ((bytes_eq-Decides g pair.0).0 is))
    by_case false is others k = Contains-behind pair.0 (names_of kept) g (others k)

-- a group with members is among the names
members_named : (kept : Kept) (rs : List Record) (g : List ℕ) → AreStanding kept rs → members rs g ≢ [] → Contains (names_of kept) g
members_named kept rs g current some = by_case (lookup (bytes_eq g) kept) refl
  where
    by_case : (o : Option GroupValue) → lookup (bytes_eq g) kept ≡ o → Contains (names_of kept) g
    by_case (Some group) is = found_named kept g (ap is_some is)
    by_case None is =
        let none : members rs g ≡ [] = ap (λ (group : GroupValue). group.members) (sym (current g) ∙ ap (found_or no_group) is) in
        absurd (some none)

-- ---- what is shown

shown_is : (d : Decision) (list : List Member) → (allows d && has_members list) ≡ true → (list ≢ []) × ((by : By) × (d ≡ decision.Allowed by))
shown_is (decision.Allowed by) (m ∷ ms) h = ((λ e. absurd (cc)), (by, refl))
shown_is (decision.Allowed by) [] h = absurd (cc)
shown_is (decision.Denied by) list h = absurd (cc)

is_shown_by : (d : Decision) (list : List Member) (by : By) → list ≢ [] → d ≡ decision.Allowed by → (allows d && has_members list) ≡ true
is_shown_by (decision.Allowed b) (m ∷ ms) by some is = refl
is_shown_by (decision.Allowed b) [] by some is = absurd (some refl)
is_shown_by (decision.Denied b) list by some is = absurd (cc)

same_ties : (x y : List ℕ) → bytes_eq x y ≡ eq_by_cmp (slice_cmp nat_cmp) x y
same_ties x y = sym (is_eq-slice_cmp x y)

-- the names that are kept, each once and sorted, where they are shown, are the groups
pub shown_groups : (kept : Kept) (rs : List Record) (asker : Asker) (sorted : List (List ℕ)) → AreStanding kept rs → IsDistinct bytes_eq (names_of kept) →
    IsPermutation (names_of kept) sorted → IsSorted (slice_cmp nat_cmp) sorted → AreGroups rs asker (filter (is_shown rs asker) sorted)
shown_groups kept rs asker sorted current apart moved order =
    let same : dedup bytes_eq sorted ≡ sorted = each_once sorted (IsDistinct-IsPermutation bytes_eq nat_list_eq_equiv.symm (names_of kept) sorted moved apart) in
    record {
      ascending = AllPairs-filter (λ g h. slice_cmp nat_cmp g h ≡ Less) (is_shown rs asker) sorted
          (AllPairs-from_sorted (slice_cmp nat_cmp) sorted
          (subst (IsStrictlySortedBy (slice_cmp nat_cmp)) same (IsStrictlySortedBy-dedup nat_list_cmp_total same_ties sorted order)));
      exactly = λ g. (
        (λ h. shown_is (list_decision rs asker g) (members rs g) (Contains-from_filter (is_shown rs asker) sorted g h).0),
        (λ h. Contains-filter (is_shown rs asker) sorted g (is_shown_by (list_decision rs asker g) (members rs g) h.1.0 h.0 h.1.1)
            (Contains-permutation (names_of kept) sorted g moved (members_named kept rs g current h.0))),
      );
    }

-- ---- where one is shown, and where none is

pub shows_some : (rs : List Record) (asker : Asker) (g : List ℕ) → is_shown rs asker g ≡ true → ¬ AreGroups rs asker []
shows_some rs asker g shown none =
    let within = (none.exactly g).1 (shown_is (list_decision rs asker g) (members rs g) shown) in
    let below = within.1 in
    absurd (omega (arith, below))

pub shows_none : (kept : Kept) (rs : List Record) (asker : Asker) → AreStanding kept rs → filter (is_shown rs asker) (names_of kept) ≡ [] → AreGroups rs asker []
shows_none kept rs asker current none = record {
  ascending = λ i j d below within. absurd (omega (arith, within));
  exactly = λ g. (
    (λ h. let below = h.1 in absurd (omega (arith, below))),
    (λ h.
        let shown : is_shown rs asker g ≡ true = is_shown_by (list_decision rs asker g) (members rs g) h.1.0 h.0 h.1.1 in
        subst (λ (names : List (List ℕ)). Contains names g) none (Contains-filter (is_shown rs asker) (names_of kept) g shown (members_named kept rs g current h.0))),
  );
}
