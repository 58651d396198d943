use Rattle.std.proofs.Common.{ℕ, List, bytes_eq, sym, subst}
use Rattle.std.specs.List.{IsDistinct}
use Rattle.std.specs.List.Sorted.{IsPermutation}
use Rattle.cpg_record.specs.Listings.{AreGroups}
use Rattle.cpg_group.proofs.Shown.{shown_groups}
use Rattle.cpg_group.proofs.listing.list_groups.Goals as goal

pub returns-clause-ok : goal.returns-clause-ok
returns-clause-ok c =
    let moved = subst (λ (names : List (List ℕ)). IsPermutation names c.sort.new.self.items) c.in_ok-kept.ensures.ok c.in_ok-sort.ensures.permutation in
    let apart = subst (IsDistinct bytes_eq) c.in_ok-kept.ensures.ok c.in_ok-kept.ensures.once in
    subst (λ (names : List (List ℕ)). AreGroups c.args.records.now c.args.asker.now names) (sym c.in_ok-names.ensures.ok)
    (shown_groups c.args.groups.now c.args.records.now c.args.asker.now c.sort.new.self.items c.requires apart moved c.in_ok-sort.ensures.sorted)
