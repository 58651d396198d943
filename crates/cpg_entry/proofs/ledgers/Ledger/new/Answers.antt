use Rattle.std.proofs.Common.{◌≡◌, ◌++◌, [], length, All, sym, subst, ap, ◌∙◌, arith}
use Rattle.cpg_entry.specs.Blocks.{laid, IsBlock}
use Rattle.cpg_entry.proofs.Laid.{none_laid, length_laid}
use Rattle.cpg_entry.proofs.ledgers.Ledger.new.Goals as goal

nothing : (c : goal.After-new-2) → laid c.new.result.items ++ c.new-2.result.items ≡ []
nothing c = (λ i. laid (c.new.ensures.items i) ++ c.new-2.ensures.items i) ∙ none_laid _ _ []

no_blocks : (c : goal.After-new-2) → All IsBlock c.new.result.items
no_blocks c = subst (All IsBlock) (sym c.new.ensures.items) (λ k d within. absurd (omega arith))

pub invariant_of-result : goal.invariant_of-result
invariant_of-result c = let none = ap length (nothing c) in (no_blocks c, omega arith)

pub returns-clause-items : goal.returns-clause-items
returns-clause-items c = nothing c

pub returns-clause-laid : goal.returns-clause-laid
returns-clause-laid c =
    let none = ap length c.new.ensures.items in
    let count = length_laid c.new.result.items (no_blocks c) in
    omega arith
