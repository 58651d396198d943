-- What a contract sees of a ledger.
use Rattle.std.specs.Prelude.{◌≡◌, ℕ, ◌+◌, ◌≤◌, List, length, refl}
use Rattle.std.specs.Coded.{Coded, code_by, coded×, coded_ℕ, coded_list}
use Rattle.cpg_entry.specs.declared.entries.Entry.{Entry}
use Rattle.cpg_entry.specs.declared.blocks.TheConstants.{BLOCK}
use Rattle.cpg_entry.specs.contracts.entries.Entry as entry

-- the entries, in order, how many of the first ones stand in blocks, and how many entries there is room for
pub record LedgerValue : Type 0 where
  pub items : List Entry
  pub in_blocks : ℕ
  pub room : ℕ

-- a ledger is stored as its fields
abbrev pub ledger_code : Coded LedgerValue
ledger_code =
    code_by (List Entry × (ℕ × ℕ)) (coded× (coded_list ((entry.the_row).coded)) (coded× coded_ℕ coded_ℕ))
    (λ l. (l.items, (l.in_blocks, l.room))) (λ p. record { items = p.0; in_blocks = p.1.0; room = p.1.1 }) (λ _. refl)

-- a block more of the entries stands in blocks, and at least as many as a block has do not
abbrev pub IsBlockMore : LedgerValue → LedgerValue → Type 0
IsBlockMore before after = (after.in_blocks ≡ before.in_blocks + BLOCK) × (after.in_blocks + BLOCK ≤ length after.items)
