-- The table of access rules that each group has, from the records alone; the rule is this project's own.
use Rattle.std.specs.Prelude.{ℕ, ◌&&◌, List, [], Option, Some, None, if◌then◌else◌}
use Rattle.std.specs.List.{fold, insert, enumerate_from}
use Rattle.cpg_rules.specs.Tables.{Rules, without_id}
use Rattle.cpg_entry.specs.declared.calls.Call.TheVariants.{Join, Insert, Remove}
use Rattle.cpg_entry.specs.declared.calls.Op.{Op}
use Rattle.cpg_entry.specs.declared.calls.Op.TheVariants.{Act}
use Rattle.cpg_record.specs.declared.records.Record.{Record}
use Rattle.cpg_record.specs.Membership.{is_allowed, is_named}

-- the group that the op names, if it names one
abbrev pub named : Op → Option (List ℕ)
named (Act (Join g)) = Some g
named (Act (Insert g index rule)) = Some g
named (Act (Remove g id)) = Some g
named _ = None

-- the table after the op at that place: an insert puts its rule at its index, with the place as its id
abbrev pub edited_by : ℕ → Op → Rules → Rules
edited_by place (Act (Insert g index rule)) rules = insert rules index (place, rule)
edited_by place (Act (Remove g id)) rules = without_id id rules
edited_by place _ rules = rules

-- an allowed insert or remove changes the table of the group that it names; a join names a group too, and changes no table
abbrev pub edited : List ℕ → Rules → ℕ × Record → Rules
edited g rules p =
    if is_allowed p.1.verdict && is_named (named p.1.entry.op) g then edited_by p.0 p.1.entry.op rules else rules

-- the table of a group after the records, the first of which stands at place 1
abbrev pub rules_of : List Record → List ℕ → Rules
rules_of records g = fold (edited g) [] (enumerate_from 1 records)
