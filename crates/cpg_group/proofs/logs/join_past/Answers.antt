use Rattle.std.proofs.Common.{◌≡◌, ◌≤◌, ◌-◌, ℕ, suc, List, length, take, leb, true, false, Some, sym, ap, ◌∙◌, arith}
use Rattle.std.specs.List.{slice_get}
use Rattle.std.specs.List.Sorted.{IsPartitionPoint}
use Rattle.std.proofs.lemmas.Option.{slice_get-get_or}
use Rattle.cpg_record.specs.declared.connections.ConnId.{ConnId}
use Rattle.cpg_record.specs.declared.records.Record.{Record}
use Rattle.cpg_record.specs.Membership.{group_of}
use Rattle.cpg_record.specs.Nexts.{is_made_by}
use Rattle.cpg_record.specs.Places.{places_of}
use Rattle.cpg_group.specs.declared.logs.Stop.{Stop}
use Rattle.cpg_group.specs.ConnectionLogs.{group_at, IsConnectionLog}
use Rattle.cpg_group.proofs.Counted.{count_within, cut_there}
use Rattle.cpg_group.proofs.Stops.{join_none, join_some, place_of}
use Rattle.cpg_group.proofs.logs.join_past.Goals as goal

-- the log is cut where as many stops are passed
cut : (rs : List Record) (conn : ConnId) (last : ℕ) (log : List Stop) (count : ℕ) → IsConnectionLog rs conn log → count ≡ length (places_of (is_made_by conn) (take last rs)) →
    IsPartitionPoint (λ (stop : Stop). leb stop.place last ≡ true) (λ (stop : Stop). leb stop.place last ≡ false) log count
cut rs conn last log count are is = cut_there (is_made_by conn) rs last place_of log are.0 count is

pub returns-then-count-eq0-clause-group : goal.returns-then-count-eq0-clause-group
returns-then-count-eq0-clause-group c =
    λ rs conn last are is. join_none rs conn c.args.log.now last c.args.count are (cut rs conn last c.args.log.now c.args.count are is) c.if-count-eq0.true

pub returns-in-None-clause-group : goal.returns-in-None-clause-group
returns-in-None-clause-group c =
    λ rs conn last are is.
    absurd (omega (arith, c.if-count-eq0.false, c.in-None.ensures.lookup.3, count_within (is_made_by conn) rs last place_of c.args.log.now are.0 c.args.count is))

found : (c : goal.In-Some) (rs : List Record) (conn : ConnId) (last : ℕ) → IsConnectionLog rs conn c.args.log.now → c.args.count ≡ length (places_of (is_made_by conn) (take last rs)) →
    (c.in-Some.stop.now.join ≤ last) × (group_at rs c.in-Some.stop.now.join ≡ group_of (take last rs) conn)
found c rs conn last are is =
    let stands : slice_get c.args.log.now (c.args.count - 1) ≡ Some c.in-Some.stop.now =
    slice_get-get_or c.args.log.now (c.args.count - 1) c.in-Some.stop.now c.in-Some.ensures.lookup.3.0 ∙ ap Some (sym c.in-Some.ensures.lookup.1) in
    let some : c.args.count ≡ suc (c.args.count - 1) = omega (arith, c.if-count-eq0.false) in
    join_some rs conn c.args.log.now last c.args.count (c.args.count - 1) c.in-Some.stop.now are (cut rs conn last c.args.log.now c.args.count are is) some stands

pub returns-in-Some-clause-early : goal.returns-in-Some-clause-early
returns-in-Some-clause-early c = λ rs conn last are is. (found c rs conn last are is).0

pub returns-in-Some-clause-group : goal.returns-in-Some-clause-group
returns-in-Some-clause-group c = λ rs conn last are is. (found c rs conn last are is).1
