use Rattle.std.proofs.Common.{None, Some}
use Rattle.std.specs.Option.{option_copied}
use Rattle.cpg_group.proofs.Between.{group_before, next_is}
use Rattle.cpg_group.proofs.nexts.find_next.Goals as goal

pub returns-in-None-clause-told : goal.returns-in-None-clause-told
returns-in-None-clause-told c =
    let counted = c.count_own-passed.ensures c.args.records.now c.args.conn.now c.requires.log in
    next_is c.args.records.now c.args.conn.now c.args.after c.count_own-passed.result c.join_past-join.result c.own_at.result c.next_heard-heard.result.0 (option_copied c.find_joined.result) counted
    (c.own_at.ensures c.args.records.now c.args.conn.now c.requires.log) (c.join_past-join.ensures.group c.args.records.now c.args.conn.now c.args.after c.requires.log counted) c.find_joined.ensures c.next_heard-heard.ensures
    None c.in-None.ensures

pub returns-in-Some-clause-told : goal.returns-in-Some-clause-told
returns-in-Some-clause-told c =
    let counted = c.count_own-passed.ensures c.args.records.now c.args.conn.now c.requires.log in
    next_is c.args.records.now c.args.conn.now c.args.after c.count_own-passed.result c.join_past-join.result c.own_at.result c.next_heard-heard.result.0 (option_copied c.find_joined.result) counted
    (c.own_at.ensures c.args.records.now c.args.conn.now c.requires.log) (c.join_past-join.ensures.group c.args.records.now c.args.conn.now c.args.after c.requires.log counted) c.find_joined.ensures c.next_heard-heard.ensures
    (Some c.in-Some.place) c.in-Some.ensures

pub returns-in-Some-clause-join : goal.returns-in-Some-clause-join
returns-in-Some-clause-join c =
    let counted = c.count_own-passed.ensures c.args.records.now c.args.conn.now c.requires.log in
    group_before c.args.records.now c.args.conn.now c.args.after c.count_own-passed.result c.join_past-join.result c.own_at.result c.next_heard-heard.result.0 (option_copied c.find_joined.result) counted
    (c.own_at.ensures c.args.records.now c.args.conn.now c.requires.log) (c.join_past-join.ensures.group c.args.records.now c.args.conn.now c.args.after c.requires.log counted) c.find_joined.ensures c.next_heard-heard.ensures
    c.in-Some.place c.in-Some.ensures
