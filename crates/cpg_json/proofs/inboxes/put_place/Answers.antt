use Rattle.std.proofs.Common.{◌-◌, List, length, get_or, ap, ◌∙◌, arith}
use Rattle.cpg_record.specs.declared.records.Record.{Record}
use Rattle.cpg_record.specs.declared.connections.ConnId.{ConnId}
use Rattle.cpg_record.specs.Connections.{conn_of, is_conn}
use Rattle.cpg_record.specs.Judging.{judged}
use Rattle.cpg_record.proofs.Denials.{each_entry_is_judged}
use Rattle.cpg_judge.proofs.Gathered.{stands}
use Rattle.cpg_json.proofs.Told.{place_put, where_ok}
use Rattle.cpg_json.proofs.inboxes.put_place.Goals as goal

pub bounds-records-place : goal.bounds-records-place
bounds-records-place c = omega (arith, c.requires.place.0, c.requires.place.1, ap length c.records.ensures)

pub count_at-requires : goal.count_at-requires
count_at-requires c = (c.requires.place.0, omega (arith, c.requires.place.1, (each_entry_is_judged c.args.inbox.now.policy.now).0))

pub returns-clause-ok : goal.returns-clause-ok
returns-clause-ok c =
    let there = stands (judged c.args.inbox.now.policy.now) c.args.place c.index-records-place.result c.requires.place.0 c.requires.place.1
    (c.index-records-place.is ∙ ap (λ (l : List Record). get_or l (c.args.place - 1) c.index-records-place.result) c.records.ensures) in
    where_ok c.put_heard.result
    (λ put. place_put (judged c.args.inbox.now.policy.now) c.args.place c.args.inbox.now.conn.now c.index-records-place.result c.is-own.result c.count_at.result c.from.result c.args.inbox.now.front.now c.at.result.now c.args.lines.now.items c.put_own.new.lines.items c.put_heard.new.lines.items
    there (c.is-own.ensures ∙ ap (λ (other : ConnId). is_conn c.args.inbox.now.conn.now other) c.of.ensures) c.count_at.ensures c.from.ensures c.requires.inbox.1 (c.at.ensures (judged c.args.inbox.now.policy.now) c.requires.inbox.0 c.requires.place.1)
    c.in_ok-put_own.ensures.ok put)
    c.put_heard.ensures.ok
