use Rattle.std.proofs.Common.{◌++◌, codes, ap, ◌∙◌, append_assoc}
use Rattle.cpg_entry.specs.declared.entries.Entry.{Entry}
use Rattle.cpg_json.specs.Objects.{head_of, more}
use Rattle.cpg_json.specs.Records.{asked_fields, outcome_fields}
use Rattle.cpg_json.proofs.Fields.{two_put}
use Rattle.cpg_json.proofs.Told.{where_ok}
use Rattle.cpg_json.proofs.records.put_record.Goals as goal

pub returns-clause-ok : goal.returns-clause-ok
returns-clause-ok c =
    let front = head_of (codes "record") c.args.head.now in
    let begun = c.in_ok-put_head.ensures.ok ∙ append_assoc c.args.line.now.items (codes "{") front in
    let asked = c.in_ok-put_asked.ensures.ok in
    where_ok c.put_end.result
    (two_put c.args.line.now.items front c.put_head.new.line.items c.put_asked.new.line.items c.put_outcome.new.line.items c.put_end.new.line.items
    (asked_fields c.args.place c.args.past.now.entry) (outcome_fields c.args.past.now) begun asked c.in_ok-put_outcome.ensures.ok)
    c.put_end.ensures.ok
