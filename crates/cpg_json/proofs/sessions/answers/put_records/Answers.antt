use Rattle.cpg_cluster.proofs.Put.{known_put}
use Rattle.cpg_json.specs.Records.{record_json}
use Rattle.cpg_json.proofs.sessions.answers.put_records.Goals as goal

pub loop-index-preserved : goal.loop-index-preserved
loop-index-preserved c = known_put (record_json c.args.head.now) c.args.text.now.items c.loop-index.text.items c.put_record.new.line.items c.args.seat.now c.loop-index.index c.known.result.now c.known.ensures c.loop-index.invariant c.in_ok-put_record.ensures.ok
