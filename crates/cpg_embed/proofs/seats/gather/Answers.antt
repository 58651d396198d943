use Rattle.std.proofs.Common.{sym, refl, arith}
use Rattle.cpg_record.proofs.Backwards.{all_found, found_before, one_or_none}
use Rattle.cpg_embed.specs.Seats.{seat_at, seats_from, AreEnded}
use Rattle.cpg_embed.proofs.seats.gather.Goals as goal

pub loop-index-preserved : goal.loop-index-preserved
loop-index-preserved c =
    let found = found_before seats_from seat_at AreEnded (λ place r later. refl) (λ place r later. one_or_none _ place) c.loop-index.index c.index-records-index.result c.args.records.now c.loop-index.places.items c.put_seat.new.places.items
    c.loop-index.ended.keys c.put_ended.new.ended.keys (omega arith) c.loop-index.auto.index (sym c.index-records-index.is)
    c.loop-index.invariant.put c.loop-index.invariant.known c.in_ok-put_seat.ensures.ok c.in_ok-put_ended.ensures.ok
    in record { put = found.0; known = found.1 }

pub returns-clause-ok : goal.returns-clause-ok
returns-clause-ok c =
    all_found seats_from c.loop-index.index c.args.records.now c.loop-index.places.items (omega arith) c.loop-index.invariant.put
