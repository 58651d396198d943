use Rattle.std.proofs.Common.{reverse, refl, sym, ap, ◌∙◌, arith}
use Rattle.std.proofs.lemmas.List.{reverse-reverse}
use Rattle.cpg_record.specs.Membership.{memberships}
use Rattle.cpg_record.proofs.Backwards.{all_found, found_before}
use Rattle.cpg_serve.specs.Carrying.{lasting, AreEnded}
use Rattle.cpg_serve.proofs.Gathered.{same_backwards}
use Rattle.cpg_serve.proofs.carrying.gather.Goals as goal

pub loop-index-preserved : goal.loop-index-preserved
loop-index-preserved c =
    let found = found_before (λ place. memberships) (λ place. lasting) AreEnded (λ place r later. refl) (λ place. same_backwards) c.loop-index.index c.index-records-index.result c.args.records.now c.loop-index.all.items
    c.put_taken.new.all.items c.loop-index.ended.keys c.put_ended.new.ended.keys (omega arith) c.loop-index.auto.index (sym c.index-records-index.is)
    c.loop-index.invariant.put c.loop-index.invariant.known c.in_ok-put_taken.ensures.ok c.in_ok-put_ended.ensures.ok
    in record { put = found.0; known = found.1 }

pub returns-clause-ok : goal.returns-clause-ok
returns-clause-ok c =
    c.reverse.ensures.items ∙ ap reverse (all_found (λ place. memberships) c.loop-index.index c.args.records.now c.loop-index.all.items (omega arith) c.loop-index.invariant.put) ∙ reverse-reverse (memberships c.args.records.now)
