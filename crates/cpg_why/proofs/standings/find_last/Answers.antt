use Rattle.std.proofs.Common.{◌≡◌, ◌++◌, ◌+◌, [], ◌∷◌, take, sym, ap, ◌∙◌}
use Rattle.std.proofs.lemmas.List.{take_more}
use Rattle.cpg_record.specs.declared.records.Record.{Record}
use Rattle.cpg_why.proofs.Tried.{seen_one_more}
use Rattle.cpg_why.proofs.standings.find_last.Goals as goal

pub loop-index-preserved : goal.loop-index-preserved
loop-index-preserved c =
    let index = c.loop-index.index in
    let r = c.index-records-index.result in
    let more : take (index + 1) c.args.records.now ≡ take index c.args.records.now ++ r ∷ [] =
    take_more c.args.records.now index r c.loop-index-test.true ∙ ap (λ (e : Record). take index c.args.records.now ++ e ∷ []) (sym c.index-records-index.is) in
    let both =
    seen_one_more c.args.records.now c.args.conn.now index r c.loop-index.seen.0 c.loop-index.seen.1 c.loop-index-test.true more
    c.loop-index.invariant.0 c.loop-index.invariant.1 in
    (c.follow-seen.ensures.last ∙ both.0, c.follow-seen.ensures.tried ∙ both.1)
