use Rattle.std.proofs.Common.{◌≡◌, ◌≢◌, ◌+◌, sym, ap, ◌∙◌, ⊎_elim, arith, true≢false}
use Rattle.std.proofs.lemmas.Bool.{cases_eq}
use Rattle.cpg_ring.specs.States.{is_held}
use Rattle.cpg_ring.proofs.Amounts.{is_some_of}
use Rattle.cpg_ring.proofs.Keys.{above_found, above_none}
use Rattle.cpg_ring.proofs.held.Held.holds_above.Goals as goal

pub returns-then-seq-delivered : goal.returns-then-seq-delivered
returns-then-seq-delivered c =
    let d = c.delivered-delivered.result in
    let low = c.if-seq-delivered.true in
    let there = c.delivered-delivered.ensures.held d (omega arith) (omega arith) in
    sym (above_found c.args.self.now.places c.args.seq d low (is_some_of c.args.self.now.places d there))

pub returns-then-holds : goal.returns-then-holds
returns-then-holds c =
    let low = c.loop-i.auto.i in
    sym (above_found c.args.self.now.places c.args.seq (c.loop-i.i + 1) (omega arith) (sym c.holds.ensures ∙ c.if-holds.true))

pub loop-i-preserved : goal.loop-i-preserved
loop-i-preserved c = λ place high there. ⊎_elim
    (λ (same : place ≡ c.loop-i.i + 1). absurd (true≢false (sym (is_some_of c.args.self.now.places place there) ∙ (ap (is_held c.args.self.now.places) same ∙ (sym c.holds.ensures ∙ c.if-holds.false)))))
    (λ (apart : place ≢ c.loop-i.i + 1). c.loop-i.invariant place (omega arith) there)
    (cases_eq place (c.loop-i.i + 1))

pub returns : goal.returns
returns c =
    let end = c.loop-i-test.false in
    sym (above_none c.args.self.now.places c.args.seq (λ place there. let l = c.delivered-delivered.ensures.window place there in c.loop-i.invariant place (omega arith) there))
