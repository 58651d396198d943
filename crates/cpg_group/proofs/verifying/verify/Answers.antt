use Rattle.std.proofs.Common.{◌≡◌, ◌<◌, ◌++◌, ◌∷◌, [], List, length, take, Bool, sym, ap, subst, ◌∙◌, arith}
use Rattle.std.specs.Bool.{IsTrue, OnTrue}
use Rattle.cpg_entry.specs.declared.entries.Entry.{Entry}
use Rattle.cpg_record.specs.declared.records.Record.{Record}
use Rattle.cpg_record.specs.Judging.{judged, record_of, entries_of}
use Rattle.cpg_group.proofs.Applying.{AreJudged-more, entries_of-more, judgement_at}
use Rattle.cpg_group.proofs.verifying.verify.Goals as goal

pub loop-past-preserved : goal.loop-past-preserved
loop-past-preserved c =
    let within : c.loop-past.past-index < length c.args.records.now = omega arith in
    let seen = c.loop-past.invariant.seen in
    let same : IsTrue c.in_ok-confirm.field-0 = c.if-not-branch.false in
    let judgement : c.past-item.result ≡ record_of (judged (entries_of (take c.loop-past.past-index c.args.records.now))) c.past-item.result.entry =
    c.in_ok-confirm.ensures.ok.0 same ∙ ap (λ (es : List Entry). record_of (judged es) c.past-item.result.entry) seen in
    let taken : c.confirm.new.policy ≡ c.loop-past.policy ++ c.past-item.result.entry ∷ [] =
    subst (λ (b : Bool). OnTrue b (c.confirm.new.policy ≡ c.loop-past.policy ++ c.past-item.result.entry ∷ [])) c.if-not-branch.false c.in_ok-confirm.ensures.taken in
    record {
      seen = taken ∙ ap (λ (es : List Entry). es ++ c.past-item.result.entry ∷ []) seen
          ∙ sym (entries_of-more c.args.records.now c.loop-past.past-index c.past-item.result within c.past-item.is);
      sound = AreJudged-more c.args.records.now c.loop-past.past-index c.past-item.result within c.past-item.is c.loop-past.invariant.sound judgement;
    }

pub returns-then-not-branch-clause-ok : goal.returns-then-not-branch-clause-ok
returns-then-not-branch-clause-ok c =
    let within : c.loop-past.past-index < length c.args.records.now = omega arith in
    let past : take c.loop-past.past-index c.args.records.now ≡ judged c.loop-past.policy =
    c.loop-past.invariant.sound ∙ ap judged (sym c.loop-past.invariant.seen) in (
      (λ t. absurd (cc)),
      (λ are.
          let judgement : c.past-item.result ≡ record_of (judged c.loop-past.policy) c.past-item.result.entry =
          judgement_at c.args.records.now c.loop-past.past-index c.past-item.result within c.past-item.is are.1
          ∙ ap (λ (rs : List Record). record_of rs c.past-item.result.entry) past in
          sym c.if-not-branch.true ∙ c.in_ok-confirm.ensures.ok.1 judgement),
    )
