use Rattle.std.proofs.Common.{◌++◌, ℕ, List, sym, ap, ◌∙◌, append_assoc, arith}
use Rattle.std.specs.List.{concat}
use Rattle.std.proofs.lemmas.List.Folds.{concat-append}
use Rattle.cpg_record.specs.Judging.{judged}
use Rattle.cpg_record.proofs.Denials.{each_entry_is_judged}
use Rattle.cpg_judge.specs.Filtering.{lines_at}
use Rattle.cpg_judge.specs.FilterSteps.{lines_between}
use Rattle.cpg_judge.proofs.Between.{all_told, one_place_more}
use Rattle.cpg_judge.proofs.filter.inboxes.put_places.Goals as goal

pub put_place-requires : goal.put_place-requires
put_place-requires c =
    let next = c.in-Some.ensures in
    (omega (arith, next.above), omega (arith, next.within, (each_entry_is_judged c.args.inbox.now.policy.now).0))

pub loop-place-preserved : goal.loop-place-preserved
loop-place-preserved c =
    let f = c.args.inbox.now.filter.now in
    let rs = judged c.args.inbox.now.policy.now in
    let conn = c.args.inbox.now.conn.now in
    let next = c.in-Some.ensures in
    let front = lines_between f rs conn 0 c.loop-place.after in
    let some = lines_at f rs conn c.in-Some.place in
    record {
      within = next.within;
      put = c.in_ok-put_place.ensures.ok ∙ ap (λ (l : List ℕ). l ++ concat some) c.loop-place.invariant.put ∙ append_assoc c.args.lines.now.items (concat front) (concat some)
          ∙ ap (λ (l : List ℕ). c.args.lines.now.items ++ l) (sym (concat-append front some) ∙ ap concat (sym (one_place_more f rs conn c.loop-place.after c.in-Some.place next)));
    }

pub returns-clause-ok : goal.returns-clause-ok
returns-clause-ok c =
    rw (all_told c.args.inbox.now.filter.now (judged c.args.inbox.now.policy.now) c.args.inbox.now.conn.now c.loop-place.after c.loop-place.invariant.within c.in_default.ensures) c.loop-place.invariant.put
