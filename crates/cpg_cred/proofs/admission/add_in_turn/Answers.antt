use Rattle.std.proofs.Common.{◌≡◌, ◌≢◌, false, ◌+◌, ◌==◌, ◌++◌, take, drop, get_or, sym, ap, subst, ◌∙◌}
use Rattle.std.proofs.lemmas.List.{drop_more, take-append-drop}
use Rattle.std.specs.List.{list_any}
use Rattle.cpg_cred.specs.Listed.{with_numbers}
use Rattle.cpg_cred.proofs.Growing.{front_kept, grows_with}
use Rattle.cpg_cred.proofs.admission.add_in_turn.Goals as goal

pub returns-in-Err-clause-err : goal.returns-in-Err-clause-err
returns-in-Err-clause-err c =
    let added = take c.loop-number.number-index c.args.more.now in
    c.truncate.ensures.keys
    ∙ ap (take c.len-count.result) (c.in-Err.ensures.err ∙ c.loop-number.invariant)
    ∙ ap (λ count. take count (with_numbers c.args.numbers.now.keys added)) c.len-count.ensures.len
    ∙ front_kept c.args.numbers.now.keys added

pub returns-in-Err-clause-grows : goal.returns-in-Err-clause-grows
returns-in-Err-clause-grows c =
    let old = c.args.numbers.now.keys in
    let more = c.args.more.now in
    let index = c.loop-number.number-index in
    let number = get_or more index 0 in
    let whole = sym (take-append-drop index more) ∙ ap (λ rest. take index more ++ rest) (drop_more more index 0 c.loop-number-test.true) in
    let lacks = subst (λ keys. list_any (λ listed. number == listed) keys ≡ false) c.loop-number.invariant c.in-Err.ensures.absent in
    subst (λ numbers. with_numbers old numbers ≢ old) (sym whole) (grows_with old (take index more) number (drop (index + 1) more) lacks)
