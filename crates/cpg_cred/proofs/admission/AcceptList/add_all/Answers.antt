use Rattle.std.proofs.Common.{◌≡◌, take, ap, ◌∙◌}
use Rattle.cpg_cred.specs.Listed.{with_numbers}
use Rattle.cpg_cred.proofs.Growing.{front_kept}
use Rattle.cpg_cred.proofs.admission.AcceptList.add_all.Goals as goal

pub returns-in-Err-clause-err : goal.returns-in-Err-clause-err
returns-in-Err-clause-err c =
    let users : c.truncate.new.self.keys ≡ c.self.inside.users.keys =
    c.truncate.ensures.keys
    ∙ ap (take c.len-count.result) c.in_ok-add_each.ensures.ok
    ∙ ap (λ count. take count (with_numbers c.self.inside.users.keys c.args.users.now)) c.len-count.ensures.len
    ∙ front_kept c.self.inside.users.keys c.args.users.now in
    ap (λ numbers. record { users = numbers; groups = c.add_each-2.new.numbers.keys }) users
    ∙ ap (λ numbers. record { users = c.self.inside.users.keys; groups = numbers }) c.in-Err.ensures.err
    ∙ c.self.view_is
