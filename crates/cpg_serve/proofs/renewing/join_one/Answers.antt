use Rattle.std.proofs.Common.{◌≡◌, ◌∷◌, [], false, length, rules, subst, true}
use Rattle.std.specs.Prelude.{IfErr}
use Rattle.std.proofs.lemmas.Result.{on_ok_weaker}
use Rattle.cpg_cred.specs.declared.refusals.Refusal.TheVariants as refusal
use Rattle.cpg_record.specs.Membership.{Membership}
use Rattle.cpg_serve.specs.Carrying.{HaveJoined, number_at}
use Rattle.cpg_serve.specs.Refusals.{WhyNotJoined}
use Rattle.cpg_serve.proofs.Begun.{joined_at}
use Rattle.cpg_serve.proofs.Refused.{absent_seat, join_by, other_seat, own_is, own_not, unseated}
use Rattle.cpg_serve.proofs.renewing.join_one.Goals as goal

pub returns-in-None-clause-why : goal.returns-in-None-clause-why
returns-in-None-clause-why c = λ es b.
    let one : Membership = record { group = c.one.inside.group; member = c.one.inside.member } in
    let number : c.number_at-number.result ≡ number_at c.args.numbers.now one.member.conn = search rules in
    subst (λ (m : Membership). WhyNotJoined c.args.numbers.now c.args.node.now (length es) (m ∷ []) refusal.NoConnection) c.one.view_is
    (unseated c.args.numbers.now one c.args.node.now (length es) (absent_seat c.args.numbers.now one c.args.node.now c.number_at-number.result number c.in-None.ensures))

pub returns-then-not-is_own-clause-why : goal.returns-then-not-is_own-clause-why
returns-then-not-is_own-clause-why c = λ es b.
    let one : Membership = record { group = c.one.inside.group; member = c.one.inside.member } in
    let number : c.number_at-number.result ≡ number_at c.args.numbers.now one.member.conn = search rules in
    let apart : c.is_own.result ≡ false = search rules in
    subst (λ (m : Membership). WhyNotJoined c.args.numbers.now c.args.node.now (length es) (m ∷ []) refusal.NoConnection) c.one.view_is
    (unseated c.args.numbers.now one c.args.node.now (length es)
    (other_seat c.args.numbers.now one c.args.node.now c.number_at-number.result c.in-Some.client number c.in-Some.ensures (own_not c.in-Some.client one c.is_own.result (search rules) apart)))

pub returns-in_ok-group-in-Some : goal.returns-in_ok-group-in-Some
returns-in_ok-group-in-Some c =
    let one : Membership = record { group = c.one.inside.group; member = c.one.inside.member } in
    let number : c.number_at-number.result ≡ number_at c.args.numbers.now one.member.conn = search rules in
    let group : c.in_ok-group-in-Some.group ≡ one.group = search rules in
    let same : c.is_own.result ≡ true = search rules in
    let own = own_is c.in-Some.client one c.is_own.result (search rules) same in
    record {
      ok = on_ok_weaker c.enter.result
          (λ entered. subst (λ (m : Membership). HaveJoined c.args.numbers.now (m ∷ []) c.args.node.now c.enter.new.node) c.one.view_is
          (joined_at c.args.numbers.now one c.number_at-number.result c.in_ok-group-in-Some.group c.args.node.now c.enter.new.node c.in-Some.client number group c.in-Some.ensures own.0 own.1 entered))
          c.enter.ensures.ok;
      why = λ es b. subst (λ (m : Membership). IfErr c.enter.result (λ why. WhyNotJoined c.args.numbers.now c.args.node.now (length es) (m ∷ []) why)) c.one.view_is
          (join_by c.args.numbers.now one c.number_at-number.result c.in_ok-group-in-Some.group c.args.node.now c.in-Some.client es c.enter.result c.in-Some.ensures group b c.enter.ensures.why);
    }
