use Rattle.std.proofs.Common.{◌≡◌, Bool, is_some, rules, subst, sym, true}
use Rattle.cpg_node.specs.Nodes.{open_client}
use Rattle.cpg_serve.specs.Carrying.{rest_for}
use Rattle.cpg_serve.specs.Coming.{IsTold}
use Rattle.cpg_serve.proofs.Coming.{took_is}
use Rattle.cpg_serve.proofs.Drained.{told_one}
use Rattle.cpg_serve.proofs.Refused.{take_why}
use Rattle.cpg_serve.proofs.renewing.take_one.Goals as goal

pub returns : goal.returns
returns c = record {
  ok = (
    took_is c.args.conn c.args.node.now c.take.new.self c.in_ok-event.ensures.ok,
    subst (λ (b : Bool). IsTold b (rest_for c.args.node.now c.args.conn) (rest_for c.take.new.self c.args.conn)) (sym c.was_one.ensures)
        (told_one c.args.conn c.args.node.now c.take.new.self _ c.in_ok-event.ensures.answer c.in_ok-event.ensures.ok),
  );
  memory = tt;
}

pub returns-in_err-event-clause-memory : goal.returns-in_err-event-clause-memory
returns-in_err-event-clause-memory c =
    let some : is_some (open_client c.args.node.now c.args.conn) ≡ true = search rules in
    let why = take_why c.args.node.now c.args.conn (open_client c.args.node.now c.args.conn) _ some c.in_err-event.ensures.answer in
    search rules
