use Rattle.std.proofs.Common.{◌≡◌, ◌+◌, ◌++◌, ◌∷◌, [], ℕ, List, take, arith, rules, subst, sym}
use Rattle.cpg_serve.specs.Carrying.{HaveConnected}
use Rattle.cpg_serve.proofs.Begun.{connected_more}
use Rattle.cpg_serve.proofs.Refused.{connected_why}
use Rattle.cpg_serve.proofs.renewing.connect_all.Goals as goal

pub loop-conn-preserved : goal.loop-conn-preserved
loop-conn-preserved c =
    let pushed : c.push.new.self.items ≡ c.loop-conn.numbers.items ++ c.in_ok-number.number ∷ [] = search rules in
    record {
      connected = subst (λ (l : List ℕ). HaveConnected (take (c.loop-conn.conn + 1) c.args.old.now.clients) l c.args.node.now c.connect_one.new.node) (sym pushed)
          (connected_more c.args.old.now c.loop-conn.conn (c.loop-conn.conn + 1) c.loop-conn.numbers.items c.in_ok-number.number c.args.node.now c.loop-conn.node c.connect_one.new.node (omega arith)
          (omega (arith, c.loop-conn-test.true, c.requires)) c.loop-conn.invariant.connected c.in_ok-number.ensures.ok);
      within = omega (arith, c.loop-conn-test.true);
    }

pub returns-in_err-number-clause-why : goal.returns-in_err-number-clause-why
returns-in_err-number-clause-why c =
    let why = connected_why c.args.old.now c.loop-conn.conn (c.loop-conn.conn + 1) c.loop-conn.numbers.items c.args.node.now c.loop-conn.node _ (omega arith) c.loop-conn.invariant.connected c.in_err-number.ensures.why in
    search rules
