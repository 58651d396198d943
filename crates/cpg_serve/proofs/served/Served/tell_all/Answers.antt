use Rattle.std.proofs.Common.{◌≤◌, ◌+◌, ◌∙◌, arith, inl, inr, length, ⊎_elim}
use Rattle.cpg_entry.specs.declared.ranges.TheConstants.{MOST_CONNECTIONS}
use Rattle.cpg_serve.proofs.Settled.{tell_same, told_more, told_some, told_every}
use Rattle.cpg_serve.proofs.served.Served.tell_all.Goals as goal

pub loop-conn-preserved : goal.loop-conn-preserved
loop-conn-preserved c = record {
  told = told_more c.args.self.now c.loop-conn.self c.tell.new.self c.loop-conn.conn (c.loop-conn.conn + 1) (omega arith) c.loop-conn.invariant.told c.in_ok-tell.ensures.did;
  within = omega (arith, c.loop-conn-test.true);
}

pub returns-in_err-tell-clause-moves : goal.returns-in_err-tell-clause-moves
returns-in_err-tell-clause-moves c = told_some c.args.self.now c.loop-conn.self c.tell.new.self c.loop-conn.conn (c.loop-conn.conn + 1) _ c.loop-conn.invariant.told c.tell.ensures.did

pub returns-in_err-tell-clause-ring : goal.returns-in_err-tell-clause-ring
returns-in_err-tell-clause-ring c = (tell_same (c.loop-conn.conn + 1) c.loop-conn.self c.tell.new.self _ _ c.tell.ensures.did).0 ∙ c.loop-conn.invariant.told.ring

pub returns-clause-told : goal.returns-clause-told
returns-clause-told c =
    told_every c.args.self.now c.loop-conn.self c.loop-conn.conn MOST_CONNECTIONS c.loop-conn.invariant.told
    (⊎_elim
    (λ (all : length c.args.self.now.desks ≤ c.last_conn-last.result). inl (omega (arith, all, c.loop-conn-test.false)))
    (λ (most : MOST_CONNECTIONS ≤ c.last_conn-last.result). inr (omega (arith, most, c.loop-conn-test.false)))
    c.last_conn-last.ensures)
