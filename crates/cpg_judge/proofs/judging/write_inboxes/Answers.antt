use Rattle.std.proofs.Common.{◌<◌, ◌++◌, ◌+◌, length, take, drop, sym, subst, ◌∙◌, append_assoc, arith}
use Rattle.std.specs.Prelude.{Ok, Err}
use Rattle.std.specs.List.{flat_map}
use Rattle.cpg_record.specs.Judging.{judged}
use Rattle.cpg_text.proofs.Lined.{flat_around, flat_one_more}
use Rattle.cpg_judge.specs.Gathering.{Gathers}
use Rattle.cpg_judge.specs.Judging.{inbox_by, Form}
use Rattle.cpg_judge.proofs.Behind.{gathers_stop, gathers_then}
use Rattle.cpg_judge.proofs.judging.write_inboxes.Goals as goal

pub returns-in-Err : goal.returns-in-Err
returns-in-Err g c =
    let within : c.loop-conn.conn-index < length c.args.conns.now = omega arith in
    let of = inbox_by (g.P.PutsJudged.form c.args.puts.now) (judged c.args.policy.now) in
    let front = flat_map of (take c.loop-conn.conn-index c.args.conns.now) in
    let rest = flat_map of (drop (c.loop-conn.conn-index + 1) c.args.conns.now) in
    let one = subst (λ (form : Form). Gathers (Err c.in-Err.refusal) (g.W.Write.contents c.loop-conn.writer) c.loop-conn.lines.items (g.W.Write.contents c.write_inbox.new.writer) c.write_inbox.new.lines.items (inbox_by form (judged c.args.policy.now) c.conn-item.result)) c.loop-conn.invariant.same c.in-Err.ensures.lines in
    rw (flat_around of c.args.conns.now c.loop-conn.conn-index c.conn-item.result within (sym c.conn-item.is) ∙ sym (append_assoc front (of c.conn-item.result) rest))
    (gathers_stop _ _ _ _ _ (front ++ of c.conn-item.result) rest (gathers_then _ _ _ _ _ _ _ front (of c.conn-item.result) c.loop-conn.invariant.gathered one))

pub loop-conn-preserved : goal.loop-conn-preserved
loop-conn-preserved g c =
    let within : c.loop-conn.conn-index < length c.args.conns.now = omega arith in
    let of = inbox_by (g.P.PutsJudged.form c.args.puts.now) (judged c.args.policy.now) in
    let more = flat_one_more of c.args.conns.now c.loop-conn.conn-index c.conn-item.result within (sym c.conn-item.is) in
    let one = subst (λ (form : Form). Gathers (Ok tt) (g.W.Write.contents c.loop-conn.writer) c.loop-conn.lines.items (g.W.Write.contents c.write_inbox.new.writer) c.write_inbox.new.lines.items (inbox_by form (judged c.args.policy.now) c.conn-item.result)) c.loop-conn.invariant.same c.in-Ok.ensures.lines in
    record {
      gathered = rw more (gathers_then _ _ _ _ _ _ _ (flat_map of (take c.loop-conn.conn-index c.args.conns.now)) (of c.conn-item.result) c.loop-conn.invariant.gathered one);
      same = c.in-Ok.ensures.same ∙ c.loop-conn.invariant.same;
      taken = c.in-Ok.ensures.taken;
    }
