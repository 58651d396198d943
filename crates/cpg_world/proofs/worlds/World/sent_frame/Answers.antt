use Rattle.std.proofs.Common.{◌≡◌, sym, subst, ◌∙◌, arith}
use Rattle.cpg_wire.specs.Reading.{frame_of}
use Rattle.cpg_ring.specs.Worlds.{item}
use Rattle.cpg_world_laws.specs.Worlds.{WorldValue}
use Rattle.cpg_world.specs.Runs.{IsSpelledBy}
use Rattle.cpg_world.proofs.Hearing.{There, there}
use Rattle.cpg_world.proofs.worlds.World.sent_frame.Goals as goal

-- the bytes that are read spell the frame of that number
stands : (c : goal.After-index) → There c.self.inside.sent.items c.args.number c.index.result.now
stands c =
    let z = c.if-number-eq0.false in
    let l = c.if-number-len.false in
    let e = c.len.ensures in
    there c.reads_what_is_spelled.ensures.again c.self.inside.sent.items c.args.number c.index.result.now c.self.invariant.spelled (omega arith) (omega arith) (sym c.index.ensures)

pub returns-clause-spelled : goal.returns-clause-spelled
returns-clause-spelled c = subst (λ (w : WorldValue). IsSpelledBy (item w.sent c.args.number) c.index.result.now) c.self.view_is (stands c).spells

pub returns-clause-frame : goal.returns-clause-frame
returns-clause-frame c = subst (λ (w : WorldValue). frame_of c.index.result.now ≡ item w.sent c.args.number) c.self.view_is ((stands c).read ∙ sym (stands c).is)
