use Rattle.bytes.specs.declared.shared.Bytes.{Bytes}
use Rattle.std.proofs.Common.{Vec, Global, ◌≡◌, ◌-◌, Option, Some, Ok, Err, IfSome, All, length, sym, ap, ◌∙◌, ◌++◌, subst, get_or, arith}
use Rattle.std.proofs.lemmas.List.{length-map}
use Rattle.cpg_wire.specs.declared.codes.Version.TheVariants.{Two}
use Rattle.cpg_wire.specs.Spelling.{spelling}
use Rattle.cpg_ring.specs.States.{Frame}
use Rattle.cpg_node.specs.Calls.{answers_to}
use Rattle.cpg_node.specs.Answers.{IsFrameAnswer, CanBeSpelled}
use Rattle.cpg_world_laws.specs.declared.events.WorldEvent.TheVariants as events
use Rattle.cpg_world.specs.Kept.{frames_of, IsMet}
use Rattle.cpg_world.proofs.Hearing.{none_there, unsent, There, there, heard_ok, heard_err}
use Rattle.cpg_world.proofs.Sending.{Sent, sends}
use Rattle.cpg_world.proofs.meeting.meet_frame.Goals as goal
use Rattle.cpg_world.proofs.meeting.meet_frame.Goals.{After-index}

pub returns-then-k-len-clause-met : goal.returns-then-k-len-clause-met
returns-then-k-len-clause-met c =
    let l = c.if-k-len.true in
    let e = c.len.ensures in
    unsent (frames_of c.args.sent.now.items) c.args.id c.args.k c.args.node.now (none_there c.args.sent.now.items c.args.k c.requires.spelled (omega arith))

-- the bytes that are read spell frame k
stands : (c : After-index) → There c.args.sent.now.items c.args.k c.index.result.now
stands c =
    let k = c.if-k-eq0.false in
    let l = c.if-k-len.false in
    let e = c.len.ensures in
    let bytes = c.index.result.now in
    there c.reads_what_is_spelled.ensures.again c.args.sent.now.items c.args.k bytes c.requires.spelled (omega arith) (omega arith) (ap (λ xs. get_or xs (c.args.k - 1) bytes) (sym c.in_ok-reserve_ahead.ensures.items) ∙ sym c.index.ensures)

pub returns-in-Err-clause-met : goal.returns-in-Err-clause-met
returns-in-Err-clause-met c =
    let x = c.args.node.now in
    let th = stands (goal.at.returns-in-Err-clause-met c).After-index in
    let a = subst (λ (o : Option Frame). IsFrameAnswer (λ (list : Vec (Bytes Global) Global). list.items) x o (Err c.in-Err.refusal) c.shared_frame.new.self) th.read c.in-Err.ensures.answer in
    subst (λ bs. IsMet (frames_of c.args.sent.now.items) (events.Frame c.args.id c.args.k) x (Err c.in-Err.refusal) c.shared_frame.new.self (frames_of bs)) (sym c.in_ok-reserve_ahead.ensures.items)
    (heard_err (λ (list : Vec (Bytes Global) Global). list.items) (frames_of c.args.sent.now.items) c.args.id c.args.k x th.frame c.in-Err.refusal c.shared_frame.new.self th.is a)

-- the node takes that frame, and its answers are sent
taken : (c : goal.After-drop-list-2) → (th : There c.args.sent.now.items c.args.k c.index.result.now) × IsFrameAnswer (λ (list : Vec (Bytes Global) Global). list.items) c.args.node.now (Some th.frame) (Ok c.in-Ok.list) c.shared_frame.new.self × Sent c.args.sent.now.items c.append.new.self.items (answers_to c.args.node.now th.frame)
taken c =
    let x = c.args.node.now in
    let th = stands (goal.at.returns-clause-met c).After-index in
    let a = subst (λ (o : Option Frame). IsFrameAnswer (λ (list : Vec (Bytes Global) Global). list.items) x o (Ok c.in-Ok.list) c.shared_frame.new.self) th.read c.in-Ok.ensures.answer in
    let range = subst (λ (o : Option Frame). IfSome o (λ f. All CanBeSpelled (answers_to x f))) th.read c.in-Ok.ensures.range in
    let more = c.in_ok-append.ensures.items ∙ (ap (λ bs. bs ++ c.in-Ok.list.items) c.in_ok-reserve_ahead.ensures.items ∙ ap (λ bs. c.args.sent.now.items ++ bs) a.1) in
    (th, a, sends c.reads_what_is_spelled.ensures.again c.args.sent.now.items c.append.new.self.items (answers_to x th.frame) c.requires.spelled range more)

pub returns-clause-met : goal.returns-clause-met
returns-clause-met c =
    let x = c.args.node.now in
    let t = taken c in
    let th = t.0 in
    let a = t.1 in
    let m : length c.in-Ok.list.items ≡ length (answers_to x th.frame) = ap length a.1 ∙ length-map (answers_to x th.frame) (spelling Two) in
    let q = c.len-count.ensures in
    let o = c.in-Ok.list.ok.0 in
    let r : c.len-count.result ≡ length (answers_to x th.frame) = omega arith in
    heard_ok (frames_of c.args.sent.now.items) c.args.id c.args.k x c.shared_frame.new.self th.frame c.len-count.result (frames_of c.append.new.self.items) th.is a.0 a.2 r t.2.frames

pub returns-clause-spelled : goal.returns-clause-spelled
returns-clause-spelled c = (taken c).2.spelled
