use Rattle.bytes.specs.declared.shared.Bytes.{Bytes}
use Rattle.std.proofs.Common.{Vec, Global, ◌≡◌, ◌∙◌, length, true, All, Option, Some, Ok, IfSome, refl, sym, ap, subst, arith}
use Rattle.cpg_ring.specs.States.{Frame}
use Rattle.cpg_node.specs.Calls.{answers_to}
use Rattle.cpg_node.specs.Answers.{IsFrameAnswer, CanBeSpelled}
use Rattle.cpg_world_laws.specs.declared.events.WorldEvent.{WorldEvent}
use Rattle.cpg_world_laws.specs.declared.events.WorldEvent.TheVariants.{Frame as Arrival}
use Rattle.cpg_world_laws.specs.declared.replies.Reply.TheVariants as reply
use Rattle.cpg_board.specs.declared.words.View.{View}
use Rattle.cpg_board.specs.Words.{is_counted}
use Rattle.cpg_history.specs.Histories.{Came, FrontValue, told, front}
use Rattle.cpg_history.specs.Members.{MemberValue, ParcelValue, HasTrace, IsMember, Replied, WereSent, IsPenOf, member}
use Rattle.cpg_history.proofs.Coming.{is_member}
use Rattle.cpg_history.specs.Traces.{HasNumber, WasRecorded, recorded_of}
use Rattle.cpg_history.proofs.Hearing.{heard, parcelled, frame_recorded}
use Rattle.cpg_history.proofs.Noting.{first_number, has_noted}
use Rattle.cpg_history.proofs.members.Member.frame_as.Given as given
use Rattle.cpg_history.proofs.members.Member.frame_as.Goals as goal
use Rattle.cpg_history.proofs.members.Member.frame_as.Goals.{After-note}

-- the frame's event came to the history
came : (g : given.Over) → (c : After-note g) → Came (is_counted g.B.HistoryName.table) (told c.self.inside.pen (front c.parcel.inside.front)) (Arrival c.self.inside.id c.parcel.inside.front.number) c.add-stamp.result c.add-stamp.new.pen.seen
came g c =
    let is : g.E.Happens.event ≡ Arrival c.self.inside.id c.parcel.inside.front.number = c.requires ∙ (ap (λ (m : MemberValue). Arrival m.id c.args.parcel.number) (sym c.self.view_is) ∙ ap (λ (p : ParcelValue). Arrival c.self.inside.id p.number) (sym c.parcel.view_is)) in
    subst (λ (v : View). Came (is_counted g.B.HistoryName.table) v (Arrival c.self.inside.id c.parcel.inside.front.number) c.add-stamp.result c.add-stamp.new.pen.seen) c.tell.ensures
    (subst (λ (e : WorldEvent). Came (is_counted g.B.HistoryName.table) c.tell.new.pen e c.add-stamp.result c.add-stamp.new.pen.seen) is c.add-stamp.ensures.came)

-- the node took the frame that the bytes spell
taken : (g : given.Over) → (c : After-note g) → IsFrameAnswer (λ (list : Vec (Bytes Global) Global). list.items) c.self.inside.station.node (Some c.parcel.invariant.0.frame) (Ok c.in-Ok.frames) c.shared_frame.new.self.node
taken g c = subst (λ (o : Option Frame). IsFrameAnswer (λ (list : Vec (Bytes Global) Global). list.items) c.self.inside.station.node o (Ok c.in-Ok.frames) c.shared_frame.new.self.node) c.parcel.invariant.0.reads c.in-Ok.ensures.answer

-- what the member is told
replies : (g : given.Over) → (c : After-note g) → Replied g.B.HistoryName.start (member c.self.inside.id c.self.inside.station c.self.inside.spare c.self.inside.pen.seen c.self.inside.trace) (Arrival c.self.inside.id c.parcel.inside.front.number) (Ok (reply.Sent (length c.in-Ok.frames.items)))
    (member c.self.inside.id c.shared_frame.new.self c.self.inside.spare c.add-stamp.new.pen.seen c.note.new.self)
replies g c =
    let a = taken g c in
    heard c.reads_what_is_spelled.ensures.again g.B.HistoryName.start c.self.inside.pen c.parcel.inside.front c.add-stamp.result c.self.inside.id c.self.inside.station c.shared_frame.new.self c.self.inside.spare c.add-stamp.new.pen.seen c.parcel.inside.bytes c.in-Ok.frames.items c.parcel.invariant.0 (came g c) (c.self.invariant.0.holds c.if-self.false).2 a.0 a.1 a.2 c.self.inside.trace c.note.new.self

pub invariant_of-result : goal.invariant_of-result
invariant_of-result g c =
    let at = (goal.at.invariant_of-result g c).After-note in
    let a = taken g at in
    let range = subst (λ (o : Option Frame). IfSome o (λ fr. All CanBeSpelled (answers_to c.self.inside.station.node fr))) c.parcel.invariant.0.reads c.in-Ok.ensures.range in
    let stand = parcelled c.reads_what_is_spelled.ensures.again g.B.HistoryName.start c.self.inside.pen c.parcel.inside.front c.add-stamp.result c.self.inside.id c.self.inside.station c.shared_frame.new.self c.self.inside.spare c.add-stamp.new.pen.seen c.parcel.inside.bytes c.in-Ok.frames.items c.parcel.invariant.0 (came g at) (c.self.invariant.0.holds c.if-self.false).2 a.0 a.1 a.2 range in
    subst (λ (f : FrontValue). WereSent g.B.HistoryName.start f.seen f.number c.in-Ok.frames.items × (is_counted g.B.HistoryName.table ≡ true → HasNumber g.B.HistoryName.start f.seen c.add-stamp.result 0 f.number)) (sym c.front-front.ensures.front)
    (stand, λ counted. first_number counted g.B.HistoryName.start (told c.self.inside.pen (front c.parcel.inside.front)) (Arrival c.self.inside.id c.parcel.inside.front.number) c.add-stamp.result c.self.inside.station.node c.add-stamp.new.pen.seen (came g at) (c.self.invariant.0.holds c.if-self.false).2)

pub invariant_of-self : goal.invariant_of-self
invariant_of-self g c =
    let at = (goal.at.invariant_of-self g c).After-note in
    let start = g.B.HistoryName.start in
    let m = c.self.inside in
    let event = Arrival m.id c.parcel.inside.front.number in
    let i = c.self.invariant.0.holds c.if-self.false in
    let a = taken g at in
    let answer = replies g at in
    let pen : IsPenOf start c.add-stamp.new.pen m.id c.shared_frame.new.self.node = (ap (λ (v : View). v.from) c.add-stamp.ensures.pen ∙ (ap (λ (v : View). v.from) c.tell.ensures ∙ i.0), ap (λ (v : View). v.to) c.add-stamp.ensures.pen ∙ (ap (λ (v : View). v.to) c.tell.ensures ∙ i.1), answer.now) in
    let full = c.in-Ok.frames.ok.0 in
    let count : length c.in-Ok.frames.items ≡ c.len.result = omega (arith, full, c.len.ensures) in
    let written = Arrival m.id c.parcel.inside.index in
    let one : is_counted g.B.HistoryName.table ≡ true → WasRecorded start c.add-stamp.new.pen.seen (recorded_of c.add-stamp.result c.len.result c.parcel.inside.source written) = λ counted. subst (λ n. WasRecorded start c.add-stamp.new.pen.seen (recorded_of c.add-stamp.result n c.parcel.inside.source written)) count
    (frame_recorded c.reads_what_is_spelled.ensures.again g.B.HistoryName.start c.self.inside.pen c.parcel.inside.front c.add-stamp.result c.self.inside.id c.self.inside.station c.shared_frame.new.self c.self.inside.spare c.add-stamp.new.pen.seen c.parcel.inside.bytes c.in-Ok.frames.items c.parcel.invariant.0 (came g at) (c.self.invariant.0.holds c.if-self.false).2 a.0 a.1 a.2 c.parcel.inside.source c.parcel.inside.index counted (c.parcel.invariant.1 counted)) in
    subst (λ (v : View). IsMember start m.id c.shared_frame.new.self m.spare v × HasTrace (is_counted g.B.HistoryName.table) start m.id m.spare v.seen c.note.new.self) (sym c.front-front.ensures.pen) (
      is_member start m.id c.shared_frame.new.self m.spare c.add-stamp.new.pen c.self.invariant.0.begins c.if-self.false pen,
      has_noted start (told m.pen (front c.parcel.inside.front)) event event c.add-stamp.result m.id m.spare c.add-stamp.new.pen.seen m.trace c.note.new.self c.len.result c.parcel.inside.source (Some written) c.self.invariant.1 c.if-self.false refl refl (came g at) one c.note.ensures,
    )

pub returns-in-Ok-clause-ok : goal.returns-in-Ok-clause-ok
returns-in-Ok-clause-ok g c =
    let start = g.B.HistoryName.start in
    let sent = Ok (reply.Sent (length c.in-Ok.frames.items)) in
    let after : View → MemberValue = λ v. member c.self.inside.id c.shared_frame.new.self c.self.inside.spare v.seen c.note.new.self in
    subst (λ (v : View). Replied start c.args.self.now (Arrival c.args.self.now.id c.args.parcel.number) sent (after v)) (sym c.front-front.ensures.pen)
    (subst (λ (p : ParcelValue). Replied start c.args.self.now (Arrival c.args.self.now.id p.number) sent (after c.add-stamp.new.pen)) c.parcel.view_is
    (subst (λ (m : MemberValue). Replied start m (Arrival m.id c.parcel.inside.front.number) sent (after c.add-stamp.new.pen)) c.self.view_is (replies g (goal.at.returns-in-Ok-clause-ok g c).After-note)))
