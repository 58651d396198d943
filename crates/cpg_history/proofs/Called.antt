-- A session's call that its node has answered: its event, the member after it, and what the session is told.
use Rattle.std.proofs.Common.{◌≡◌, ℕ, Bool, List, length, Option, IfSome, refl, sym, ◌∙◌, subst}
use Rattle.cpg_node.specs.declared.connections.Connection.{Connection}
use Rattle.cpg_ring.specs.States.{Frame}
use Rattle.cpg_world_laws.specs.declared.events.WorldEvent.{WorldEvent}
use Rattle.cpg_world_laws.specs.Worlds.{WorldValue, moves, node_in}
use Rattle.cpg_world_laws.specs.Replies.{Answer, IsAnswerAt}
use Rattle.cpg_station.specs.Serving.{HearsSession}
use Rattle.cpg_station.specs.Stations.{StationValue}
use Rattle.cpg_board.specs.declared.words.View.{View}
use Rattle.cpg_board.specs.Words.{Owns}
use Rattle.cpg_history.specs.Histories.{Came, FrontValue, front, later, told}
use Rattle.cpg_history.specs.declared.members.Member.TheInside.{Inside}
use Rattle.cpg_history.specs.Members.{HasTrace, IsMember, IsPenOf, Told}
use Rattle.cpg_history.specs.Traces.{IsWritten, Notes, TraceValue}
use Rattle.cpg_history.proofs.Coming.{is_member, pen_after, told_after}
use Rattle.cpg_history.proofs.Noting.{has_noted, if_recorded, recorded_quiet}
use Rattle.cpg_history.proofs.Serving.{owns_own, serves, serves_by, serves_own}

module _ {B : Type 0} {k : Bool} (start : WorldValue) (m : Inside B) (stands : IsMember start m.id m.station m.spare m.pen × HasTrace k start m.id m.spare m.pen.seen m.trace) (who : Connection) (heard : HearsSession m.station who)
    {e event : WorldEvent} (is : e ≡ event) (at_node : node_in event ≡ who.id.node) where
  own : node_in event ≡ m.id
  own = at_node ∙ serves_own start m.id m.station m.spare m.pen stands.0 who heard

  mine : IsPenOf start m.pen m.id m.station.node
  mine = serves_by start m.id m.station m.spare m.pen stands.0 who heard

  -- the pen may add it
  pub may_add : Owns m.pen (node_in e)
  may_add = subst (λ (w : WorldEvent). Owns m.pen (node_in w)) (sym is) (owns_own m.pen (node_in event) m.id m.station.node start own mine)

  module _ (f : FrontValue) (after : View) (stamp : ℕ) (came : Came k (told m.pen (front f)) e stamp after.seen) where
    pub told_so : {seen : List WorldEvent} → seen ≡ after.seen → (a : Answer) → ((sent : List Frame) → IsAnswerAt sent event m.station.node a) → Told start f.seen event a seen
    told_so same a answers = subst (Told start f.seen event a) (sym same) (told_after start (told m.pen (front f)) e event stamp m.id m.station.node after.seen is own mine came a answers)

    pub member_after : (t : StationValue) (new : TraceValue) (o : Option WorldEvent) → after ≡ later (told m.pen (front f)) after.seen → ((sent : List Frame) → (moves sent event m.station.node).0 ≡ t.node) → ((sent : List Frame) → length (moves sent event m.station.node).1 ≡ 0)
        → (((log : List WorldEvent) → IsWritten start log stamp event event)) → IfSome o (λ w. w ≡ event) → Notes m.trace stamp 0 stamp o new → IsMember start m.id t m.spare after × HasTrace k start m.id m.spare after.seen new
    member_after t new o pen_is moved quiet written noted notes =
        let runs = serves start m.id m.station m.spare m.pen stands.0 who heard in (
          is_member start m.id t m.spare after stands.0.begins runs (pen_after start (told m.pen (front f)) e event stamp m.id m.station.node after.seen is own mine came after t.node refl pen_is moved),
          has_noted start (told m.pen (front f)) e event stamp m.id m.spare after.seen m.trace new 0 stamp o stands.1 runs is own came
              (λ counted. if_recorded start after.seen stamp 0 stamp o event noted (recorded_quiet counted start (told m.pen (front f)) e event stamp m.id m.station.node after.seen is own mine came quiet written)) notes,
        )
