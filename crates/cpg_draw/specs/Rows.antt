-- the rows of a picture: what is shown of each command
use Rattle.std.specs.Prelude.{ℕ, ◌≡◌, ◌+◌, Bool, false, ◌||◌, nat_lt, length, drop, is_some, List, [], ◌∷◌, ◌++◌, Option, Some, None}
use Rattle.cpg_ring.specs.States.{safe_mark}
use Rattle.cpg_ring.specs.Worlds.{item}
use Rattle.cpg_node.specs.Nodes.{NodeValue}
use Rattle.cpg_world_laws.specs.declared.events.WorldEvent.{WorldEvent}
use Rattle.cpg_world_laws.specs.declared.events.WorldEvent.TheVariants.{Frame as Arrival}
use Rattle.cpg_world_laws.specs.Worlds.{WorldValue, node_in, happens}
use Rattle.cpg_world_laws.specs.Replies.{Answer, AreReplies}
use Rattle.cpg_step.specs.declared.commands.Command.{Command}
use Rattle.cpg_step.specs.declared.commands.Command.TheVariants.{Act, Look}
use Rattle.cpg_step.specs.declared.commands.Look.{Look as LookValue}
use Rattle.cpg_step.specs.Running.{events_in, after}
use Rattle.cpg_step.specs.Targets.{frame_of_target, look_target, node_of_target}
use Rattle.cpg_draw.specs.declared.arrows.Arrow.{Arrow}
use Rattle.cpg_draw.specs.declared.excerpts.Excerpt.{Excerpt}
use Rattle.cpg_draw.specs.declared.excerpts.Spot.{Spot}
use Rattle.cpg_draw.specs.declared.pictures.Picture.{Picture}
use Rattle.cpg_draw.specs.declared.rows.Row.{Row}
use Rattle.cpg_draw.specs.declared.rows.State.{State}
use Rattle.cpg_draw.specs.Arrows.{arrows_of, seq_brought, with_brought}
use Rattle.cpg_draw.specs.Excerpts.{is_shown, start, first_spot, spot_of, after_row, if_shown, shown_misses}

-- the number of the frame that an event brings; 0 is no frame's
abbrev pub brings : WorldEvent → ℕ
brings (Arrival n k) = k
brings _ = 0

-- the arrows that begin in a row: those of the frames that its reply sent
abbrev pub sent_by : Spot → WorldValue → WorldEvent → List Arrow
sent_by spot w e = arrows_of (length w.sent + 1) spot (node_in e) (seq_brought (item w.sent (brings e))) (drop (length w.sent) (happens w e).sent)

-- the arrows after a row: the one of the frame that it brings ends there, and those of the frames that it sends begin there
abbrev pub arrows_after : Spot → List Arrow → WorldValue → WorldEvent → List Arrow
arrows_after spot arrows w e = with_brought arrows (brings e) (node_in e) ++ sent_by spot w e

-- the arrows before the first row, of the frames that were sent before the script: they begin outside the ring
abbrev pub first_arrows : WorldValue → List Arrow
first_arrows w = arrows_of 1 start 0 0 w.sent

-- what is shown of a node: how many entries wait there, and its safe mark
abbrev pub state_of : Option NodeValue → Option State
state_of None = None
state_of (Some x) = Some (record { waiting = length x.ring.state.waiting; safe = safe_mark x.ring.state.arus })

-- the row of an event: the frame that it brings, how many were sent before and after it, its node then, and its answer
abbrev pub act_row : Spot → List Arrow → WorldValue → WorldEvent → Answer → Row
act_row spot arrows w e a = record {
  spot = spot;
  node = node_in e;
  arrow = item arrows (brings e);
  sent_before = length w.sent;
  sent_after = length (happens w e).sent;
  state = state_of (item (happens w e).nodes (node_in e));
  answer = Some a;
}

-- the row of a command that only looks: the frame that it is of, or its node as it is
abbrev pub look_row : Spot → List Arrow → WorldValue → LookValue → Row
look_row spot arrows w l = record {
  spot = spot;
  node = node_of_target (look_target l);
  arrow = item arrows (frame_of_target (look_target l));
  sent_before = length w.sent;
  sent_after = length w.sent;
  state = state_of (item w.nodes (node_of_target (look_target l)));
  answer = None;
}

-- the row of an event moves frames: an arrow ends in it, or some begin there
abbrev pub moves : List Arrow → WorldValue → WorldEvent → Bool
moves arrows w e = is_some (item arrows (brings e)) || nat_lt (length w.sent) (length (happens w e).sent)

-- The rows of an excerpt of commands, of which this is the next, with the arrows so far, where that is what their events are answered.
abbrev pub rows_of : Excerpt → Spot → List Arrow → WorldValue → List Command → List Answer → List Row
rows_of x next arrows w [] answers = []
rows_of x next arrows w (Look l ∷ later) answers =
    let here = is_shown x next.row false in
    if_shown here (look_row (spot_of x next) arrows w l) ++ rows_of x (after_row here next) arrows w later answers
rows_of x next arrows w (Act e ∷ later) [] = []
rows_of x next arrows w (Act e ∷ later) (a ∷ answers) =
    let here = is_shown x next.row (moves arrows w e) in
    let spot = spot_of x next in
    if_shown here (act_row spot arrows w e a) ++ rows_of x (after_row here next) (arrows_after spot arrows w e) (happens w e) later answers

-- the arrows after the commands from that one on
abbrev pub arrows_past : Excerpt → Spot → List Arrow → WorldValue → List Command → List Arrow
arrows_past x next arrows w [] = arrows
arrows_past x next arrows w (Look l ∷ later) = arrows_past x (after_row (is_shown x next.row false) next) arrows w later
arrows_past x next arrows w (Act e ∷ later) =
    arrows_past x (after_row (is_shown x next.row (moves arrows w e)) next) (arrows_after (spot_of x next) arrows w e) (happens w e) later

-- the arrows after all commands of a world
abbrev pub all_arrows : Excerpt → WorldValue → List Command → List Arrow
all_arrows x w commands = arrows_past x first_spot (first_arrows w) w commands

-- The picture of an excerpt of commands over a world, as it answers their events, and the world after them: its rows, its arrows, and
-- which frames that shown rows sent did not come to whom.
pub record IsPicture (x : Excerpt) (w : WorldValue) (commands : List Command) (picture : Picture) (world : WorldValue) : Type 0 where
  pub answers : List Answer
  pub replies : AreReplies w (events_in commands) answers
  pub before : picture.before ≡ length w.sent
  pub rows : picture.rows.items ≡ rows_of x first_spot (first_arrows w) w commands answers
  pub arrows : picture.arrows.items ≡ all_arrows x w commands
  pub misses : picture.misses.items ≡ shown_misses x (length w.nodes) (all_arrows x w commands)
  pub ran : world ≡ after w commands
