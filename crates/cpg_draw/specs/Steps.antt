-- steps of the functions that draw, which no contract of a public function cites
use Rattle.std.specs.Prelude.{◌≡◌, Bool, List, ◌∷◌, ◌++◌}
use Rattle.cpg_world_laws.specs.declared.events.WorldEvent.{WorldEvent}
use Rattle.cpg_world_laws.specs.Worlds.{WorldValue, happens}
use Rattle.cpg_world_laws.specs.Replies.{Answer, IsReply, AreReplies}
use Rattle.cpg_step.specs.declared.commands.Command.{Command}
use Rattle.cpg_step.specs.Running.{events_in, after}
use Rattle.cpg_draw.specs.declared.arrows.Arrow.{Arrow}
use Rattle.cpg_draw.specs.declared.excerpts.Excerpt.{Excerpt}
use Rattle.cpg_draw.specs.declared.excerpts.Spot.{Spot}
use Rattle.cpg_draw.specs.declared.rows.Row.{Row}
use Rattle.cpg_draw.specs.Excerpts.{after_row}
use Rattle.cpg_draw.specs.Rows.{act_row, arrows_after, arrows_past, rows_of}

-- the event happened, and that is its row
pub record IsActed (spot : Spot) (arrows : List Arrow) (w : WorldValue) (e : WorldEvent) (row : Row) (later : List Arrow) (world : WorldValue) : Type 0 where
  pub answer : Answer
  pub replied : IsReply w e answer
  pub happened : world ≡ happens w e
  pub noted : later ≡ arrows_after spot arrows w e
  pub shown : row ≡ act_row spot arrows w e answer

-- the rows of the commands are there, from that one on, and these are the arrows and the world after them
pub record AreRows (x : Excerpt) (next : Spot) (arrows : List Arrow) (w : WorldValue) (commands : List Command) (old : List Row) (last : List Arrow) (world : WorldValue) (new : List Row) : Type 0 where
  pub answers : List Answer
  pub replies : AreReplies w (events_in commands) answers
  pub put : new ≡ old ++ rows_of x next arrows w commands answers
  pub ended : last ≡ arrows_past x next arrows w commands
  pub ran : world ≡ after w commands

-- whatever rows follow, the command's row stands before them, where it is shown
abbrev pub StandsBefore : Excerpt → Spot → List Arrow → WorldValue → Command → List Row → Bool → List Arrow → WorldValue → List Row → Type 0
StandsBefore x next arrows w command old here then v new =
    (later : List Command) (last : List Arrow) (world : WorldValue) (whole : List Row)
    → AreRows x (after_row here next) then v later new last world whole → AreRows x next arrows w (command ∷ later) old last world whole
