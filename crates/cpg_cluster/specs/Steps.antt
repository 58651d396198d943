-- steps of the functions that run, and what the calls that other crates build on ask for
use Rattle.std.specs.Prelude.{ℕ, ◌≤◌, ⊤, List, All, Option, Some, None, Result, Ok, Err, IfSome, option_map, slice_index}
use Rattle.cpg_cred.specs.declared.refusals.Refusal.{Refusal}
use Rattle.cpg_cred.specs.declared.refusals.Refusal.TheVariants as refusal
use Rattle.cpg_text.specs.Lines.{words_of}
use Rattle.cpg_record.specs.declared.events.Event.{Event}
use Rattle.cpg_board.specs.Seats.{IsSeatOf}
use Rattle.cpg_world_laws.specs.Worlds.{WorldValue}
use Rattle.cpg_daemon.specs.Sessions.{SessionValue}
use Rattle.cpg_cluster.specs.declared.commands.Ask.TheVariants as ask
use Rattle.cpg_cluster.specs.declared.commands.Numbered.{Numbered}
use Rattle.cpg_cluster.specs.Answers.{Answer, Slots, GoesOn, Serves}
use Rattle.cpg_cluster.specs.Commands.{command_of}
use Rattle.cpg_cluster.specs.Scripts.{numbered}
use Rattle.cpg_cluster.specs.declared.replies.Reply.TheVariants.{Took, Audit}

-- the command of a line that follows so many, where the lines that hold one have those numbers
abbrev pub numbered_by : ℕ → List ℕ → ℕ → List ℕ → Option Numbered
numbered_by nodes numbers before line = option_map (numbered (slice_index numbers before)) (command_of nodes (words_of line))

-- What the answer of one poll tells a session that waits: nothing where there is no event yet, or where its node is behind; else the event, or
-- why waiting ends.
abbrev pub poll_of : Result (Option Event) Refusal → Option (Result Event Refusal)
poll_of (Ok None) = None
poll_of (Ok (Some event)) = Some (Ok event)
poll_of (Err (refusal.Behind reached)) = None
poll_of (Err why) = Some (Err why)

-- What one poll gives, and what the session is then: nothing that ends the wait, or an event of its inbox, or why waiting ends.
abbrev pub IsPolled : WorldValue → SessionValue → Option (Result Event Refusal) → SessionValue → Type 0
IsPolled start before None after = GoesOn before after
IsPolled start before (Some (Ok event)) after = Serves start before ask.Wait (Ok (Took event)) after
IsPolled start before (Some (Err why)) after = Serves start before ask.Wait (Err why) after

-- the nodes of the open sessions are there
abbrev pub AreWithin : ℕ → Slots → Type 0
AreWithin nodes slots = All (λ slot. IfSome slot (λ session. session.who.id.node ≤ nodes)) slots

-- a seat that was answered is of that board
abbrev pub SeatsOn : List ℕ → Answer → Type 0
SeatsOn board (Ok (Audit seat)) = IsSeatOf board seat
SeatsOn board _ = ⊤
