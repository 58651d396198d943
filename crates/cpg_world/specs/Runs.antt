-- What the calls of a world answer.
use Rattle.std.specs.Prelude.{◌≡◌, ◌≢◌, ℕ, ◌≤◌, List, [], length, take, Option, Some, None, IsSome, Result, Ok, Err, IsOk}
use Rattle.cpg_cred.specs.Listed.{Listed}
use Rattle.cpg_cred.specs.declared.refusals.Refusal.{Refusal}
use Rattle.cpg_cred.specs.declared.refusals.Refusal.TheVariants.{Range, Memory}
use Rattle.cpg_record.specs.Listings.{AreGroups}
use Rattle.cpg_wire.specs.declared.codes.Version.TheVariants.{Two}
use Rattle.cpg_wire.specs.Spelling.{spelling}
use Rattle.cpg_ring.specs.States.{Frame, IsSettings}
use Rattle.cpg_ring.specs.declared.settings.Settings.{Settings}
use Rattle.cpg_world_laws.specs.declared.events.WorldEvent.{WorldEvent}
use Rattle.cpg_ring.specs.Worlds.{item}
use Rattle.cpg_node.specs.declared.connections.Client.{Client}
use Rattle.cpg_node.specs.Nodes.{NodeValue, records_of, asker_by, open_client}
use Rattle.cpg_node.specs.Calls.{connect_refusal, submit_refusal, closed_refusal, place_to_deliver, next_event, list_for}
use Rattle.cpg_world_laws.specs.declared.events.WorldEvent.TheVariants.{Connect, Submit, Disconnect, Frame as Arrival, Timer, Deliver, Take, List as Listing, Groups}
use Rattle.cpg_world_laws.specs.Worlds.{WorldValue, node_in, happens, runs, new_world}
use Rattle.cpg_world_laws.specs.Replies.{Answer, IsReply, AreReplies}

-- A new world where the settings are in their ranges, else Range; or Memory in the world's place.
abbrev pub IsWorldMade : Settings → Listed → Result WorldValue Refusal → Type 0
IsWorldMade s list (Ok w) = IsSettings s × (w ≡ new_world s list)
IsWorldMade s list (Err Range) = ¬ IsSettings s
IsWorldMade s list (Err Memory) = IsSettings s
IsWorldMade s list (Err _) = ⊥

-- a listing that nothing denies
abbrev pub IsLetList : NodeValue → List ℕ → Option Client → Type 0
IsLetList x g None = ⊥
IsLetList x g (Some c) = IsOk (list_for x c g)

-- an event that the connection has not taken
abbrev pub HasNext : NodeValue → ℕ → Option Client → Type 0
HasNext x conn None = ⊥
HasNext x conn (Some c) = IsSome (next_event x conn c)

-- a group that the connection is shown
abbrev pub IsShownSome : NodeValue → Option Client → Type 0
IsShownSome x None = ⊥
IsShownSome x (Some c) = ¬ AreGroups (records_of x) (asker_by x c) []

-- At a node an event may ask for memory: it is not refused, and there is something to enter, to hear, to deliver, to take or to
-- show.
abbrev pub MayGrow : List Frame → WorldEvent → NodeValue → Type 0
MayGrow sent (Connect n pid cred) x = connect_refusal x cred ≡ None
MayGrow sent (Submit n conn call) x = submit_refusal x conn call ≡ None
MayGrow sent (Disconnect n conn) x = closed_refusal (open_client x conn) ≡ None
MayGrow sent (Arrival n k) x = IsSome (item sent k)
MayGrow sent (Timer n) x = Unit {0}
MayGrow sent (Deliver n) x = IsSome (place_to_deliver x)
MayGrow sent (Take n conn) x = HasNext x conn (open_client x conn)
MayGrow sent (Listing n conn g) x = IsLetList x g (open_client x conn)
MayGrow sent (Groups n conn) x = IsShownSome x (open_client x conn)

-- the node is there, and may ask for memory
abbrev pub MayGrowAt : List Frame → WorldEvent → Option NodeValue → Type 0
MayGrowAt sent e None = ⊥
MayGrowAt sent e (Some x) = MayGrow sent e x

-- One event: its reply, and the world after it; or Memory, where it may be asked for, and the world as it was.
pub record IsStep (w : WorldValue) (e : WorldEvent) (answer : Answer) (after : WorldValue) : Type 0 where
  pub refused : answer ≡ Err Memory → (after ≡ w) × MayGrowAt w.sent e (item w.nodes (node_in e))
  pub happened : answer ≢ Err Memory → IsReply w e answer × (after ≡ happens w e)

-- The first of the events happened, as many as there are answers: these are the replies to them, and that is the world after them.
pub record HaveRun (w : WorldValue) (events : List WorldEvent) (answers : List Answer) (after : WorldValue) : Type 0 where
  pub within : length answers ≤ length events
  pub replies : AreReplies w (take (length answers) events) answers
  pub world : after ≡ runs w (take (length answers) events)

-- the bytes are the spelling, in version 2, of the frame that is there
abbrev pub IsSpelledBy : Option Frame → List ℕ → Type 0
IsSpelledBy None bytes = ⊥
IsSpelledBy (Some f) bytes = bytes ≡ spelling Two f
