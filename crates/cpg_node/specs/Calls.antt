-- What each call of a node does: why it is refused, if it is, and else what it answers and the node after it.
use Rattle.std.specs.Prelude.{ℕ, suc, true, false, not, List, [], ◌∷◌, ◌++◌, length, Option, Some, None, is_some, option_map, nat_lt, nat_le, if◌then◌else◌, Result}
use Rattle.std.specs.List.{slice_get}
use Rattle.cpg_cred.specs.declared.bases.By.{By}
use Rattle.cpg_cred.specs.declared.credentials.Cred.{Cred}
use Rattle.cpg_cred.specs.declared.refusals.Refusal.TheVariants.{Access, NoConnection, BadName, TooLong, ConnectionsFull}
use Rattle.cpg_cred.specs.Admission.{via_of}
use Rattle.cpg_entry.specs.declared.calls.Call.{Call}
use Rattle.cpg_entry.specs.declared.calls.Call.TheVariants.{Join, Leave, Send, Insert, Remove}
use Rattle.cpg_entry.specs.declared.calls.Op.{Op}
use Rattle.cpg_entry.specs.declared.calls.Op.TheVariants.{Act, Gone}
use Rattle.cpg_entry.specs.declared.frames.Frame.TheVariants as frame
use Rattle.cpg_entry.specs.Names.{is_name}
use Rattle.cpg_entry.specs.declared.ranges.TheConstants.{MOST_CONNECTIONS}
use Rattle.cpg_entry.specs.declared.messages.TheConstants.{MOST_MESSAGE_BYTES}
use Rattle.cpg_record.specs.declared.events.Event.{Event}
use Rattle.cpg_record.specs.declared.records.Record.{Record}
use Rattle.cpg_record.specs.Judging.{record_of}
use Rattle.cpg_record.specs.Listings.{listing}
use Rattle.cpg_ring.specs.States.{Frame, Refusal}
use Rattle.cpg_ring.specs.Moves.{after_entry, next_entry}
use Rattle.cpg_ring.specs.Worlds.{RingOutcome, with_item, receive, deliver}
use Rattle.cpg_ring.specs.Rings.{refusal_of, data_refusal_of, full_refusal}
use Rattle.cpg_node.specs.declared.connections.Client.{Client}
use Rattle.cpg_node.specs.Nodes.{NodeValue, with_ring, with_clients, records_of, inbox_of, open_client, entry_by, asker_by}

-- the first of two refusals that is there
abbrev pub first_of : Option Refusal → Option Refusal → Option Refusal
first_of None later = later
first_of (Some why) later = Some why

-- Connect. Access where nothing lets the credentials in, then ConnectionsFull.
abbrev pub connect_refusal : NodeValue → Cred → Option Refusal
connect_refusal x cred =
    if not (is_some (via_of x.list cred)) then Some Access
    else if nat_le MOST_CONNECTIONS (length x.clients) then Some ConnectionsFull
    else None

-- the node with one connection more, which has taken nothing
abbrev pub connected : NodeValue → ℕ → Cred → NodeValue
connected x pid cred = with_clients x (x.clients ++ record { pid = pid; cred = cred; ended = false; taken = 0 } ∷ [])

-- BadName for what may not name a group
abbrev pub name_refusal : List ℕ → Option Refusal
name_refusal g = if is_name g then None else Some BadName

-- why a call is refused wherever it comes from: a name that names no group, a message that is too long
abbrev pub call_refusal : Call → Option Refusal
call_refusal (Join g) = name_refusal g
call_refusal Leave = None
call_refusal (Send message) = if nat_lt MOST_MESSAGE_BYTES (length message) then Some TooLong else None
call_refusal (Insert g index rule) = name_refusal g
call_refusal (Remove g id) = name_refusal g

-- why a call of the connection is refused: NoConnection, BadName or TooLong, QueueFull
abbrev pub submit_refusal_by : NodeValue → Call → Option Client → Option Refusal
submit_refusal_by x call None = Some NoConnection
submit_refusal_by x call (Some c) = first_of (call_refusal call) (full_refusal x.ring)

abbrev pub submit_refusal : NodeValue → ℕ → Call → Option Refusal
submit_refusal x conn call = submit_refusal_by x call (open_client x conn)

-- the node where the connection's entry waits too, as the last
abbrev pub with_entry : NodeValue → ℕ → Op → Option Client → NodeValue
with_entry x conn op None = x
with_entry x conn op (Some c) = with_ring x (after_entry x.ring.state (entry_by x conn c op))

-- Submit: the call waits, with the connection's own pid and credentials.
abbrev pub submitted : NodeValue → ℕ → Call → NodeValue
submitted x conn call = with_entry x conn (Act call) (open_client x conn)

-- why a call that wants an open connection is refused, beside its own refusals
abbrev pub closed_refusal : Option Client → Option Refusal
closed_refusal None = Some NoConnection
closed_refusal (Some c) = None

-- the node where the connection is changed
abbrev pub with_client : NodeValue → ℕ → Client → NodeValue
with_client x conn c = with_clients x (with_item x.clients conn c)

-- Disconnect: the connection ends, and its end waits as the last.
abbrev pub ended_by : NodeValue → ℕ → Option Client → NodeValue
ended_by x conn None = x
ended_by x conn (Some c) = with_client (with_entry x conn Gone (Some c)) conn (record c { ended = true })

abbrev pub disconnected : NodeValue → ℕ → NodeValue
disconnected x conn = ended_by x conn (open_client x conn)

-- Frame: what the ring says of a packet or a token.
abbrev pub frame_refusal : NodeValue → Frame → Option Refusal
frame_refusal x (frame.Packet p) = data_refusal_of x.ring p
frame_refusal x (frame.Token t) = refusal_of x.ring t

-- what a frame does at the node's part of the ring, and what it sends
abbrev pub heard : NodeValue → Frame → RingOutcome
heard x f = receive x.ring.settings x.ring.node (Some f) x.ring.state

abbrev pub after_frame : NodeValue → Frame → NodeValue
after_frame x f = with_ring x (heard x f).0

-- the frames that it sends on
abbrev pub answers_to : NodeValue → Frame → List Frame
answers_to x f = (heard x f).1

-- Deliver: the next place, if it is held.
abbrev pub place_to_deliver : NodeValue → Option ℕ
place_to_deliver x = option_map (λ e. suc x.ring.state.delivered) (next_entry x.ring.state)

abbrev pub node_after_delivery : NodeValue → NodeValue
node_after_delivery x = with_ring x (deliver x.ring.state).0

-- the judgement of the next place, if it is held
abbrev pub next_record : NodeValue → Option Record
next_record x = option_map (record_of (records_of x)) (next_entry x.ring.state)

-- Take: the item of the inbox after those that the connection took.
abbrev pub next_event : NodeValue → ℕ → Client → Option Event
next_event x conn c = slice_get (inbox_of x conn) c.taken

abbrev pub counted : NodeValue → ℕ → Client → Option Event → NodeValue
counted x conn c None = x
counted x conn c (Some event) = with_client x conn (record c { taken = suc c.taken })

abbrev pub node_after_take : NodeValue → ℕ → Option Client → NodeValue
node_after_take x conn None = x
node_after_take x conn (Some c) = counted x conn c (next_event x conn c)

abbrev pub took : NodeValue → ℕ → NodeValue
took x conn = node_after_take x conn (open_client x conn)

-- List: the members of the group over what was delivered, or what denies the connection the listing.
abbrev pub list_for : NodeValue → Client → List ℕ → Result (List (ℕ × ℕ)) By
list_for x c g = listing (records_of x) (asker_by x c) g
