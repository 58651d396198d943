-- What events are answered.
use Rattle.std.specs.Prelude.{◌≡◌, ℕ, suc, List, [], ◌∷◌, length, Option, Some, None, Result, Ok, Err}
use Rattle.cpg_cred.specs.declared.bases.By.{By}
use Rattle.cpg_cred.specs.declared.refusals.Refusal.TheVariants.{NoFrame, NoConnection, Denied}
use Rattle.cpg_record.specs.Listings.{AreGroups}
use Rattle.cpg_ring.specs.States.{Frame, Refusal}
use Rattle.cpg_ring.specs.Worlds.{item}
use Rattle.cpg_node.specs.declared.connections.Client.{Client}
use Rattle.cpg_node.specs.Nodes.{NodeValue, records_of, asker_by, open_client}
use Rattle.cpg_node.specs.Calls.{connect_refusal, submit_refusal, closed_refusal, frame_refusal, answers_to, place_to_deliver, next_event, list_for}
use Rattle.cpg_world_laws.specs.declared.events.WorldEvent.{WorldEvent}
use Rattle.cpg_world_laws.specs.declared.events.WorldEvent.TheVariants.{Connect, Submit, Disconnect, Frame as Arrival, Timer, Deliver, Take, List as Listing, Groups}
use Rattle.cpg_world_laws.specs.declared.replies.Reply.{Reply}
use Rattle.cpg_world_laws.specs.declared.replies.Reply.TheVariants as reply
use Rattle.cpg_world_laws.specs.Worlds.{WorldValue, happens, moves, node_in}

-- a reply, or a refusal
abbrev pub Answer : Type 0
Answer = Result Reply Refusal

-- the refusal, if there is one, and else the reply
abbrev pub or_reply : Option Refusal → Reply → Answer
or_reply None r = Ok r
or_reply (Some why) r = Err why

-- to a frame: NoFrame where there is none of that number, its refusal, or how many frames it made the node send
abbrev pub frame_answer : NodeValue → Option Frame → Answer
frame_answer x None = Err NoFrame
frame_answer x (Some f) = or_reply (frame_refusal x f) (reply.Sent (length (answers_to x f)))

-- to Take: the connection's next event, if there is one
abbrev pub take_answer : NodeValue → ℕ → Option Client → Answer
take_answer x conn None = Err NoConnection
take_answer x conn (Some c) = Ok (reply.Took (next_event x conn c))

-- the listing, or what denies it
abbrev pub listing_answer : Result (List (ℕ × ℕ)) By → Answer
listing_answer (Ok list) = Ok (reply.Members list)
listing_answer (Err by) = Err (Denied by)

-- to List
abbrev pub list_answer : NodeValue → List ℕ → Option Client → Answer
list_answer x g None = Err NoConnection
list_answer x g (Some c) = listing_answer (list_for x c g)

-- to Groups: the names of the groups with members that the connection may list
abbrev pub IsGroupsReply : NodeValue → Option Client → Answer → Type 0
IsGroupsReply x None answer = answer ≡ Err NoConnection
IsGroupsReply x (Some c) (Ok (reply.Groups names)) = AreGroups (records_of x) (asker_by x c) names
IsGroupsReply x (Some c) _ = ⊥

-- what a node answers to an event, where these frames were sent
abbrev pub IsAnswerAt : List Frame → WorldEvent → NodeValue → Answer → Type 0
IsAnswerAt sent (Connect n pid cred) x a = a ≡ or_reply (connect_refusal x cred) (reply.Connected (suc (length x.clients)))
IsAnswerAt sent (Submit n conn call) x a = a ≡ or_reply (submit_refusal x conn call) reply.Admitted
IsAnswerAt sent (Disconnect n conn) x a = a ≡ or_reply (closed_refusal (open_client x conn)) reply.Closed
IsAnswerAt sent (Arrival n k) x a = a ≡ frame_answer x (item sent k)
IsAnswerAt sent (Timer n) x a = a ≡ Ok (reply.Sent (length (moves sent (Timer n) x).1))
IsAnswerAt sent (Deliver n) x a = a ≡ Ok (reply.Delivered (place_to_deliver x))
IsAnswerAt sent (Take n conn) x a = a ≡ take_answer x conn (open_client x conn)
IsAnswerAt sent (Listing n conn g) x a = a ≡ list_answer x g (open_client x conn)
IsAnswerAt sent (Groups n conn) x a = IsGroupsReply x (open_client x conn) a

-- the node is there and answers so
abbrev pub IsAnswerOf : List Frame → WorldEvent → Option NodeValue → Answer → Type 0
IsAnswerOf sent e None a = ⊥
IsAnswerOf sent e (Some x) a = IsAnswerAt sent e x a

-- what a world answers to an event
abbrev pub IsReply : WorldValue → WorldEvent → Answer → Type 0
IsReply w e a = IsAnswerOf w.sent e (item w.nodes (node_in e)) a

-- of each event and its answer, in the world that it meets, this is true
abbrev pub AtEach : (WorldValue → WorldEvent → Answer → Type 0) → WorldValue → List WorldEvent → List Answer → Type 0
AtEach P w [] [] = Unit {0}
AtEach P w [] (a ∷ answers) = ⊥
AtEach P w (e ∷ es) [] = ⊥
AtEach P w (e ∷ es) (a ∷ answers) = P w e a × AtEach P (happens w e) es answers

-- the answers to the events, one for each
abbrev pub AreReplies : WorldValue → List WorldEvent → List Answer → Type 0
AreReplies w events answers = AtEach IsReply w events answers
