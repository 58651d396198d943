-- What a node answers a session that knows its connection.
use Rattle.std.proofs.Common.{◌≡◌, ◌⊎◌, inl, inr, ⊎_elim, ℕ, suc, ◌≤◌, Bool, true, false, List, length, nat_lt, Option, Some, None, Result, Ok, Err, refl, sym, ap, ◌∙◌, subst, slice_get, option_map, IfNone, if◌then◌else◌}
use Rattle.std.specs.Result.{IfErr, OnErr}
use Rattle.std.proofs.lemmas.Option.{none-some, same_Some}
use Rattle.cpg_cred.specs.declared.refusals.Refusal.{Refusal}
use Rattle.cpg_cred.specs.declared.refusals.Refused.{Refused}
use Rattle.cpg_cred.specs.declared.refusals.Refusal.TheVariants as refusal
use Rattle.cpg_entry.specs.Names.{is_name}
use Rattle.cpg_entry.specs.declared.calls.Call.{Call}
use Rattle.cpg_entry.specs.declared.calls.Call.TheVariants.{Join, Leave, Send, Insert, Remove}
use Rattle.cpg_entry.specs.declared.messages.TheConstants.{MOST_MESSAGE_BYTES}
use Rattle.cpg_ring.proofs.Lists.{item_with_same}
use Rattle.cpg_ring.specs.Answers.{IsAnswer, answer_of}
use Rattle.cpg_ring.specs.Moves.{is_full}
use Rattle.cpg_ring.specs.Rings.{full_refusal}
use Rattle.cpg_ring.specs.Worlds.{item}
use Rattle.cpg_record.specs.declared.events.Event.{Event}
use Rattle.cpg_record.specs.declared.records.Record.{Record}
use Rattle.cpg_record.specs.Events.{inbox}
use Rattle.cpg_record.specs.Listings.{listing, AreGroups}
use Rattle.cpg_node.specs.declared.connections.Client.{Client}
use Rattle.cpg_node.specs.declared.connections.Connection.{Connection}
use Rattle.cpg_node.specs.Answers.{IsTakeAnswer, IsListAnswer, IsGroupsAnswer, connection_of}
use Rattle.cpg_node.specs.Calls.{submit_refusal, submit_refusal_by, closed_refusal, call_refusal, first_of, took, node_after_take, counted, next_event}
use Rattle.cpg_node.specs.Nodes.{NodeValue, open_client, if_open, conn_id, asker_by}
use Rattle.cpg_record.specs.Places.{Begins}
use Rattle.cpg_board.specs.Seats.{SeatValue, records_of}
use Rattle.cpg_station.specs.Serving.{BringsUp, StaysDown, GivesNot, IsKnown, asker_of, OverFront, IsAtEnd, IsTakeFor, IsListFor, IsGroupsFor, SubmitRefuses, KeepsWatch, WhereDenied, moved_on}
use Rattle.cpg_station.specs.Stations.{StationValue, audit_of}

-- the node's own client behind the session's connection
record Behind (x : NodeValue) (who : Connection) : Type 0 where
  client : Client
  is_open : open_client x who.id.conn ≡ Some client
  told : record { id = conn_id x who.id.conn; pid = client.pid; cred = client.cred; taken = client.taken } ≡ who

client_of : (x : NodeValue) (who : Connection) → IsKnown x who → Behind x who
client_of x who known = by_client (open_client x who.id.conn) refl known
  where
    by_client : (o : Option Client) → open_client x who.id.conn ≡ o → option_map (λ (c : Client). record { id = conn_id x who.id.conn; pid = c.pid; cred = c.cred; taken = c.taken }) o ≡ Some who → Behind x who
    by_client None is same = absurd (none-some who same)
    by_client (Some c) is same = record { client = c; is_open = is; told = same_Some _ who same }

client_asks : (x : NodeValue) (who : Connection) (b : Behind x who) → asker_by x b.client ≡ asker_of who
client_asks x who b = ap asker_of b.told

-- what a seat that is not brought up leaves a session unanswered by
gives_not : (s : StationValue) (before : SeatValue) (why : Refusal) → StaysDown s before why → GivesNot s before why
gives_not s before refusal.Memory down = (down.0, down.1)
gives_not s before why down = down

pub down_take : (who : Connection) (before after : SeatValue) (s : StationValue) (why : Refusal) → StaysDown s before why → IsTakeFor who before s after (Err why)
down_take who before after s why down = gives_not s before why down

pub down_groups : (who : Connection) (before after : SeatValue) (s : StationValue) (why : Refusal) → StaysDown s before why → IsGroupsFor who before s after (Err why)
down_groups who before after s why down = gives_not s before why down

pub down_list : (who : Connection) (g : List ℕ) (before after : SeatValue) (s : StationValue) (why : Refusal) → StaysDown s before why → IsListFor who g before s after (Err why)
down_list who g before after s (refusal.Denied by) down = absurd down
down_list who g before after s why down = gives_not s before why down

-- what keeps a seat down is no denial
pub down_denied : (It : Type 0) (s : StationValue) (before : SeatValue) (why : Refusal) → StaysDown s before why → WhereDenied It why
down_denied It s before (refusal.Denied by) down = absurd down
down_denied It s before why down = tt

pub where_denied : {A : Type 0} (It : Type 0) (r : Result A Refusal) → It → IfErr r (WhereDenied It)
where_denied It (Ok a) it = tt
where_denied It (Err (refusal.Denied by)) it = it
where_denied It (Err why) it = tt

-- the station has no more records than it had, and is not halted
stays_up : (s now : StationValue) (before after : SeatValue) → BringsUp s before after → now.halted ≡ s.halted → audit_of now.node ≡ audit_of s.node → GivesNot now before refusal.Memory
stays_up s now before after up same kept = (same ∙ up.running, subst (λ (l : List Record). length before ≤ length l) (sym kept) up.enough)

-- an answer over the records of a station that has brought the seat up
over_front : (s : StationValue) (before after : SeatValue) (Says : List Record → Type 0) → BringsUp s before after → Says (audit_of s.node) → OverFront before after Says
over_front s before after Says up said = (audit_of s.node, up.front, up.enough, said)

-- what the node answers the connection is what the session is to be answered
pub said_take : (who : Connection) (before after : SeatValue) (s now : StationValue) (result : Result (Option Event) Refusal) → IsKnown s.node who → BringsUp s before after → now.halted ≡ s.halted → audit_of now.node ≡ audit_of s.node
    → IsTakeAnswer s.node who.id.conn (open_client s.node who.id.conn) result → IsTakeFor who before now after result
said_take who before after s now result known up same kept answer = by_result result (subst (λ o. IsTakeAnswer s.node who.id.conn o result) b.is_open answer)
  where
    b : Behind s.node who
    b = client_of s.node who known

    by_result : (r : Result (Option Event) Refusal) → IsTakeAnswer s.node who.id.conn (Some b.client) r → IsTakeFor who before now after r
    by_result (Ok event) is = over_front s before after (λ front. event ≡ slice_get (inbox front who.id) who.taken) up (is ∙ ap (λ (w : Connection). slice_get (inbox (audit_of s.node) w.id) w.taken) b.told)
    by_result (Err why) is = subst (λ w. GivesNot now before w) (sym is.0) (stays_up s now before after up same kept)

-- where the node has no next event for the connection, the inbox ends at what the session took
pub at_end : (who : Connection) (before after : SeatValue) (s now : StationValue) (event : Option Event) → IsKnown s.node who → BringsUp s before after → audit_of now.node ≡ audit_of s.node
    → IsTakeAnswer s.node who.id.conn (open_client s.node who.id.conn) (Ok event) → IfNone event (IsAtEnd now.node who after)
at_end who before after s now (Some event) known up kept answer = tt
at_end who before after s now None known up kept answer = subst (λ l. (slice_get (inbox l who.id) who.taken ≡ None) × Begins l (records_of after)) (sym kept) (ends, up.front)
  where
    b : Behind s.node who
    b = client_of s.node who known

    none : None ≡ next_event s.node who.id.conn b.client
    none = subst (λ o. IsTakeAnswer s.node who.id.conn o (Ok None)) b.is_open answer

    ends : slice_get (inbox (audit_of s.node) who.id) who.taken ≡ None
    ends = ap (λ (w : Connection). slice_get (inbox (audit_of s.node) w.id) w.taken) (sym b.told) ∙ sym none

pub said_groups : (who : Connection) (before after : SeatValue) (s : StationValue) (result : Result (List (List ℕ)) Refusal) → IsKnown s.node who → BringsUp s before after
    → IsGroupsAnswer s.node (open_client s.node who.id.conn) result → IsGroupsFor who before s after result
said_groups who before after s result known up answer = by_result result (subst (λ o. IsGroupsAnswer s.node o result) b.is_open answer)
  where
    b : Behind s.node who
    b = client_of s.node who known

    by_result : (r : Result (List (List ℕ)) Refusal) → IsGroupsAnswer s.node (Some b.client) r → IsGroupsFor who before s after r
    by_result (Ok names) is = over_front s before after (λ front. AreGroups front (asker_of who) names) up (subst (λ a. AreGroups (audit_of s.node) a names) (client_asks s.node who b) is)
    by_result (Err why) is = subst (λ w. GivesNot s before w) (sym is.0) (stays_up s s before after up refl refl)

pub said_list : (who : Connection) (g : List ℕ) (before after : SeatValue) (s : StationValue) (result : Result (List (ℕ × ℕ)) Refusal) → IsKnown s.node who → BringsUp s before after
    → IsListAnswer s.node g (open_client s.node who.id.conn) result → IsListFor who g before s after result
said_list who g before after s result known up answer = by_result result (subst (λ o. IsListAnswer s.node g o result) b.is_open answer)
  where
    b : Behind s.node who
    b = client_of s.node who known

    by_result : (r : Result (List (ℕ × ℕ)) Refusal) → IsListAnswer s.node g (Some b.client) r → IsListFor who g before s after r
    by_result (Ok list) is = over_front s before after (λ front. listing front (asker_of who) g ≡ Ok list) up (ap (λ a. listing (audit_of s.node) a g) (sym (client_asks s.node who b)) ∙ is)
    by_result (Err refusal.Memory) is = stays_up s s before after up refl refl
    by_result (Err (refusal.Denied by)) is = over_front s before after (λ front. listing front (asker_of who) g ≡ Err by) up (ap (λ a. listing (audit_of s.node) a g) (sym (client_asks s.node who b)) ∙ is)
    by_result (Err why) is = absurd is

-- ---- the session's connection at its node

-- an open connection stands among the node's, and has not ended
open_at : (clients : List Client) (conn : ℕ) (c : Client) → if_open (item clients conn) ≡ Some c → (item clients conn ≡ Some c) × (c.ended ≡ false)
open_at clients conn c = by_item (item clients conn)
  where
    by_ended : (b : Bool) (d : Client) → d.ended ≡ b → (if b then None else Some d) ≡ Some c → (Some d ≡ Some c) × (c.ended ≡ false)
    by_ended true d is h = absurd (none-some c h)
    by_ended false d is h = (h, ap (λ (x : Client). x.ended) (sym (same_Some d c h)) ∙ is)

    by_item : (o : Option Client) → if_open o ≡ Some c → (o ≡ Some c) × (c.ended ≡ false)
    by_item None h = absurd (none-some c h)
    by_item (Some d) h = by_ended d.ended d refl h

abbrev told_of : NodeValue → ℕ → Client → Connection
told_of x conn c = record { id = conn_id x conn; pid = c.pid; cred = c.cred; taken = c.taken }

-- once an event is taken, the node knows the connection as the session does
pub told_after : (x y : NodeValue) (who : Connection) (event : Option Event) → IsKnown x who → y ≡ took x who.id.conn → IsTakeAnswer x who.id.conn (open_client x who.id.conn) (Ok event)
    → connection_of y who.id.conn ≡ Some (moved_on who event)
told_after x y who event known later answer =
    ap (λ z. connection_of z who.id.conn) later ∙ ap (λ o. connection_of (node_after_take x who.id.conn o) who.id.conn) b.is_open ∙ by_event event (subst (λ o. IsTakeAnswer x who.id.conn o (Ok event)) b.is_open answer)
  where
    b : Behind x who
    b = client_of x who known

    at : (item x.clients who.id.conn ≡ Some b.client) × (b.client.ended ≡ false)
    at = open_at x.clients who.id.conn b.client b.is_open

    more : Client
    more = record { pid = b.client.pid; cred = b.client.cred; ended = b.client.ended; taken = suc b.client.taken }

    by_event : (e : Option Event) → e ≡ next_event x who.id.conn b.client → connection_of (counted x who.id.conn b.client (next_event x who.id.conn b.client)) who.id.conn ≡ Some (moved_on who e)
    by_event None is = ap (λ o. connection_of (counted x who.id.conn b.client o) who.id.conn) (sym is) ∙ known
    by_event (Some e) is =
        ap (λ o. connection_of (counted x who.id.conn b.client o) who.id.conn) (sym is)
        ∙ (ap (λ o. option_map (told_of x who.id.conn) (if_open o)) (item_with_same x.clients who.id.conn more b.client at.0)
        ∙ (ap (λ d. option_map (told_of x who.id.conn) (if d then None else Some more)) at.1
        ∙ ap (λ w. Some (moved_on w (Some e))) b.told))

-- the node has the session's connection, and refuses no call for want of it
pub known_open : (x : NodeValue) (who : Connection) → IsKnown x who → closed_refusal (open_client x who.id.conn) ≡ None
known_open x who known = ap closed_refusal (client_of x who known).is_open

-- why a call is refused wherever it comes from, if it is
unfit : (call : Call) (why : Refusal) → call_refusal call ≡ Some why → (why ≡ refusal.BadName) ⊎ (why ≡ refusal.TooLong)
unfit call why = by_call call
  where
    by_name : (b : Bool) → (if b then None else Some refusal.BadName) ≡ Some why → (why ≡ refusal.BadName) ⊎ (why ≡ refusal.TooLong)
    by_name true is = absurd (none-some why is)
    by_name false is = inl (sym (same_Some refusal.BadName why is))

    by_long : (b : Bool) → (if b then Some refusal.TooLong else None) ≡ Some why → (why ≡ refusal.BadName) ⊎ (why ≡ refusal.TooLong)
    by_long true is = inr (sym (same_Some refusal.TooLong why is))
    by_long false is = absurd (none-some why is)

    by_call : (c : Call) → call_refusal c ≡ Some why → (why ≡ refusal.BadName) ⊎ (why ≡ refusal.TooLong)
    by_call (Join g) is = by_name (is_name g) is
    by_call Leave is = absurd (none-some why is)
    by_call (Send message) is = by_long (nat_lt MOST_MESSAGE_BYTES (length message)) is
    by_call (Insert g index rule) is = by_name (is_name g) is
    by_call (Remove g id) is = by_name (is_name g) is

unfit_call : (call : Call) (why : Refusal) → call_refusal call ≡ Some why → SubmitRefuses call why
unfit_call call why is = ⊎_elim (λ (named : why ≡ refusal.BadName). subst (SubmitRefuses call) (sym named) (is ∙ ap Some named))
    (λ (long : why ≡ refusal.TooLong). subst (SubmitRefuses call) (sym long) (is ∙ ap Some long))
    (unfit call why is)

-- why the node doesn't put a call of the session among those that wait
pub submit_refuses : (x : NodeValue) (who : Connection) (call : Call) (P : Unit {0} → Type 0) (why : Refusal) → IsKnown x who → IsAnswer (submit_refusal x who.id.conn call) P (Err why) → SubmitRefuses call why
submit_refuses x who call P why known answer = by_why why (subst (λ o. IsAnswer (submit_refusal_by x call o) P (Err why)) b.is_open answer)
  where
    b : Behind x who
    b = client_of x who known

    by_full : (many : Bool) (w : Refusal) → (if many then Some refusal.QueueFull else None) ≡ Some w → call_refusal call ≡ None → SubmitRefuses call w
    by_full true w is fit = subst (SubmitRefuses call) (same_Some refusal.QueueFull w is) fit
    by_full false w is fit = absurd (none-some w is)

    by_call : (o : Option Refusal) (w : Refusal) → call_refusal call ≡ o → first_of o (full_refusal x.ring) ≡ Some w → SubmitRefuses call w
    by_call None w is first = by_full (is_full x.ring.state) w first is
    by_call (Some v) w is first = subst (SubmitRefuses call) (same_Some v w first) (unfit_call call v is)

    first_none : (o later : Option Refusal) → first_of o later ≡ None → o ≡ None
    first_none None later is = refl
    first_none (Some v) later is = absurd (none-some v (sym is))

    by_why : (w : Refusal) → IsAnswer (first_of (call_refusal call) (full_refusal x.ring)) P (Err w) → SubmitRefuses call w
    by_why refusal.Memory answer = first_none (call_refusal call) (full_refusal x.ring) answer
    by_why w answer = by_call (call_refusal call) w refl answer

-- a call that isn't put among those that wait leaves the station as it was
pub submit_err : (s now new : StationValue) (who : Connection) (call : Call) (P : Unit {0} → Type 0) (result : Result (Unit {0}) (Refused Call)) → IsKnown s.node who → now ≡ s
    → IsAnswer (submit_refusal now.node who.id.conn call) P (answer_of result) → IfErr result (λ refused. refused.back ≡ call) → OnErr result (new ≡ now)
    → IfErr result (λ refused. (refused.back ≡ call) × SubmitRefuses call refused.refusal × KeepsWatch s who new)
submit_err s now new who call P (Ok u) known same answer back unchanged = tt
submit_err s now new who call P (Err refused) known same answer back unchanged = (
  back,
  submit_refuses now.node who call P refused.refusal (subst (λ (y : StationValue). IsKnown y.node who) (sym same) known) answer,
  record { known = λ _. unchanged ∙ same; unknown = λ other. absurd (other known) },
)
