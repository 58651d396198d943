-- What connections take is a front of their inboxes.
use Rattle.std.proofs.Common.{◌≡◌, ◌≢◌, ℕ, zero, suc, ◌<◌, ◌≤◌, Bool, true, false, ◌&&◌, List, [], ◌∷◌, ◌++◌, length, take, drop, Option, Some, None, Ok, refl, sym, ap, ◌∙◌, subst, ⊎_elim, arith, append-nil, option_map, if◌then◌else◌, ◌==◌, slice_get, length-append, take-append-drop, eq-eqb, ne_eqb}
use Rattle.std.proofs.lemmas.Bool.{cases_eq}
use Rattle.std.proofs.lemmas.Option.{none-some, same_Some, slice_get-map, slice_get_within, get_or_from_slice_get}
use Rattle.std.proofs.lemmas.List.{take-append-le}
use Rattle.std.proofs.Math.Seq.{take-suc}
use Rattle.cpg_cred.specs.Listed.{Listed}
use Rattle.cpg_cred.specs.declared.refusals.Refusal.{Refusal}
use Rattle.cpg_entry.specs.declared.calls.Op.TheVariants.{Act}
use Rattle.cpg_entry.specs.declared.frames.Frame.TheVariants as frame
use Rattle.cpg_record.specs.declared.events.Event.{Event}
use Rattle.cpg_record.specs.declared.records.Record.{Record}
use Rattle.cpg_record.specs.Events.{inbox}
use Rattle.cpg_record.specs.Judging.{judged}
use Rattle.cpg_record.specs.Laws.{PrefixesAreJudgedAlike}
use Rattle.cpg_ring.specs.States.{Entry, Frame, NodeState, is_held}
use Rattle.cpg_ring.specs.declared.settings.Settings.{Settings}
use Rattle.cpg_ring.specs.Visits.{token_refusal, up_to}
use Rattle.cpg_ring.specs.Moves.{data_refusal, after_delivery}
use Rattle.cpg_ring.specs.Worlds.{RingOutcome as Reading, item, with_item, agreed, receive, receive_token, receive_data}
use Rattle.cpg_ring.proofs.Lists.{item_with_same, item_with_other, with_item_cases}
use Rattle.cpg_ring.proofs.Growth.{agreed_grows}
use Rattle.cpg_node.specs.declared.connections.Client.{Client}
use Rattle.cpg_node.specs.Nodes.{NodeValue, new_value, records_of, inbox_of, conn_id, open_client, if_open}
use Rattle.cpg_node.specs.Calls.{connect_refusal, connected, submit_refusal, submitted, with_entry, ended_by, frame_refusal, after_frame, answers_to, node_after_take, counted, next_event}
use Rattle.cpg_world_laws.specs.declared.events.WorldEvent.{WorldEvent}
use Rattle.cpg_world_laws.specs.declared.events.WorldEvent.TheVariants.{Connect, Submit, Disconnect, Frame as Arrival, Timer, Deliver, Take, List as Listing, Groups}
use Rattle.cpg_world_laws.specs.declared.replies.Reply.TheVariants as reply
use Rattle.cpg_world_laws.specs.Worlds.{WorldValue, NodeOutcome, unless, hears, moves, node_in, moved, happens, new_world}
use Rattle.cpg_world_laws.specs.Replies.{Answer, IsReply, IsAnswerAt, IsAnswerOf, take_answer}
use Rattle.cpg_world_laws.specs.Claims.{IsAgreed, taken_in, had, given_by, gives}
use Rattle.cpg_world_laws.proofs.Lists.{item_map, map_with_as, take_less}
use Rattle.cpg_record.proofs.Inboxes.{inbox_grows}

abbrev pub AllAgreed : WorldValue → Type 0
AllAgreed w = (n : ℕ) (x : NodeValue) → item w.nodes n ≡ Some x → IsAgreed w.sent x

-- other_kind connection took more than its inbox has
abbrev pub TakenWithin : NodeValue → Type 0
TakenWithin x = (conn : ℕ) → taken_in (item x.clients conn) ≤ length (inbox_of x conn)

-- the records after are those before and more
pub records_grow : PrefixesAreJudgedAlike → (F G : List Frame) (x y : NodeValue) → IsAgreed F x → IsAgreed (F ++ G) y → x.ring.state.delivered ≤ y.ring.state.delivered → (rest : List Record) × (records_of y ≡ records_of x ++ rest)
records_grow law F G x y before after more =
    (drop d (records_of y), sym (take-append-drop d (records_of y)) ∙ ap (λ l. l ++ drop d (records_of y)) front)
  where
    d : ℕ
    d = x.ring.state.delivered

    A : List Entry
    A = agreed F

    B : List Entry
    B = (agreed_grows F G).0

    front : take d (records_of y) ≡ records_of x
    front =
        ap (take d) after.records
        ∙ (take_less d y.ring.state.delivered (judged (agreed (F ++ G))) more
        ∙ (sym (law (agreed (F ++ G)) d)
        ∙ (ap (λ l. judged (take d l)) (agreed_grows F G).1
        ∙ (ap judged (take-append-le d A B before.reached)
        ∙ (law A d ∙ sym before.records)))))

inboxes_grow : PrefixesAreJudgedAlike → (F G : List Frame) (x y : NodeValue) → IsAgreed F x → IsAgreed (F ++ G) y → x.ring.state.delivered ≤ y.ring.state.delivered → y.ring.node ≡ x.ring.node → (conn : ℕ) → (rest : List Event) × (inbox_of y conn ≡ inbox_of x conn ++ rest)
inboxes_grow law F G x y before after more same conn =
    let r = records_grow law F G x y before after more in
    let i = inbox_grows (records_of x) r.0 (conn_id x conn) in
    (i.0, ap (λ n. inbox (records_of y) (record { node = n; conn = conn })) same ∙ (ap (λ l. inbox l (conn_id x conn)) r.1 ∙ i.1))

-- ---- what a move does to the delivered places and the connections

pub record Goes (x y : NodeValue) : Type 0 where
  pub delivered : x.ring.state.delivered ≤ y.ring.state.delivered
  pub number : y.ring.node ≡ x.ring.node

goes_same : (x y : NodeValue) → y.ring.state.delivered ≡ x.ring.state.delivered → y.ring.node ≡ x.ring.node → Goes x y
goes_same x y d n = record { delivered = omega arith; number = n }

goes_unless : (r : Option Refusal) (x : NodeValue) (m : NodeOutcome) → Goes x m.0 → Goes x (unless r x m).0
goes_unless None x m g = g
goes_unless (Some why) x m g = goes_same x x refl refl

heard_delivered : (s : Settings) (n : ℕ) (f : Frame) (r : NodeState) → (receive s n (Some f) r).0.delivered ≡ r.delivered
heard_delivered s n (frame.Packet p) r = by_refusal (data_refusal s r p)
  where
    by_refusal : (o : Option Refusal) → (receive_data r p o).0.delivered ≡ r.delivered
    by_refusal None = refl
    by_refusal (Some why) = refl
heard_delivered s n (frame.Token t) r = by_refusal (token_refusal s n r t)
  where
    by_refusal : (o : Option Refusal) → (receive_token s n r t o).0.delivered ≡ r.delivered
    by_refusal None = refl
    by_refusal (Some why) = refl

pub goes_moves : (sent : List Frame) (e : WorldEvent) (x : NodeValue) → Goes x (moves sent e x).0
goes_moves sent (Connect n pid cred) x = goes_unless (connect_refusal x cred) x (connected x pid cred, []) (goes_same x (connected x pid cred) refl refl)
goes_moves sent (Submit n conn call) x = goes_unless (submit_refusal x conn call) x (submitted x conn call, []) (by_client (open_client x conn))
  where
    by_client : (o : Option Client) → Goes x (with_entry x conn (Act call) o)
    by_client None = goes_same x x refl refl
    by_client (Some c) = goes_same x (with_entry x conn (Act call) (Some c)) refl refl
goes_moves sent (Disconnect n conn) x = by_client (open_client x conn)
  where
    by_client : (o : Option Client) → Goes x (ended_by x conn o)
    by_client None = goes_same x x refl refl
    by_client (Some c) = goes_same x (ended_by x conn (Some c)) refl refl
goes_moves sent (Arrival n k) x = by_frame (item sent k)
  where
    by_frame : (o : Option Frame) → Goes x (hears o x).0
    by_frame None = goes_same x x refl refl
    by_frame (Some f) = goes_unless (frame_refusal x f) x (after_frame x f, answers_to x f) (goes_same x (after_frame x f) (heard_delivered x.ring.settings x.ring.node f x.ring.state) refl)
goes_moves sent (Timer n) x = goes_same x x refl refl
goes_moves sent (Deliver n) x = record { delivered = by_test (is_held x.ring.state.held (suc x.ring.state.delivered)); number = refl }
  where
    by_test : (b : Bool) → x.ring.state.delivered ≤ (let move : Reading = if b then (after_delivery x.ring.state, []) else (x.ring.state, []) in move.0.delivered)
    by_test true = omega arith
    by_test false = omega arith
goes_moves sent (Take n conn) x = by_client (open_client x conn)
  where
    by_event : (c : Client) (o : Option Event) → Goes x (counted x conn c o)
    by_event c None = goes_same x x refl refl
    by_event c (Some event) = goes_same x (counted x conn c (Some event)) refl refl

    by_client : (o : Option Client) → Goes x (node_after_take x conn o)
    by_client None = goes_same x x refl refl
    by_client (Some c) = by_event c (next_event x conn c)
goes_moves sent (Listing n conn g) x = goes_same x x refl refl
goes_moves sent (Groups n conn) x = goes_same x x refl refl

-- the open connection of a number is the one of that number
pub open_is : (x : NodeValue) (conn : ℕ) (c : Client) → open_client x conn ≡ Some c → item x.clients conn ≡ Some c
open_is x conn c = by_item (item x.clients conn)
  where
    by_ended : (b : Bool) (d : Client) → (if b then None else Some d) ≡ Some c → Some d ≡ Some c
    by_ended true d h = absurd (none-some c h)
    by_ended false d h = h

    by_item : (o : Option Client) → if_open o ≡ Some c → o ≡ Some c
    by_item None h = absurd (none-some c h)
    by_item (Some d) h = by_ended d.ended d h

-- ---- how many events a connection took

abbrev or_zero : Option ℕ → ℕ
or_zero None = 0
or_zero (Some n) = n

taken_is : (o : Option Client) → taken_in o ≡ or_zero (option_map (λ (c : Client). c.taken) o)
taken_is None = refl
taken_is (Some c) = refl

-- a connection that is changed in other ways took as many
taken_with : (cs : List Client) (n m : ℕ) (c d : Client) → item cs n ≡ Some c → d.taken ≡ c.taken → taken_in (item (with_item cs n d) m) ≡ taken_in (item cs m)
taken_with cs n m c d is same =
    let count : Client → ℕ = λ x. x.taken in
    taken_is (item (with_item cs n d) m)
    ∙ (ap or_zero (sym (item_map count (with_item cs n d) m) ∙ (ap (λ l. item l m) (map_with_as count cs n c d is same) ∙ item_map count cs m))
    ∙ sym (taken_is (item cs m)))

taken_push : (cs : List Client) (c : Client) (k : ℕ) → c.taken ≡ 0 → taken_in (slice_get (cs ++ c ∷ []) k) ≡ taken_in (slice_get cs k)
taken_push [] c zero is = is
taken_push [] c (suc k) is = refl
taken_push (d ∷ cs) c zero is = refl
taken_push (d ∷ cs) c (suc k) is = taken_push cs c k is

taken_new : (cs : List Client) (c : Client) (n : ℕ) → c.taken ≡ 0 → taken_in (item (cs ++ c ∷ []) n) ≡ taken_in (item cs n)
taken_new cs c zero is = refl
taken_new cs c (suc k) is = taken_push cs c k is

abbrev SameTaken : NodeValue → NodeValue → Type 0
SameTaken x y = (conn : ℕ) → taken_in (item y.clients conn) ≡ taken_in (item x.clients conn)

same_unless : (r : Option Refusal) (x : NodeValue) (m : NodeOutcome) → SameTaken x m.0 → SameTaken x (unless r x m).0
same_unless None x m s = s
same_unless (Some why) x m s = λ conn. refl

-- whether an event is a Take
abbrev IsTake : WorldEvent → Type 0
IsTake (Take n conn) = Unit {0}
IsTake _ = ⊥

same_moves : (sent : List Frame) (e : WorldEvent) (x : NodeValue) → ¬ IsTake e → SameTaken x (moves sent e x).0
same_moves sent (Connect n pid cred) x other_kind = same_unless (connect_refusal x cred) x (connected x pid cred, []) (λ conn. taken_new x.clients _ conn refl)
same_moves sent (Submit n conn call) x other_kind = same_unless (submit_refusal x conn call) x (submitted x conn call, []) (by_client (open_client x conn))
  where
    by_client : (o : Option Client) → SameTaken x (with_entry x conn (Act call) o)
    by_client None = λ k. refl
    by_client (Some c) = λ k. refl
same_moves sent (Disconnect n conn) x other_kind = by_client (open_client x conn) refl
  where
    by_client : (o : Option Client) → open_client x conn ≡ o → SameTaken x (ended_by x conn o)
    by_client None is = λ k. refl
    by_client (Some c) is = λ k. taken_with x.clients conn k c (record c { ended = true }) (open_is x conn c is) refl
same_moves sent (Arrival n k) x other_kind = by_frame (item sent k)
  where
    by_frame : (o : Option Frame) → SameTaken x (hears o x).0
    by_frame None = λ m. refl
    by_frame (Some f) = same_unless (frame_refusal x f) x (after_frame x f, answers_to x f) (λ m. refl)
same_moves sent (Timer n) x other_kind = λ k. refl
same_moves sent (Deliver n) x other_kind = λ k. refl
same_moves sent (Take n conn) x other_kind = absurd (other_kind tt)
same_moves sent (Listing n conn g) x other_kind = λ k. refl
same_moves sent (Groups n conn) x other_kind = λ k. refl

no_gift : (n conn : ℕ) (e : WorldEvent) (a : Answer) → ¬ IsTake e → gives n conn e a ≡ []
no_gift n conn (Take m other) a other_kind = absurd (other_kind tt)
no_gift n conn _ a other_kind = refl

-- what a node and its connection have after an event, where the connection had so much before
record Step (x y : NodeValue) (conn : ℕ) (gift : List Event) : Type 0 where
  front : take (taken_in (item x.clients conn)) (inbox_of x conn) ++ gift ≡ take (taken_in (item y.clients conn)) (inbox_of y conn)
  within : taken_in (item y.clients conn) ≤ length (inbox_of y conn)

-- an event that is other_kind Take gives nothing, and what was taken stays
quiet_step : (x y : NodeValue) (conn : ℕ) → taken_in (item x.clients conn) ≤ length (inbox_of x conn) → ((rest : List Event) × (inbox_of y conn ≡ inbox_of x conn ++ rest)) → taken_in (item y.clients conn) ≡ taken_in (item x.clients conn) → Step x y conn []
quiet_step x y conn within grows same = record {
  front = append-nil _ ∙ (sym (take-append-le t (inbox_of x conn) grows.0 within) ∙ (ap (take t) (sym grows.1) ∙ ap (λ k. take k (inbox_of y conn)) (sym same)));
  within = let l = length-append (inbox_of x conn) grows.0 in let g = ap length grows.1 in omega arith;
}
  where
    t : ℕ
    t = taken_in (item x.clients conn)

-- a Take gives the next event to its connection
take_step : (x : NodeValue) (other : ℕ) (o : Option Client) → open_client x other ≡ o → (conn : ℕ) → taken_in (item x.clients conn) ≤ length (inbox_of x conn) → Step x (node_after_take x other o) conn (if other == conn then given_by (take_answer x other o) else [])
take_step x other None is conn within = by_test (other == conn)
  where
    by_test : (b : Bool) → Step x x conn (if b then [] else [])
    by_test true = quiet_step x x conn within ([], sym (append-nil _)) refl
    by_test false = quiet_step x x conn within ([], sym (append-nil _)) refl
take_step x other (Some c) is conn within = by_event (next_event x other c) refl
  where
    at : item x.clients other ≡ Some c
    at = open_is x other c is

    by_event : (e : Option Event) → next_event x other c ≡ e → Step x (counted x other c e) conn (if other == conn then given_by (Ok (reply.Took e)) else [])
    by_event None other_kind = by_test (other == conn)
      where
        by_test : (b : Bool) → Step x x conn (if b then [] else [])
        by_test true = quiet_step x x conn within ([], sym (append-nil _)) refl
        by_test false = quiet_step x x conn within ([], sym (append-nil _)) refl
    by_event (Some event) found = ⊎_elim here there (cases_eq other conn)
      where
        y : NodeValue
        y = counted x other c (Some event)

        here : other ≡ conn → Step x y conn (if other == conn then event ∷ [] else [])
        here same = subst (λ k. Step x y k (if other == k then event ∷ [] else [])) same (subst (λ b. Step x y other (if b then event ∷ [] else [])) (sym (eq-eqb other other refl)) (record {
          front = ap (λ t. take t (inbox_of x other) ++ event ∷ []) before ∙ (sym (take-suc (inbox_of x other) c.taken event inside ∙ ap (λ e. take c.taken (inbox_of x other) ++ e ∷ []) (get_or_from_slice_get (inbox_of x other) c.taken event event found)) ∙ ap (λ t. take t (inbox_of x other)) (sym after));
          within = subst (λ t. t ≤ length (inbox_of x other)) (sym after) (let i = inside in let l : suc c.taken ≤ length (inbox_of x other) = omega arith in l);
        }))
          where
            inside : c.taken < length (inbox_of x other)
            inside = slice_get_within (inbox_of x other) c.taken event found

            before : taken_in (item x.clients other) ≡ c.taken
            before = ap taken_in at

            after : taken_in (item y.clients other) ≡ suc c.taken
            after = ap taken_in (item_with_same x.clients other (record c { taken = suc c.taken }) c at)

        there : other ≢ conn → Step x y conn (if other == conn then event ∷ [] else [])
        there apart = subst (λ b. Step x y conn (if b then event ∷ [] else [])) (sym (ne_eqb other conn apart)) (quiet_step x y conn within ([], sym (append-nil _)) (ap taken_in (item_with_other x.clients other conn (record c { taken = suc c.taken }) (λ e. apart (sym e)))))

-- ---- in a world

abbrev pub AllWithin : WorldValue → Type 0
AllWithin w = (n : ℕ) (x : NodeValue) → item w.nodes n ≡ Some x → TakenWithin x

gives_other : (n conn : ℕ) (e : WorldEvent) (a : Answer) → n ≢ node_in e → gives n conn e a ≡ []
gives_other n conn (Take m other) a apart = ap (λ b. if b && (other == conn) then given_by a else []) (ne_eqb m n (λ e. apart (sym e)))
gives_other n conn _ a apart = refl

-- what a Take gives its connection
abbrev own_gift : ℕ → WorldEvent → NodeValue → List Event
own_gift conn (Take m other) x = if other == conn then given_by (take_answer x other (open_client x other)) else []
own_gift conn _ x = []

gift_is : (sent : List Frame) (conn : ℕ) (e : WorldEvent) (a : Answer) (x : NodeValue) → IsAnswerAt sent e x a → own_gift conn e x ≡ gives (node_in e) conn e a
gift_is sent conn (Take m other) a x answer = ap (λ g. if other == conn then given_by g else []) (sym answer) ∙ sym (ap (λ b. if b && (other == conn) then given_by a else []) (eq-eqb m m refl))
gift_is sent conn _ a x answer = refl

quiet_at : PrefixesAreJudgedAlike → (sent G : List Frame) (e : WorldEvent) (x : NodeValue) → ¬ IsTake e → IsAgreed sent x → IsAgreed (sent ++ G) (moves sent e x).0 → TakenWithin x → (conn : ℕ) → Step x (moves sent e x).0 conn []
quiet_at law sent G e x other_kind before after within conn =
    let g = goes_moves sent e x in
    quiet_step x (moves sent e x).0 conn (within conn) (inboxes_grow law sent G x (moves sent e x).0 before after g.delivered g.number conn) (same_moves sent e x other_kind conn)

at_node : PrefixesAreJudgedAlike → (sent G : List Frame) (e : WorldEvent) (x : NodeValue) → IsAgreed sent x → IsAgreed (sent ++ G) (moves sent e x).0 → TakenWithin x → (conn : ℕ) → Step x (moves sent e x).0 conn (own_gift conn e x)
at_node law sent G (Take m other) x before after within conn = take_step x other (open_client x other) refl conn (within conn)
at_node law sent G (Connect m pid cred) x before after within conn = quiet_at law sent G (Connect m pid cred) x (λ t. t) before after within conn
at_node law sent G (Submit m other call) x before after within conn = quiet_at law sent G (Submit m other call) x (λ t. t) before after within conn
at_node law sent G (Disconnect m other) x before after within conn = quiet_at law sent G (Disconnect m other) x (λ t. t) before after within conn
at_node law sent G (Arrival m k) x before after within conn = quiet_at law sent G (Arrival m k) x (λ t. t) before after within conn
at_node law sent G (Timer m) x before after within conn = quiet_at law sent G (Timer m) x (λ t. t) before after within conn
at_node law sent G (Deliver m) x before after within conn = quiet_at law sent G (Deliver m) x (λ t. t) before after within conn
at_node law sent G (Listing m other g) x before after within conn = quiet_at law sent G (Listing m other g) x (λ t. t) before after within conn
at_node law sent G (Groups m other) x before after within conn = quiet_at law sent G (Groups m other) x (λ t. t) before after within conn

pub within_step : PrefixesAreJudgedAlike → (w : WorldValue) (e : WorldEvent) → AllAgreed w → AllAgreed (happens w e) → AllWithin w → AllWithin (happens w e)
within_step law w e before after within = by_node (item w.nodes (node_in e)) refl after
  where
    by_node : (o : Option NodeValue) → item w.nodes (node_in e) ≡ o → AllAgreed (moved w (node_in e) o (moves w.sent e)) → AllWithin (moved w (node_in e) o (moves w.sent e))
    by_node None is agreed n z at = within n z at
    by_node (Some x) is agreed n z at = ⊎_elim
        (λ (q : (n ≡ node_in e) × (y ≡ z)). subst TakenWithin q.1 (λ conn. (at_node law w.sent (moves w.sent e x).1 e x (before (node_in e) x is) (agreed (node_in e) y is_y) (within (node_in e) x is) conn).within))
        (λ (q : (n ≢ node_in e) × (item w.nodes n ≡ Some z)). within n z q.1)
        (with_item_cases w.nodes (node_in e) n y z at)
      where
        y : NodeValue
        y = (moves w.sent e x).0

        is_y : item (with_item w.nodes (node_in e) y) (node_in e) ≡ Some y
        is_y = item_with_same w.nodes (node_in e) y x is

pub gift_step : PrefixesAreJudgedAlike → (w : WorldValue) (e : WorldEvent) (a : Answer) → AllAgreed w → AllAgreed (happens w e) → AllWithin w → IsReply w e a → (n conn : ℕ) → had (item w.nodes n) conn ++ gives n conn e a ≡ had (item (happens w e).nodes n) conn
gift_step law w e a before after within reply n conn = by_node (item w.nodes (node_in e)) refl after reply
  where
    by_node : (o : Option NodeValue) → item w.nodes (node_in e) ≡ o → AllAgreed (moved w (node_in e) o (moves w.sent e)) → IsAnswerOf w.sent e o a → had (item w.nodes n) conn ++ gives n conn e a ≡ had (item (moved w (node_in e) o (moves w.sent e)).nodes n) conn
    by_node None is agreed answer = absurd answer
    by_node (Some x) is agreed answer = ⊎_elim here there (cases_eq n (node_in e))
      where
        y : NodeValue
        y = (moves w.sent e x).0

        is_y : item (with_item w.nodes (node_in e) y) (node_in e) ≡ Some y
        is_y = item_with_same w.nodes (node_in e) y x is

        step : Step x y conn (own_gift conn e x)
        step = at_node law w.sent (moves w.sent e x).1 e x (before (node_in e) x is) (agreed (node_in e) y is_y) (within (node_in e) x is) conn

        at_own : had (Some x) conn ++ gives (node_in e) conn e a ≡ had (Some y) conn
        at_own = ap (λ g. had (Some x) conn ++ g) (sym (gift_is w.sent conn e a x answer)) ∙ step.front

        here : n ≡ node_in e → had (item w.nodes n) conn ++ gives n conn e a ≡ had (item (with_item w.nodes (node_in e) y) n) conn
        here same = subst (λ m. had (item w.nodes m) conn ++ gives m conn e a ≡ had (item (with_item w.nodes (node_in e) y) m) conn) (sym same)
            (ap (λ o. had o conn ++ gives (node_in e) conn e a) is ∙ (at_own ∙ ap (λ o. had o conn) (sym is_y)))

        there : n ≢ node_in e → had (item w.nodes n) conn ++ gives n conn e a ≡ had (item (with_item w.nodes (node_in e) y) n) conn
        there apart = ap (λ l. had (item w.nodes n) conn ++ l) (gives_other n conn e a apart) ∙ (append-nil _ ∙ ap (λ o. had o conn) (sym (item_with_other w.nodes (node_in e) n y apart)))

-- in a new world nothing was taken
pub within_new : (s : Settings) (list : Listed) → AllWithin (new_world s list)
within_new s list zero x at = absurd (none-some x at)
within_new s list (suc k) x at = made (slice_get (up_to s.nodes) k) (sym (slice_get-map (λ n. new_value s n list) (up_to s.nodes) k) ∙ at)
  where
    nobody : (n conn : ℕ) → taken_in (item (new_value s n list).clients conn) ≡ 0
    nobody n zero = refl
    nobody n (suc k) = refl

    made : (o : Option ℕ) → option_map (λ n. new_value s n list) o ≡ Some x → TakenWithin x
    made None is = absurd (none-some x is)
    made (Some n) is = subst TakenWithin (same_Some (new_value s n list) x is) (λ conn. let z = nobody n conn in omega arith)
