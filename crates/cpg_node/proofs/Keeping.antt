-- What the moves of a node's ring keep.
use Rattle.std.proofs.Common.{get_or, ◌≡◌, ◌≢◌, ℕ, zero, suc, ◌+◌, ◌<◌, ◌≤◌, Bool, true, false, List, [], ◌∷◌, ◌++◌, length, take, map, Option, Some, None, IfSome, All, refl, sym, ap, ◌∙◌, subst, ⊎_elim, arith, if◌then◌else◌, ◌==◌, option_map, length-append, length-take, Result, Ok, Err, OnErr}
use Rattle.std.specs.List.{AllByRecursion, filter_map, cons_option}
use Rattle.std.specs.FinMap.{get, insert, get-empty}
use Rattle.std.proofs.lemmas.Option.{none-some, same_Some}
use Rattle.std.proofs.lemmas.Bool.{cases_eq}
use Rattle.std.proofs.Math.Seq.{take-suc}
use Rattle.std.proofs.lemmas.List.Elements.{recursion_from_All, All-from_recursion, All-push, All-take, All-drop, All-nil, filter_map-append}
use Rattle.cpg_cred.specs.declared.refusals.Refusal.{Refusal}
use Rattle.cpg_cred.specs.declared.refusals.Refused.{Refused}
use Rattle.cpg_entry.specs.declared.frames.Frame.TheVariants as frame
use Rattle.cpg_entry.specs.Ranges.{Within, IsEntry, IsPacket, IsToken}
use Rattle.cpg_entry.specs.declared.ranges.TheConstants.{MOST_PLACES}
use Rattle.cpg_ring.specs.States.{Entry, Packet, Token, Frame, HeldPlaces, NodeState}
use Rattle.cpg_ring.specs.declared.settings.Settings.{Settings}
use Rattle.cpg_ring.specs.Visits.{token_refusal, packet_at, served, placed, hold_all, burst_size, visit_step, up_to}
use Rattle.cpg_ring.specs.Moves.{data_refusal, after_data, after_entry, next_entry, after_delivery, first_token}
use Rattle.cpg_ring.specs.Laws.{AllHeld}
use Rattle.cpg_ring.specs.Answers.{IsAnswer, answer_of}
use Rattle.cpg_ring.specs.Rings.{RingNode, new_ring_node, with_state, refusal_of, data_refusal_of, step_of, visit_of, visited}
use Rattle.cpg_ring.proofs.Holding.{put_cases, put_grows, Grows}
use Rattle.cpg_ring.proofs.Amounts.{accepted, placed_keeps}
use Rattle.cpg_ring.proofs.Rings.{data_accepted}
use Rattle.cpg_record.specs.declared.records.Record.{Record}
use Rattle.cpg_record.specs.Judging.{judged, record_of, IsNext}
use Rattle.cpg_record.proofs.Denials.{each_entry_is_judged}
use Rattle.cpg_node.specs.Nodes.{NodeValue, with_ring, delivered_entries, if_open}
use Rattle.cpg_node.specs.Calls.{answers_to, after_frame}
use Rattle.cpg_wire.specs.declared.codes.Version.TheVariants.{Two}
use Rattle.cpg_wire.specs.Spelling.{spelling}
use Rattle.std.proofs.lemmas.List.{map-append, length-map}
use Rattle.cpg_ring.specs.Worlds.{RingOutcome, item, receive_token}
use Rattle.cpg_ring.proofs.Lists.{item_within}
use Rattle.cpg_node.specs.declared.connections.Client.{Client}
use Rattle.cpg_node.specs.Answers.{spelled, CanBeSpelled}
use Rattle.cpg_node.specs.Kept.{IsSound, IsKeptBy, IsNodeKept}

-- ---- a place held never changes its entry

-- where nothing that was held is lost, the delivered entries stay
pub delivered_stay : (held new : HeldPlaces) (d : ℕ) → AllHeld held d → Grows held new → filter_map (get new) (up_to d) ≡ filter_map (get held) (up_to d)
delivered_stay held new zero all grows = refl
delivered_stay held new (suc d) all grows =
    let here = all (suc d) (omega arith) (omega arith) in
    filter_map-append (get new) (up_to d) (suc d ∷ [])
    ∙ (ap (λ l. l ++ filter_map (get new) (suc d ∷ [])) (delivered_stay held new d (λ place low high. all place low (omega arith)) grows)
    ∙ (ap (λ o. filter_map (get held) (up_to d) ++ cons_option o []) (grows.at (suc d) here.0 here.1 ∙ sym here.1)
    ∙ sym (filter_map-append (get held) (up_to d) (suc d ∷ []))))

pub held_on : (held new : HeldPlaces) (d : ℕ) → AllHeld held d → Grows held new → AllHeld new d
held_on held new d all grows place low high = let h = all place low high in (h.0, grows.at place h.0 h.1)

pub data_grows : (s : Settings) (r : NodeState) (p : Packet) → data_refusal s r p ≡ None → Grows r.held (insert r.held p.place p.entry)
data_grows s r p none = put_grows r.held p.place p.entry (data_accepted s r p none).1

pub visit_grows : (s : Settings) (n : ℕ) (r : NodeState) (t : Token) → token_refusal s n r t ≡ None → Grows r.held (visit_step s n r t).held
visit_grows s n r t none = record { at = λ place e g. placed_keeps s r.held t.seq (take (burst_size s r t.seq) r.waiting) place ((accepted s n r t none).above place (e, g)) ∙ g }

-- one place more is delivered
pub delivered_more : (r : NodeState) (e : Entry) → next_entry r ≡ Some e → delivered_entries (after_delivery r) ≡ delivered_entries r ++ e ∷ []
delivered_more r e is = filter_map-append (get r.held) (up_to r.delivered) (suc r.delivered ∷ []) ∙ ap (λ o. delivered_entries r ++ cons_option o []) is

-- no more than were counted
pub delivered_within : (r : NodeState) → length (delivered_entries r) ≤ r.delivered
delivered_within r = within (get r.held) r.delivered
  where
    at_most_one : (o : Option Entry) → length (cons_option o []) ≤ 1
    at_most_one None = omega arith
    at_most_one (Some e) = omega arith

    within : (f : ℕ → Option Entry) (d : ℕ) → length (filter_map f (up_to d)) ≤ d
    within f zero = omega arith
    within f (suc d) =
        let e = ap length (filter_map-append f (up_to d) (suc d ∷ [])) in
        let l = length-append (filter_map f (up_to d)) (cons_option (f (suc d)) []) in
        let one = at_most_one (f (suc d)) in
        let before = within f d in
        omega arith

-- ---- all that may be sent keeps the rules of a frame

abbrev HeldKeepsRules : ℕ → HeldPlaces → Type 0
HeldKeepsRules number held = (place : ℕ) (e : Entry) → get held place ≡ Some e → IsPacket (record { ring = number; place = place; entry = e })

one_held : (number : ℕ) (held : HeldPlaces) (p : Packet) → IsPacket p → HeldKeepsRules number held → HeldKeepsRules number (insert held p.place p.entry)
one_held number held p is old place e g = ⊎_elim
    (λ (same : (place ≡ p.place) × (p.entry ≡ e)). record { place = subst (Within 1 MOST_PLACES) (sym same.0) is.place; entry = subst IsEntry same.1 is.entry })
    (old place e)
    (put_cases held p.place p.entry place e g)

burst_held : (number : ℕ) (held : HeldPlaces) (ps : List Packet) → AllByRecursion IsPacket ps → HeldKeepsRules number held → HeldKeepsRules number (hold_all held ps)
burst_held number held [] are old = old
burst_held number held (p ∷ ps) are old = burst_held number (insert held p.place p.entry) ps are.1 (one_held number held p are.0 old)

placed_ruled : (s : Settings) (seq : ℕ) (now : List Entry) → seq + length now ≤ MOST_PLACES → AllByRecursion IsEntry now → AllByRecursion IsPacket (placed s seq now)
placed_ruled s seq [] most are = tt
placed_ruled s seq (e ∷ now) most are = (record { place = (omega arith, omega arith); entry = are.0 }, placed_ruled s (suc seq) now (omega arith) are.1)

served_ruled : (s : Settings) (held : HeldPlaces) (asked : List ℕ) → HeldKeepsRules s.ring held → AllByRecursion IsPacket (served s held asked)
served_ruled s held [] are = tt
served_ruled s held (place ∷ asked) are = by_entry (get held place) refl (served_ruled s held asked are)
  where
    by_entry : (o : Option Entry) → get held place ≡ o → AllByRecursion IsPacket (served s held asked) → AllByRecursion IsPacket (cons_option (option_map (λ e. let p : Packet = record { ring = s.ring; place = place; entry = e } in p) o) (served s held asked))
    by_entry None is rest = rest
    by_entry (Some e) is rest = (are place e is, rest)

are_packets : (ps qs : List Packet) → AllByRecursion IsPacket ps → AllByRecursion IsPacket qs → AllByRecursion IsPacket (ps ++ qs)
are_packets [] qs a b = b
are_packets (p ∷ ps) qs a b = (a.0, are_packets ps qs a.1 b)

-- the entries that take places at a visit
abbrev now_of : RingNode → Token → List Entry
now_of x t = take (burst_size x.settings x.state t.seq) x.state.waiting

new_ruled : (x : RingNode) (t : Token) → IsSound x → IsToken (step_of x t).token → AllByRecursion IsPacket (placed x.settings t.seq (now_of x t))
new_ruled x t sound next = placed_ruled x.settings t.seq (now_of x t) next.seq (recursion_from_All IsEntry (now_of x t) (All-take IsEntry (burst_size x.settings x.state t.seq) x.state.waiting sound.waiting))

pub packets_ruled : (x : RingNode) (t : Token) → IsSound x → IsToken (step_of x t).token → All IsPacket (step_of x t).packets
packets_ruled x t sound next =
    All-from_recursion IsPacket (step_of x t).packets
    (are_packets (served x.settings x.state.held t.rtr) (placed x.settings t.seq (now_of x t)) (served_ruled x.settings x.state.held t.rtr sound.held) (new_ruled x t sound next))

-- ---- the moves

pub sound_entry : (x : RingNode) (e : Entry) → IsSound x → IsEntry e → IsSound (with_state x (after_entry x.state e))
sound_entry x e sound is = record { delivered = sound.delivered; waiting = All-push IsEntry x.state.waiting e sound.waiting is; held = sound.held; last_token = sound.last_token }

pub sound_data : (x : RingNode) (p : Packet) → IsSound x → IsPacket p → data_refusal_of x p ≡ None → IsSound (with_state x (after_data x.state p))
sound_data x p sound is none = record {
  delivered = held_on x.state.held _ x.state.delivered sound.delivered (data_grows x.settings x.state p none);
  waiting = sound.waiting;
  held = one_held x.settings.ring x.state.held p is sound.held;
  last_token = sound.last_token;
}

pub sound_token : (x : RingNode) (t : Token) → IsSound x → refusal_of x t ≡ None → IsToken (step_of x t).token → IsSound (visited x t)
sound_token x t sound none next = record {
  delivered = held_on x.state.held _ x.state.delivered sound.delivered (visit_grows x.settings x.node x.state t none);
  waiting = All-drop IsEntry k x.state.waiting sound.waiting;
  held = burst_held x.settings.ring x.state.held (placed x.settings t.seq (now_of x t)) (new_ruled x t sound next) sound.held;
  last_token = next;
}
  where
    k : ℕ
    k = burst_size x.settings x.state t.seq

pub sound_delivery : (x : RingNode) (e : Entry) → IsSound x → next_entry x.state ≡ Some e → IsSound (with_state x (after_delivery x.state))
sound_delivery x e sound is = record {
  delivered = λ place low high. ⊎_elim (λ (same : place ≡ suc x.state.delivered). (e, subst (λ q. get x.state.held q ≡ Some e) (sym same) is)) (λ (apart : place ≢ suc x.state.delivered). sound.delivered place low (omega arith)) (cases_eq place (suc x.state.delivered));
  waiting = sound.waiting;
  held = sound.held;
  last_token = sound.last_token;
}

pub judged_data : (x : RingNode) (p : Packet) → IsSound x → data_refusal_of x p ≡ None → delivered_entries (after_data x.state p) ≡ delivered_entries x.state
judged_data x p sound none = delivered_stay x.state.held _ x.state.delivered sound.delivered (data_grows x.settings x.state p none)

pub judged_token : (x : RingNode) (t : Token) → IsSound x → refusal_of x t ≡ None → delivered_entries (visited x t).state ≡ delivered_entries x.state
judged_token x t sound none = delivered_stay x.state.held _ x.state.delivered sound.delivered (visit_grows x.settings x.node x.state t none)

-- a new node
pub sound_new : (s : Settings) (n : ℕ) → IsSound (new_ring_node s n)
sound_new s n = record {
  delivered = λ place low high. absurd (omega arith);
  waiting = All-nil IsEntry;
  held = λ place e g. absurd (none-some e (sym (get-empty _ place) ∙ g));
  last_token = by_test (n == s.nodes);
}
  where
    by_test : (b : Bool) → IfSome (if b then Some (first_token s) else None) IsToken
    by_test true = record { hop = omega arith; seq = omega arith; aru = omega arith; count = omega arith; rtr = tt }
    by_test false = tt

-- ---- whatever a call answers

same_ring : (x : RingNode) → IsSound x → IsKeptBy x x
same_ring x sound = record { sound = sound; judged = refl; node = refl }

pub heard_data : (x y : RingNode) (p : Packet) (result : Result Unit (Refused Packet)) → IsSound x → IsPacket p → IsAnswer (data_refusal_of x p) (λ _. y ≡ with_state x (after_data x.state p)) (answer_of result) → OnErr result (y ≡ x) → IsKeptBy x y
heard_data x y p (Ok u) sound is answer err = subst (IsKeptBy x) (sym answer.1) (record { sound = sound_data x p sound is answer.0; judged = judged_data x p sound answer.0; node = refl })
heard_data x y p (Err why) sound is answer err = subst (IsKeptBy x) (sym err) (same_ring x sound)

pub heard_token : (x y : RingNode) (t : Token) → IsSound x → refusal_of x t ≡ None → IsToken (step_of x t).token → y ≡ visited x t → IsKeptBy x y
heard_token x y t sound none next made = subst (IsKeptBy x) (sym made) (record { sound = sound_token x t sound none next; judged = judged_token x t sound none; node = refl })

pub refused_token : (x y : RingNode) → IsSound x → y ≡ x → IsKeptBy x y
refused_token x y sound same = subst (IsKeptBy x) (sym same) (same_ring x sound)

pub entered : (x y : RingNode) (e : Entry) (full : Option Refusal) (result : Result Unit (Refused Entry)) → IsSound x → IsEntry e → IsAnswer full (λ _. y ≡ with_state x (after_entry x.state e)) (answer_of result) → OnErr result (y ≡ x) → IsKeptBy x y
entered x y e full (Ok u) sound is answer err = subst (IsKeptBy x) (sym answer.1) (record { sound = sound_entry x e sound is; judged = refl; node = refl })
entered x y e full (Err why) sound is answer err = subst (IsKeptBy x) (sym err) (same_ring x sound)

-- the node, where its ring moved and it has as many connections
pub node_kept : (id : ℕ) (x y : RingNode) (clients more : List Client) (policy : List Entry) → IsNodeKept id x clients policy → IsKeptBy x y → length more ≡ length clients → IsNodeKept id y more policy
node_kept id x y clients more policy kept by same = record { numbered = kept.numbered ∙ sym by.node; judged = kept.judged ∙ sym by.judged; sound = by.sound; counted = let l = kept.counted in omega arith }

-- the connection that is open has a number
pub open_within : (clients : List Client) (conn : ℕ) (c : Client) → if_open (item clients conn) ≡ Some c → (1 ≤ conn) × (conn ≤ length clients)
open_within clients conn c h = by_item (item clients conn) refl h
  where
    by_item : (o : Option Client) → item clients conn ≡ o → if_open o ≡ Some c → (1 ≤ conn) × (conn ≤ length clients)
    by_item None is h = absurd (none-some c h)
    by_item (Some d) is h = item_within clients conn d is

-- the spellings of frames, and one more
pub spelled_push : (fs : List Frame) (f : Frame) (bs : List (List ℕ)) (b : List ℕ) → bs ≡ spelled fs → b ≡ spelling Two f → bs ++ b ∷ [] ≡ spelled (fs ++ f ∷ [])
spelled_push fs f bs b are is = ap (λ l. l ++ b ∷ []) are ∙ (ap (λ x. spelled fs ++ x ∷ []) is ∙ sym (map-append (spelling Two) fs (f ∷ [])))

-- what a node that accepts a token sends, and the node after it
pub token_heard : (x : NodeValue) (t : Token) → refusal_of x.ring t ≡ None → (answers_to x (frame.Token t) ≡ map frame.Packet (visit_of x.ring t).packets ++ frame.Token (visit_of x.ring t).token ∷ []) × (after_frame x (frame.Token t) ≡ with_ring x (visited x.ring t).state)
token_heard x t none = (
  ap (λ r. let move : RingOutcome = receive_token x.ring.settings x.ring.node x.ring.state t r in move.1) none,
  ap (λ r. let move : RingOutcome = receive_token x.ring.settings x.ring.node x.ring.state t r in with_ring x move.0) none,
)

-- a visit sends at most 41 frames: 32 again, 8 new, the token
served_few : (s : Settings) (held : HeldPlaces) (asked : List ℕ) → length (served s held asked) ≤ length asked
served_few s held [] = omega arith
served_few s held (place ∷ asked) = by_packet (packet_at s held place) (served_few s held asked)
  where
    by_packet : (o : Option Packet) → length (served s held asked) ≤ length asked → length (cons_option o (served s held asked)) ≤ suc (length asked)
    by_packet None l = omega arith
    by_packet (Some p) l = omega arith

placed_few : (s : Settings) (seq : ℕ) (now : List Entry) → length (placed s seq now) ≡ length now
placed_few s seq [] = refl
placed_few s seq (e ∷ now) = ap suc (placed_few s (suc seq) now)

pub visit_few : (x : RingNode) (t : Token) (list : List (List ℕ)) → IsToken t → list ≡ spelled (map frame.Packet (visit_of x t).packets ++ frame.Token (visit_of x t).token ∷ []) → length list ≤ 41
visit_few x t list is made =
    let l = ap length made ∙ length-map (map frame.Packet (visit_of x t).packets ++ frame.Token (visit_of x t).token ∷ []) (spelling Two) in
    let a = length-append (map frame.Packet (visit_of x t).packets) (frame.Token (visit_of x t).token ∷ []) in
    let m = length-map (visit_of x t).packets frame.Packet in
    let b = length-append (served x.settings x.state.held t.rtr) (placed x.settings t.seq (now_of x t)) in
    let p = placed_few x.settings t.seq (now_of x t) in
    let n = length-take (burst_size x.settings x.state t.seq) x.state.waiting in
    let f = served_few x.settings x.state.held t.rtr in
    let c = is.count in
    omega arith

-- ---- judging the next place

-- there is room for the record of a place that is held
pub can_judge : (x : RingNode) (policy : List Entry) (e : Entry) → policy ≡ delivered_entries x.state → IsSound x → next_entry x.state ≡ Some e → length policy < 1048576
can_judge x policy e judged sound is =
    let l = delivered_within x.state in
    let same = ap length judged in
    let high = (sound.held (suc x.state.delivered) e is).place.1 in
    omega arith

record Next (x : RingNode) (next : Record) : Type 0 where
  entry : Entry
  held : next_entry x.state ≡ Some entry
  made : next ≡ record_of (judged (delivered_entries x.state)) entry

next_of : (x : RingNode) (next : Record) → option_map (record_of (judged (delivered_entries x.state))) (next_entry x.state) ≡ Some next → Next x next
next_of x next h = by_entry (next_entry x.state) refl h
  where
    by_entry : (o : Option Entry) → next_entry x.state ≡ o → option_map (record_of (judged (delivered_entries x.state))) o ≡ Some next → Next x next
    by_entry None is h = absurd (none-some next h)
    by_entry (Some e) is h = record { entry = e; held = is; made = sym (same_Some (record_of (judged (delivered_entries x.state)) e) next h) }

pub is_next : (x : RingNode) (policy : List Entry) (next : Record) → policy ≡ delivered_entries x.state → IsSound x → option_map (record_of (judged (delivered_entries x.state))) (next_entry x.state) ≡ Some next → IsNext policy next
is_next x policy next same sound h =
    let n = next_of x next h in
    (can_judge x policy n.entry same sound n.held, n.made ∙ (ap (λ (e : Entry). record_of (judged (delivered_entries x.state)) e) (sym (ap (λ (r : Record). r.entry) n.made)) ∙ ap (λ l. record_of (judged l) next.entry) (sym same)))

-- an entry that was held is judged as the last of those that were delivered
pub delivered_next : (x : RingNode) (policy : List Entry) (e : Entry) → policy ≡ delivered_entries x.state → IsSound x → next_entry x.state ≡ Some e → IsSound (with_state x (after_delivery x.state)) × (policy ++ e ∷ [] ≡ delivered_entries (after_delivery x.state))
delivered_next x policy e same sound held = (sound_delivery x e sound held, ap (λ l. l ++ e ∷ []) same ∙ sym (delivered_more x.state e held))

pub committed : (x : RingNode) (policy : List Entry) (next : Record) → policy ≡ delivered_entries x.state → IsSound x → option_map (record_of (judged (delivered_entries x.state))) (next_entry x.state) ≡ Some next → IsSound (with_state x (after_delivery x.state)) × (policy ++ next.entry ∷ [] ≡ delivered_entries (after_delivery x.state))
committed x policy next same sound h =
    let n = next_of x next h in
    let into = delivered_next x policy n.entry same sound n.held in
    (into.0, ap (λ e. policy ++ e ∷ []) (ap (λ (r : Record). r.entry) n.made) ∙ into.1)

-- each place that was delivered has its entry
delivered_all : (held : HeldPlaces) (d : ℕ) → AllHeld held d → length (filter_map (get held) (up_to d)) ≡ d
delivered_all held zero all = refl
delivered_all held (suc d) all =
    let here = all (suc d) (omega arith) (omega arith) in
    let before = delivered_all held d (λ place low high. all place low (omega arith)) in
    let more = ap length (filter_map-append (get held) (up_to d) (suc d ∷ []) ∙ ap (λ o. filter_map (get held) (up_to d) ++ cons_option o []) here.1) in
    let sum = length-append (filter_map (get held) (up_to d)) (here.0 ∷ []) in
    omega (arith, before, more, sum)

pub delivered_count : (r : NodeState) → AllHeld r.held r.delivered → length (judged (delivered_entries r)) ≡ r.delivered
delivered_count r all = (each_entry_is_judged (delivered_entries r)).0 ∙ delivered_all r.held r.delivered all

-- there are no more than a ring has places
pub delivered_most : (x : RingNode) → IsSound x → x.state.delivered ≤ 1048576
delivered_most x sound = by_count x.state.delivered refl
  where
    by_count : (d : ℕ) → x.state.delivered ≡ d → x.state.delivered ≤ 1048576
    by_count zero is = omega (arith, is)
    by_count (suc d) is =
        let last = sound.delivered (suc d) (omega arith) (omega (arith, is)) in
        let within = (sound.held (suc d) last.0 last.1).place.1 in
        omega (arith, is, within)

-- the packets up to one more
packets_more : (ps : List Packet) (i : ℕ) (p : Packet) → i < length ps → p ≡ get_or ps i p → map frame.Packet (take (i + 1) ps) ≡ map frame.Packet (take i ps) ++ frame.Packet p ∷ []
packets_more ps i p lt is =
    ap (λ n. map frame.Packet (take n ps)) (one_more i)
    ∙ (ap (map frame.Packet) (take-suc ps i p lt ∙ ap (λ (q : Packet). take i ps ++ q ∷ []) (sym is))
    ∙ map-append frame.Packet (take i ps) (p ∷ []))
  where
    one_more : (n : ℕ) → n + 1 ≡ suc n
    one_more n = omega arith

-- what is sent of the packets up to one more
pub spelled_more : (ps : List Packet) (i : ℕ) (p : Packet) (bs : List (List ℕ)) (b : List ℕ) → i < length ps → p ≡ get_or ps i p → bs ≡ spelled (map frame.Packet (take i ps)) → b ≡ spelling Two (frame.Packet p) → bs ++ b ∷ [] ≡ spelled (map frame.Packet (take (i + 1) ps))
spelled_more ps i p bs b lt is are made =
    spelled_push (map frame.Packet (take i ps)) (frame.Packet p) bs b are made ∙ ap spelled (sym (packets_more ps i p lt is))

pub range_more : (ps : List Packet) (i : ℕ) (p : Packet) → i < length ps → p ≡ get_or ps i p → All CanBeSpelled (map frame.Packet (take i ps)) → CanBeSpelled (frame.Packet p) → All CanBeSpelled (map frame.Packet (take (i + 1) ps))
range_more ps i p lt is all one = subst (All CanBeSpelled) (sym (packets_more ps i p lt is)) (All-push CanBeSpelled (map frame.Packet (take i ps)) (frame.Packet p) all one)
