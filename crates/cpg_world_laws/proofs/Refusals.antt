-- A refused event leaves the world as it was, and Connect is refused with Access exactly where the credentials are not let in.
use Rattle.std.proofs.Common.{◌≡◌, ◌↔◌, ℕ, zero, suc, Bool, true, false, not, List, [], ◌∷◌, ◌++◌, length, Option, Some, None, is_some, Result, Ok, Err, refl, sym, ap, ◌∙◌, subst, inl, inr, ⊎_elim, arith, append-nil, if◌then◌else◌, ◌==◌, nat_le, ◌<◌, ◌||◌, slice_index_or, eq-eqb, eqb-true, nat_eq, true≢false}
use Rattle.std.proofs.lemmas.Bool.{leb-true, leb-false, le-leb, lt-leb}
use Rattle.std.specs.List.{Contains, list_any}
use Rattle.cpg_cred.specs.Listed.{Listed}
use Rattle.cpg_cred.specs.Admission.{via_of}
use Rattle.cpg_cred.specs.declared.admission.Via.{Via}
use Rattle.cpg_cred.specs.declared.admission.Via.TheVariants.{RootUser, RootGroup, User, Group}
use Rattle.std.proofs.lemmas.Map.Views.{Contains-from_any}
use Rattle.cpg_cred.specs.declared.credentials.Cred.{Cred}
use Rattle.cpg_cred.specs.declared.refusals.Refusal.{Refusal}
use Rattle.cpg_cred.specs.declared.refusals.Refusal.TheVariants.{Access, ConnectionsFull}
use Rattle.cpg_entry.specs.declared.ranges.TheConstants.{MOST_CONNECTIONS}
use Rattle.cpg_ring.specs.States.{Frame}
use Rattle.cpg_ring.specs.Worlds.{item}
use Rattle.cpg_node.specs.declared.connections.Client.{Client}
use Rattle.cpg_node.specs.Nodes.{NodeValue, open_client}
use Rattle.cpg_node.specs.Calls.{connect_refusal, connected, submit_refusal, submitted, closed_refusal, ended_by, frame_refusal, after_frame, answers_to, node_after_take}
use Rattle.cpg_world_laws.specs.declared.events.WorldEvent.{WorldEvent}
use Rattle.cpg_world_laws.specs.declared.events.WorldEvent.TheVariants.{Connect, Submit, Disconnect, Frame as Arrival, Timer, Deliver, Take, List as Listing, Groups}
use Rattle.cpg_world_laws.specs.declared.replies.Reply.{Reply}
use Rattle.cpg_world_laws.specs.declared.replies.Reply.TheVariants as reply
use Rattle.cpg_world_laws.specs.Worlds.{WorldValue, NodeOutcome, unless, hears, moves, node_in, moved}
use Rattle.cpg_world_laws.specs.Replies.{Answer, or_reply, frame_answer, take_answer, IsAnswerAt, IsAnswerOf, IsReply}
use Rattle.cpg_world_laws.specs.Claims.{IsLetIn, AtNode, Admits, AdmitsExactly, ChangesNothing}
use Rattle.cpg_world_laws.proofs.Lists.{with_as}
use Rattle.cpg_world_laws.proofs.Projecting.{Numbered}

-- ---- nothing moves where an event is refused

idle : (w : WorldValue) (n : ℕ) (x : NodeValue) (m : NodeOutcome) → item w.nodes n ≡ Some x → m ≡ (x, []) → moved w n (Some x) (λ _. m) ≡ w
idle w n x m is none =
    ap (λ (k : NodeOutcome). moved w n (Some x) (λ _. k)) none
    ∙ (ap (λ (nodes : List NodeValue). let world : WorldValue = record { settings = w.settings; list = w.list; nodes = nodes; sent = w.sent ++ [] } in world) (with_as w.nodes n x is)
    ∙ ap (λ (sent : List Frame). let world : WorldValue = record { settings = w.settings; list = w.list; nodes = w.nodes; sent = sent } in world) (append-nil w.sent))

no_ok : {X Y : Type 0} (x : X) (why : Y) → ◌≡◌ {A = Result X Y} (Ok x) (Err why) → ⊥
no_ok x why h = cc

refused : (r : Option Refusal) (q : Reply) (why : Refusal) (x : NodeValue) (m : NodeOutcome) → Err why ≡ or_reply r q → unless r x m ≡ (x, [])
refused None q why x m h = absurd (no_ok q why (sym h))
refused (Some other) q why x m h = refl

stays : (sent : List Frame) (e : WorldEvent) (x : NodeValue) (why : Refusal) → IsAnswerAt sent e x (Err why) → moves sent e x ≡ (x, [])
stays sent (Connect n pid cred) x why h = refused (connect_refusal x cred) _ why x (connected x pid cred, []) h
stays sent (Submit n conn call) x why h = refused (submit_refusal x conn call) _ why x (submitted x conn call, []) h
stays sent (Disconnect n conn) x why h = by_client (open_client x conn) h
  where
    by_client : (o : Option Client) → Err why ≡ or_reply (closed_refusal o) reply.Closed → ◌≡◌ {A = NodeOutcome} (ended_by x conn o, []) (x, [])
    by_client None h = refl
    by_client (Some c) h = absurd (no_ok _ why (sym h))
stays sent (Arrival n k) x why h = by_frame (item sent k) h
  where
    by_frame : (o : Option Frame) → Err why ≡ frame_answer x o → hears o x ≡ (x, [])
    by_frame None h = refl
    by_frame (Some f) h = refused (frame_refusal x f) _ why x (after_frame x f, answers_to x f) h
stays sent (Timer n) x why h = absurd (no_ok _ why (sym h))
stays sent (Deliver n) x why h = absurd (no_ok _ why (sym h))
stays sent (Take n conn) x why h = by_client (open_client x conn) h
  where
    by_client : (o : Option Client) → Err why ≡ take_answer x conn o → ◌≡◌ {A = NodeOutcome} (node_after_take x conn o, []) (x, [])
    by_client None h = refl
    by_client (Some c) h = absurd (no_ok _ why (sym h))
stays sent (Listing n conn g) x why h = refl
stays sent (Groups n conn) x why h = refl

pub changes_nothing : (w : WorldValue) (e : WorldEvent) (a : Answer) → Numbered w → IsReply w e a → ChangesNothing w e a
changes_nothing w e (Ok q) numbered reply = tt
changes_nothing w e (Err why) numbered reply = by_node (item w.nodes (node_in e)) refl reply
  where
    by_node : (o : Option NodeValue) → item w.nodes (node_in e) ≡ o → IsAnswerOf w.sent e o (Err why) → moved w (node_in e) o (moves w.sent e) ≡ w
    by_node None is answer = absurd answer
    by_node (Some x) is answer = idle w (node_in e) x (moves w.sent e x) is (stays w.sent e x why answer)

-- ---- admission

is_among : (q : ℕ) (ks : List ℕ) (i : ℕ) → i < length ks → slice_index_or ks i q ≡ q → list_any (λ k. q == k) ks ≡ true
is_among q [] i h e = absurd (omega arith)
is_among q (k ∷ ks) zero h e = ap (λ b. b || list_any (λ k. q == k) ks) (eq-eqb q k (sym e))
is_among q (k ∷ ks) (suc i) h e = by_test (q == k) (is_among q ks i (omega arith) e)
  where
    by_test : (b : Bool) → list_any (λ k. q == k) ks ≡ true → (b || list_any (λ k. q == k) ks) ≡ true
    by_test true h = refl
    by_test false h = h

abbrev via_by : (a b c d : Bool) → Option Via
via_by a b c d = if a then Some RootUser else if b then Some RootGroup else if c then Some User else if d then Some Group else None

is_let_in : (list : Listed) (cred : Cred) → is_some (via_of list cred) ≡ true → IsLetIn list cred
is_let_in list cred h = tests (cred.uid == 0) (cred.gid == 0) (list_any (λ u. cred.uid == u) list.users) (list_any (λ g. cred.gid == g) list.groups) refl refl refl refl h
  where
    tests : (a b c d : Bool) → (cred.uid == 0) ≡ a → (cred.gid == 0) ≡ b → list_any (λ u. cred.uid == u) list.users ≡ c → list_any (λ g. cred.gid == g) list.groups ≡ d → is_some (via_by a b c d) ≡ true → IsLetIn list cred
    tests true b c d p q r s h = inl (eqb-true cred.uid 0 p)
    tests false true c d p q r s h = inr (inl (eqb-true cred.gid 0 q))
    tests false false true d p q r s h = inr (inr (inl (Contains-from_any {eq = nat_eq} eqb-true cred.uid list.users r)))
    tests false false false true p q r s h = inr (inr (inr (Contains-from_any {eq = nat_eq} eqb-true cred.gid list.groups s)))
    tests false false false false p q r s h = absurd (cc)

is_kept_out : (list : Listed) (cred : Cred) → is_some (via_of list cred) ≡ false → ¬ IsLetIn list cred
is_kept_out list cred h = tests (cred.uid == 0) (cred.gid == 0) (list_any (λ u. cred.uid == u) list.users) (list_any (λ g. cred.gid == g) list.groups) refl refl refl refl h
  where
    tests : (a b c d : Bool) → (cred.uid == 0) ≡ a → (cred.gid == 0) ≡ b → list_any (λ u. cred.uid == u) list.users ≡ c → list_any (λ g. cred.gid == g) list.groups ≡ d → is_some (via_by a b c d) ≡ false → ¬ IsLetIn list cred
    tests true b c d p q r s h = absurd (cc)
    tests false true c d p q r s h = absurd (cc)
    tests false false true d p q r s h = absurd (cc)
    tests false false false true p q r s h = absurd (cc)
    tests false false false false p q r s h = ⊎_elim
        (λ root. absurd (true≢false (sym (eq-eqb cred.uid 0 root) ∙ p)))
        (⊎_elim (λ root. absurd (true≢false (sym (eq-eqb cred.gid 0 root) ∙ q)))
        (⊎_elim (λ (c : Contains list.users cred.uid). absurd (true≢false (sym (is_among cred.uid list.users c.0 c.1 c.2) ∙ r)))
        (λ (c : Contains list.groups cred.gid). absurd (true≢false (sym (is_among cred.gid list.groups c.0 c.1 c.2) ∙ s)))))

-- at a node with the world's list
abbrev refused_by : Bool → Bool → Option Refusal
refused_by let_in full = if not let_in then Some Access else if full then Some ConnectionsFull else None

-- what a Connect is answered, by whether it is let in and whether all numbers are given
record Outcome (let_in full : Bool) (number : ℕ) (a : Answer) : Type 0 where
  shut_out : (a ≡ Err Access) ↔ (let_in ≡ false)
  no_number : (a ≡ Err ConnectionsFull) ↔ ((let_in ≡ true) × (full ≡ true))
  connected_so : (conn : ℕ) → (a ≡ Ok (reply.Connected conn)) ↔ ((let_in ≡ true) × (full ≡ false) × (conn ≡ number))

outcome : (let_in full : Bool) (number : ℕ) (a : Answer) → a ≡ or_reply (refused_by let_in full) (reply.Connected number) → Outcome let_in full number a
outcome false full number a is = record {
  shut_out = ((λ h. refl), (λ h. is));
  no_number = ((λ h. absurd (cc)), (λ h. absurd (let never = h.0 in cc)));
  connected_so = λ conn. ((λ h. absurd (cc)), (λ h. absurd (let never = h.0 in cc)));
}
outcome true true number a is = record {
  shut_out = ((λ h. absurd (cc)), (λ h. absurd (cc)));
  no_number = ((λ h. (refl, refl)), (λ h. is));
  connected_so = λ conn. ((λ h. absurd (cc)), (λ h. absurd (let never = h.1 in cc)));
}
outcome true false number a is = record {
  shut_out = ((λ h. absurd (cc)), (λ h. absurd (cc)));
  no_number = ((λ h. absurd (cc)), (λ h. absurd (let never = h.1 in cc)));
  connected_so = λ conn. ((λ h. (refl, refl, same_number conn number (sym h ∙ is))), (λ h. is ∙ ap (λ k. Ok (reply.Connected k)) (sym h.2)));
}
  where
    same_number : (i j : ℕ) → ◌≡◌ {A = Answer} (Ok (reply.Connected i)) (Ok (reply.Connected j)) → i ≡ j
    same_number i j h = cc

-- which is let in exactly by the world's list
at_node : (list : Listed) (x : NodeValue) (cred : Cred) (a : Answer) → x.list ≡ list → IsAnswerAt [] (Connect x.ring.node 0 cred) x a → Admits list cred a x
at_node list x cred a same answer = record {
  shut_out = ((λ h. kept_out (o.shut_out.0 h)), (λ out. o.shut_out.1 (shut out)));
  full = ((λ h. let f = o.no_number.0 h in (let_in f.0, leb-true MOST_CONNECTIONS (length x.clients) f.1)), (λ h. o.no_number.1 (opened h.0, le-leb MOST_CONNECTIONS (length x.clients) h.1)));
  let_in = λ conn. (
    (λ h. let c = (o.connected_so conn).0 h in (let_in c.0, leb-false MOST_CONNECTIONS (length x.clients) c.1, c.2)),
    (λ h. (o.connected_so conn).1 (opened h.0, lt-leb MOST_CONNECTIONS (length x.clients) h.1, h.2)),
  );
}
  where
    by_list : Bool
    by_list = is_some (via_of x.list cred)

    o : Outcome by_list (nat_le MOST_CONNECTIONS (length x.clients)) (suc (length x.clients)) a
    o = outcome by_list (nat_le MOST_CONNECTIONS (length x.clients)) (suc (length x.clients)) a answer

    let_in : by_list ≡ true → IsLetIn list cred
    let_in is = subst (λ (l : Listed). IsLetIn l cred) same (is_let_in x.list cred is)

    kept_out : by_list ≡ false → ¬ IsLetIn list cred
    kept_out is = subst (λ (l : Listed). ¬ IsLetIn l cred) same (is_kept_out x.list cred is)

    opened : IsLetIn list cred → by_list ≡ true
    opened inside = by_test by_list refl
      where
        by_test : (b : Bool) → by_list ≡ b → b ≡ true
        by_test true is = refl
        by_test false is = absurd (kept_out is inside)

    shut : (¬ IsLetIn list cred) → by_list ≡ false
    shut out = by_test by_list refl
      where
        by_test : (b : Bool) → by_list ≡ b → b ≡ false
        by_test true is = absurd (out (let_in is))
        by_test false is = refl

pub admits_exactly : (w : WorldValue) (e : WorldEvent) (a : Answer) → Numbered w → IsReply w e a → AdmitsExactly w e a
admits_exactly w (Connect n pid cred) a numbered reply = by_node (item w.nodes n) refl reply
  where
    by_node : (o : Option NodeValue) → item w.nodes n ≡ o → IsAnswerOf w.sent (Connect n pid cred) o a → AtNode o (Admits w.list cred a)
    by_node None is answer = absurd answer
    by_node (Some x) is answer = at_node w.list x cred a (numbered n x is).list answer
admits_exactly w (Submit n conn call) a numbered reply = tt
admits_exactly w (Disconnect n conn) a numbered reply = tt
admits_exactly w (Arrival n k) a numbered reply = tt
admits_exactly w (Timer n) a numbered reply = tt
admits_exactly w (Deliver n) a numbered reply = tt
admits_exactly w (Take n conn) a numbered reply = tt
admits_exactly w (Listing n conn g) a numbered reply = tt
admits_exactly w (Groups n conn) a numbered reply = tt
