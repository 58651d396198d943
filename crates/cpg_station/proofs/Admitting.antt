-- What a station that takes a process in may answer.
use Rattle.std.proofs.Common.{◌≡◌, ◌≢◌, ◌⊎◌, inl, inr, ⊎_elim, ℕ, suc, Bool, true, false, true≢false, List, [], ◌∷◌, ◌++◌, Option, Some, None, Err, refl, sym, ap, ◌∙◌, subst, not, nat_le, length, slice_get, option_map, is_some, is_ok, if◌then◌else◌}
use Rattle.std.proofs.lemmas.Bool.{cases_eq}
use Rattle.std.proofs.lemmas.Option.{none-some, same_Some}
use Rattle.std.specs.Option.{ok_or}
use Rattle.cpg_cred.specs.Admission.{via_of}
use Rattle.cpg_cred.specs.Listed.{Listed}
use Rattle.cpg_cred.specs.declared.admission.Via.{Via}
use Rattle.cpg_cred.specs.declared.credentials.Cred.{Cred}
use Rattle.cpg_cred.specs.declared.refusals.Refusal.{Refusal}
use Rattle.cpg_cred.specs.declared.refusals.Refusal.TheVariants as refusal
use Rattle.cpg_entry.specs.declared.ranges.TheConstants.{MOST_CONNECTIONS}
use Rattle.cpg_ring.specs.Answers.{IsAnswer}
use Rattle.cpg_node.specs.Calls.{connect_refusal, connected}
use Rattle.cpg_node.specs.Nodes.{NodeValue, if_open}
use Rattle.cpg_node.specs.declared.connections.Client.{Client}
use Rattle.cpg_node.specs.declared.connections.Connection.{Connection}
use Rattle.cpg_node.specs.Answers.{connection_of}
use Rattle.cpg_board.specs.Seats.{SeatValue}
use Rattle.cpg_station.specs.Admitting.{Accepts, AdmitsNot, IsOther, newcomer, with_newcomer, is_shut}
use Rattle.cpg_station.specs.Serving.{halted_of}
use Rattle.cpg_station.specs.Stations.{StationValue, KeepsRest}

-- why a node takes no connection in, if it does not
unfit : (x : NodeValue) (cred : Cred) (why : Refusal) → connect_refusal x cred ≡ Some why → (why ≡ refusal.Access) ⊎ (why ≡ refusal.ConnectionsFull)
unfit x cred why is = by_via (is_some (via_of x.list cred)) (nat_le MOST_CONNECTIONS (length x.clients)) is
  where
    by_via : (some many : Bool) → (if not some then Some refusal.Access else if many then Some refusal.ConnectionsFull else None) ≡ Some why → (why ≡ refusal.Access) ⊎ (why ≡ refusal.ConnectionsFull)
    by_via false many is = inl (sym (same_Some refusal.Access why is))
    by_via true true is = inr (sym (same_Some refusal.ConnectionsFull why is))
    by_via true false is = absurd (none-some why is)

-- a node that takes a connection in lets the credentials in
node_lets_in : (x : NodeValue) (cred : Cred) → connect_refusal x cred ≡ None → is_some (via_of x.list cred) ≡ true
node_lets_in x cred is = by_via (is_some (via_of x.list cred)) (nat_le MOST_CONNECTIONS (length x.clients)) is
  where
    by_via : (some many : Bool) → (if not some then Some refusal.Access else if many then Some refusal.ConnectionsFull else None) ≡ None → some ≡ true
    by_via false many none = absurd (none-some refusal.Access (sym none))
    by_via true many none = refl

-- the list lets in whom it accepts
pub accepted : (list : Listed) (cred : Cred) → is_ok (ok_or (via_of list cred) refusal.Access) ≡ true → Accepts list cred
accepted list cred = by_via (via_of list cred)
  where
    by_via : (o : Option Via) → is_ok (ok_or o refusal.Access) ≡ true → is_some o ≡ true
    by_via None is = is
    by_via (Some via) is = refl

-- what the station may answer where the list lets the credentials in, and the refusal is another than Access
not_admitted : (list : Listed) (node pid : ℕ) (cred : Cred) (old new : StationValue) (P : ℕ → Type 0) (why : Refusal) → Accepts list cred → why ≢ refusal.Access → new ≡ old → IsAnswer (connect_refusal old.node cred) P (Err why) → AdmitsNot list node pid cred old why new
not_admitted list node pid cred old new P why accepted other same answer = by_why why other answer
  where
    by_why : (w : Refusal) → w ≢ refusal.Access → IsAnswer (connect_refusal old.node cred) P (Err w) → AdmitsNot list node pid cred old w new
    by_why refusal.Memory other answer = (accepted, answer, same)
    by_why w other answer = ⊎_elim (λ (shut : w ≡ refusal.Access). absurd (other shut))
        (λ (full : w ≡ refusal.ConnectionsFull). subst (λ (v : Refusal). AdmitsNot list node pid cred old v new) (sym full) (accepted, answer ∙ ap Some full, same))
        (unfit old.node cred w answer)

shut_out : (list : Listed) (cred : Cred) → is_ok (ok_or (via_of list cred) refusal.Access) ≡ false → ¬ Accepts list cred
shut_out list cred = by_via (via_of list cred)
  where
    by_via : (o : Option Via) → is_ok (ok_or o refusal.Access) ≡ false → is_some o ≢ true
    by_via None none some = true≢false (sym some)
    by_via (Some via) none some = true≢false none

access_only : (why : Refusal) → is_shut why ≡ true → why ≡ refusal.Access
access_only refusal.Access is = refl
access_only why is = absurd (true≢false (sym is))

not_access : (why : Refusal) → is_shut why ≡ false → why ≢ refusal.Access
not_access why is access = true≢false (sym (ap is_shut access) ∙ is)

-- ---- a station that is not the one that is asked for

-- a list's acceptance, as the call answers it
lets_in : (o : Option Via) → is_ok (ok_or o refusal.Access) ≡ is_some o
lets_in None = refl
lets_in (Some via) = refl

-- a node that refuses a connection lets the credentials in exactly where it does not say Access
node_lets : (x : NodeValue) (cred : Cred) (P : ℕ → Type 0) (why : Refusal) → IsAnswer (connect_refusal x cred) P (Err why) → is_some (via_of x.list cred) ≡ not (is_shut why)
node_lets x cred P why answer = by_why why answer
  where
    by_via : (some many : Bool) (w : Refusal) → (if not some then Some refusal.Access else if many then Some refusal.ConnectionsFull else None) ≡ Some w → some ≡ not (is_shut w)
    by_via false many w is = ap (λ (v : Refusal). not (is_shut v)) (same_Some refusal.Access w is)
    by_via true true w is = ap (λ (v : Refusal). not (is_shut v)) (same_Some refusal.ConnectionsFull w is)
    by_via true false w is = absurd (none-some w is)

    by_why : (w : Refusal) → IsAnswer (connect_refusal x cred) P (Err w) → is_some (via_of x.list cred) ≡ not (is_shut w)
    by_why refusal.Memory is = node_lets_in x cred is
    by_why w is = by_via (is_some (via_of x.list cred)) (nat_le MOST_CONNECTIONS (length x.clients)) w is

not_both : (b : Bool) → b ≡ not b → ⊥
not_both true is = true≢false is
not_both false is = true≢false (sym is)

-- the list and the node's own do otherwise
other_list : (list : Listed) (node : ℕ) (cred : Cred) (s : StationValue) (accepts node_accepts : Bool) → accepts ≡ is_ok (ok_or (via_of list cred) refusal.Access) → is_some (via_of s.node.list cred) ≡ node_accepts → node_accepts ≡ not accepts
    → IsOther list node cred s
other_list list node cred s accepts node_accepts is there apart =
    inl (λ same. not_both accepts (is ∙ (lets_in (via_of list cred) ∙ (same ∙ (there ∙ apart)))))

-- what a process is told that the station did not take in
pub turned_away : (list : Listed) (node pid : ℕ) (cred : Cred) (accepts : Bool) (old now new : StationValue) (P : ℕ → Type 0) (why result : Refusal) → accepts ≡ is_ok (ok_or (via_of list cred) refusal.Access) → now ≡ old
    → IsAnswer (connect_refusal old.node cred) P (Err why)
    → (accepts ≢ is_shut why → (result ≡ why) × (new ≡ now))
    → (accepts ≡ is_shut why → (result ≡ refusal.Stopped) × (new ≡ halted_of now))
    → AdmitsNot list node pid cred old result new
turned_away list node pid cred accepts old now new P why result is same answer alike unlike = by_both accepts (is_shut why) refl refl
  where
    stopped : accepts ≡ is_shut why → AdmitsNot list node pid cred old result new
    stopped e = subst (λ (v : Refusal). AdmitsNot list node pid cred old v new) (sym (unlike e).0)
        (inr (other_list list node cred old accepts (not (is_shut why)) is (node_lets old.node cred P why answer) (ap not (sym e)), inl ((unlike e).1 ∙ ap halted_of same)))

    by_both : (a b : Bool) → accepts ≡ a → is_shut why ≡ b → AdmitsNot list node pid cred old result new
    by_both true true all shut = stopped (all ∙ sym shut)
    by_both false false none other = stopped (none ∙ sym other)
    by_both true false all other =
        let told = alike (λ e. true≢false (sym all ∙ (e ∙ other))) in
        subst (λ (v : Refusal). AdmitsNot list node pid cred old v new) (sym told.0) (not_admitted list node pid cred old new P why (accepted list cred (sym is ∙ all)) (not_access why other) (told.1 ∙ same) answer)
    by_both false true none shut =
        let told = alike (λ e. true≢false (sym shut ∙ (sym e ∙ none))) in
        subst (λ (v : Refusal). AdmitsNot list node pid cred old v new) (sym (told.0 ∙ access_only why shut)) (shut_out list cred (sym is ∙ none), told.1 ∙ same)

-- ---- a station that took the process in

-- the station after it, by its parts
pub station_is : (s old : StationValue) (pid : ℕ) (cred : Cred) → s.node ≡ connected old.node pid cred → KeepsRest old s → s ≡ with_newcomer old pid cred
station_is s old pid cred node rest =
    ap (λ (x : NodeValue). let v : StationValue = record { node = x; seat = s.seat; halted = s.halted } in v) node
    ∙ (ap (λ (t : SeatValue). let v : StationValue = record { node = connected old.node pid cred; seat = t; halted = s.halted } in v) rest.0
    ∙ ap (λ (h : Bool). let v : StationValue = record { node = connected old.node pid cred; seat = old.seat; halted = h } in v) rest.1)

get_end : (cs : List Client) (c : Client) → slice_get (cs ++ c ∷ []) (length cs) ≡ Some c
get_end [] c = refl
get_end (d ∷ cs) c = get_end cs c

-- the new connection is known as it is
knows_new : (x : NodeValue) (pid : ℕ) (cred : Cred) → connection_of (connected x pid cred) (suc (length x.clients)) ≡ Some (newcomer x.ring.node (suc (length x.clients)) pid cred)
knows_new x pid cred = ap (λ (o : Option Client). option_map (λ (c : Client). let told : Connection = record { id = record { node = x.ring.node; conn = suc (length x.clients) }; pid = c.pid; cred = c.cred; taken = c.taken } in told) (if_open o))
    (get_end x.clients (record { pid = pid; cred = cred; ended = false; taken = 0 }))

-- what a process is told that the station took in, where that is not as it is to be
pub greeted_not : (list : Listed) (node pid : ℕ) (cred : Cred) (accepts : Bool) (conn : ℕ) (old now new : StationValue) (why : Refusal) → accepts ≡ is_ok (ok_or (via_of list cred) refusal.Access)
    → connect_refusal old.node cred ≡ None → conn ≡ suc (length old.node.clients) → now.node ≡ connected old.node pid cred → KeepsRest old now
    → ¬ ((accepts ≡ true) × (connection_of now.node conn ≡ Some (newcomer node conn pid cred)))
    → why ≡ refusal.Stopped → new ≡ halted_of now → AdmitsNot list node pid cred old why new
greeted_not list node pid cred accepts conn old now new why is is_open number later rest never stops halts =
    subst (λ (v : Refusal). AdmitsNot list node pid cred old v new) (sym stops) (inr (by_both accepts (cases_eq old.node.ring.node node) refl, inr (halts ∙ ap halted_of (station_is now old pid cred later rest))))
  where
    by_both : (a : Bool) → (old.node.ring.node ≡ node) ⊎ (old.node.ring.node ≢ node) → accepts ≡ a → IsOther list node cred old
    by_both false which none = other_list list node cred old accepts true is (node_lets_in old.node cred is_open) (ap not (sym none))
    by_both true (inr apart) all = inr apart
    by_both true (inl same) all =
        let known = ap (λ (x : NodeValue). connection_of x conn) later
        ∙ (ap (connection_of (connected old.node pid cred)) number
        ∙ (knows_new old.node pid cred
        ∙ (ap (λ (k : ℕ). Some (newcomer old.node.ring.node k pid cred)) (sym number)
        ∙ ap (λ (n : ℕ). Some (newcomer n conn pid cred)) same))) in
        absurd (never (all, known))
