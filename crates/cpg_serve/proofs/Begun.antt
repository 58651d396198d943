-- A new ring of one node, made ready step by step.
use Rattle.std.proofs.Common.{◌≡◌, ◌≢◌, ◌<◌, ◌≤◌, ◌+◌, ℕ, zero, suc, Bool, true, false, not, List, [], ◌∷◌, ◌++◌, map, length, take, drop, get_or, Option, Some, None, is_some, refl, sym, ap, subst, ◌∙◌, arith, append_assoc, append-nil, length-append, if◌then◌else◌}
use Rattle.std.specs.Prelude.{option_map, option_to_list}
use Rattle.std.specs.List.{AllByRecursion, filter, slice_get}
use Rattle.std.proofs.lemmas.List.{map-append, take_more}
use Rattle.std.proofs.lemmas.Option.{none-some, same_Some}
use Rattle.cpg_cred.specs.declared.credentials.Cred.{Cred}
use Rattle.cpg_cred.specs.Listed.{Listed}
use Rattle.cpg_cred.specs.declared.refusals.Refusal.TheVariants.{NoConnection}
use Rattle.cpg_rules.specs.declared.rules.Rule.{Rule}
use Rattle.cpg_rules.specs.Tables.{Rules}
use Rattle.cpg_entry.specs.declared.calls.Call.{Call}
use Rattle.cpg_entry.specs.declared.calls.Call.TheVariants.{Insert, Join}
use Rattle.cpg_entry.specs.declared.calls.Op.{Op}
use Rattle.cpg_entry.specs.declared.calls.Op.TheVariants.{Act, Gone}
use Rattle.cpg_entry.specs.declared.entries.Entry.{Entry}
use Rattle.cpg_entry.specs.declared.ranges.TheConstants.{MOST_CONNECTIONS}
use Rattle.cpg_entry.specs.declared.frames.Token.{Token}
use Rattle.cpg_record.specs.declared.memberships.Member.{Member}
use Rattle.cpg_record.specs.declared.records.Record.{Record}
use Rattle.cpg_record.specs.Membership.{Membership}
use Rattle.cpg_record.specs.RuleTables.{rules_of}
use Rattle.cpg_ring.specs.Worlds.{item, with_item}
use Rattle.cpg_node.specs.declared.connections.Client.{Client}
use Rattle.cpg_node.specs.declared.connections.Connection.{Connection}
use Rattle.cpg_node.specs.Answers.{connection_of}
use Rattle.cpg_node.specs.Nodes.{NodeValue, conn_id, entry_by, if_open, open_client, records_of}
use Rattle.cpg_node.specs.Calls.{call_refusal, connected, disconnected, ended_by, submit_refusal, submit_refusal_by, submitted, with_entry}
use Rattle.cpg_ask.proofs.Mapped.{length_mapped}
use Rattle.cpg_serve.specs.Renewing.{Root, Seat, TableOf, all_inserts, bare, held_by, inserts, root_entry, seat_entry}
use Rattle.cpg_serve.specs.Settling.{HasTurned, IsAlike, IsBrisk, IsLone, IsStill}
use Rattle.cpg_serve.specs.Carrying.{ConnectsBy, HasEntered, HasNumber, HasParted, HasPut, HaveConnected, HaveJoined, IsBegun, IsFresh, IsLetIn, IsMade, IsRoot, anew, living, number_at, numbered, renumbered, table_of}
use Rattle.cpg_serve.proofs.Noted.{taken_by}
use Rattle.cpg_serve.proofs.Owned.{all_both, from_one, made_before, made_by}
use Rattle.cpg_serve.proofs.Settled.{lone_entry}
use Rattle.cpg_serve.proofs.Turns.{alike_same, alike_then}

-- ---- an entry is made, and the ring turns

begun_more : (x w y : NodeValue) (es : List Entry) (e : Entry) (t : Token) → IsStill x → t.hop ≤ length es → IsLone w.ring t es → w.ring.state.waiting ≡ x.ring.state.waiting ++ e ∷ [] → HasTurned w y → IsStill y → IsBrisk w.ring y.ring → IsBegun y (es ++ e ∷ [])
begun_more x w y es e t before hop lone waits turned still brisk =
    let s = turned.lone t es lone in
    let same : s.more ≡ es ++ e ∷ [] =
    sym (append-nil s.more) ∙ ap (λ l. s.more ++ l) (sym still.0) ∙ s.same ∙ ap (λ l. es ++ l) (waits ∙ ap (λ l. l ++ e ∷ []) before.0) in
    let one : length w.ring.state.waiting ≡ 1 = ap (λ (l : List Entry). length l) (waits ∙ ap (λ l. l ++ e ∷ []) before.0) in
    let count : length (es ++ e ∷ []) ≡ length es + 1 = length-append es (e ∷ []) in
    let turns = brisk.turns t s.token es s.more lone s.is in
    record { still = still; token = s.token; hop = omega (arith, one, count, turns, hop); lone = subst (IsLone y.ring s.token) same s.is }

pub waits_last : (x : NodeValue) (conn : ℕ) (op : Op) (c : Client) (o : Option Client) → o ≡ Some c → (with_entry x conn op o).ring.state.waiting ≡ x.ring.state.waiting ++ entry_by x conn c op ∷ []
waits_last x conn op c None e = absurd (none-some c e)
waits_last x conn op c (Some d) e = ap (λ (k : Client). x.ring.state.waiting ++ entry_by x conn k op ∷ []) (same_Some d c e)

pub entry_alike : (x : NodeValue) (conn : ℕ) (op : Op) (o : Option Client) → IsAlike x (with_entry x conn op o)
entry_alike x conn op None = alike_same x
entry_alike x conn op (Some c) = record { settings = refl; number = refl; list = refl }

entry_clients : (x : NodeValue) (conn : ℕ) (op : Op) (o : Option Client) → (with_entry x conn op o).clients ≡ x.clients
entry_clients x conn op None = refl
entry_clients x conn op (Some c) = refl

-- a call that was made is one that a node takes
call_taken : (x : NodeValue) (call : Call) (o : Option Client) → submit_refusal_by x call o ≡ None → call_refusal call ≡ None
call_taken x call None e = absurd (none-some NoConnection (sym e))
call_taken x call (Some c) e = taken_by x call (Some c) refl e

pub entered : (x w y : NodeValue) (conn : ℕ) (call : Call) → submit_refusal x conn call ≡ None → w ≡ submitted x conn call → HasTurned w y → IsStill y → IsBrisk w.ring y.ring → HasEntered conn (Act call) x y
entered x w y conn call fits is turned still brisk = record {
  taken = call_taken x call (open_client x conn) fits;
  alike = alike_then x w y (subst (IsAlike x) (sym is) (entry_alike x conn (Act call) (open_client x conn))) turned.alike;
  clients = turned.clients ∙ ap (λ (z : NodeValue). z.clients) is ∙ entry_clients x conn (Act call) (open_client x conn);
  begun = λ es c there b. begun_more x w y es (entry_by x conn c (Act call)) b.token b.still b.hop
      (subst (λ (z : NodeValue). IsLone z.ring b.token es) (sym is) (lone_entry x conn (Act call) (open_client x conn) b.token es b.lone))
      (ap (λ (z : NodeValue). z.ring.state.waiting) is ∙ waits_last x conn (Act call) c (open_client x conn) there) turned still brisk;
}

pub parted_by : (x : NodeValue) (conn : ℕ) (c : Client) → open_client x conn ≡ Some c → disconnected x conn ≡ ended_by x conn (Some c)
parted_by x conn c e = ap (ended_by x conn) e

pub parted : (x w y : NodeValue) (conn : ℕ) → w ≡ disconnected x conn → HasTurned w y → IsStill y → IsBrisk w.ring y.ring → HasParted conn x y
parted x w y conn is turned still brisk = record {
  alike = alike_then x w y (subst (IsAlike x) (sym is) (ended_alike (open_client x conn))) turned.alike;
  clients = λ c there. turned.clients ∙ ap (λ (z : NodeValue). z.clients) (is ∙ parted_by x conn c there);
  begun = λ es c there b. begun_more x w y es (entry_by x conn c Gone) b.token b.still b.hop
      (subst (λ (z : NodeValue). IsLone z.ring b.token es) (sym (is ∙ parted_by x conn c there)) (lone_entry x conn Gone (Some c) b.token es b.lone))
      (ap (λ (z : NodeValue). z.ring.state.waiting) (is ∙ parted_by x conn c there)) turned still brisk;
}
  where
    ended_alike : (o : Option Client) → IsAlike x (ended_by x conn o)
    ended_alike None = alike_same x
    ended_alike (Some c) = record { settings = refl; number = refl; list = refl }

-- ---- connections

living_push : (cs : List Client) (c : Client) → living (cs ++ c ∷ []) ≡ living cs ++ (if c.ended then [] else c ∷ [])
living_push [] c = by_end c.ended
  where
    by_end : (b : Bool) → (if not b then c ∷ [] else []) ≡ (if b then [] else c ∷ [])
    by_end true = refl
    by_end false = refl
living_push (k ∷ cs) c = by_end k.ended (living_push cs c)
  where
    by_end : (b : Bool) → living (cs ++ c ∷ []) ≡ living cs ++ (if c.ended then [] else c ∷ [])
        → (if not b then k ∷ living (cs ++ c ∷ []) else living (cs ++ c ∷ [])) ≡ (if not b then k ∷ living cs else living cs) ++ (if c.ended then [] else c ∷ [])
    by_end true e = e
    by_end false e = ap (λ (l : List Client). k ∷ l) e

-- the number of one client more
abbrev last_number : Client → ℕ → ℕ
last_number c m = if c.ended then 0 else suc m

numbered_push : (n : ℕ) (cs : List Client) (c : Client) → numbered n (cs ++ c ∷ []) ≡ numbered n cs ++ last_number c (n + length (living cs)) ∷ []
numbered_push n [] c = by_end c.ended
  where
    by_end : (b : Bool) → (if b then 0 ∷ [] else suc n ∷ []) ≡ (if b then 0 else suc (n + 0)) ∷ []
    by_end true = refl
    by_end false = ap (λ m. suc m ∷ []) (omega arith)
numbered_push n (k ∷ cs) c = by_end k.ended (numbered_push n cs c) (numbered_push (suc n) cs c)
  where
    by_end : (b : Bool) → numbered n (cs ++ c ∷ []) ≡ numbered n cs ++ last_number c (n + length (living cs)) ∷ []
        → numbered (suc n) (cs ++ c ∷ []) ≡ numbered (suc n) cs ++ last_number c (suc n + length (living cs)) ∷ []
        → (if b then 0 ∷ numbered n (cs ++ c ∷ []) else suc n ∷ numbered (suc n) (cs ++ c ∷ []))
        ≡ (if b then 0 ∷ numbered n cs else suc n ∷ numbered (suc n) cs) ++ last_number c (n + length (if not b then k ∷ living cs else living cs)) ∷ []
    by_end true e f = ap (λ (l : List ℕ). 0 ∷ l) e
    by_end false e f = ap (λ (l : List ℕ). suc n ∷ l) (f ∙ ap (λ m. numbered (suc n) cs ++ last_number c m ∷ []) (omega arith))

pub connected_none : (x : NodeValue) → HaveConnected [] [] x x
connected_none x = record { ring = refl; list = refl; given = refl; alive = sym (append-nil (map anew x.clients)); fresh = λ h. h; few = λ h. h; let_in = tt }

one_more_in : (list : Listed) (cs : List Client) (c : Client) → AllByRecursion (IsLetIn list) cs → IsLetIn list c → AllByRecursion (IsLetIn list) (cs ++ c ∷ [])
one_more_in list [] c h k = (k, tt)
one_more_in list (d ∷ cs) c h k = (h.0, one_more_in list cs c h.1 k)

one_more_fresh : (cs : List Client) (c : Client) → AllByRecursion IsFresh cs → IsFresh c → AllByRecursion IsFresh (cs ++ c ∷ [])
one_more_fresh [] c h k = (k, tt)
one_more_fresh (d ∷ cs) c h k = (h.0, one_more_fresh cs c h.1 k)

pub connected_count : (cs : List Client) (numbers : List ℕ) (x y : NodeValue) → HaveConnected cs numbers x y → length y.clients ≡ length x.clients + length (living cs)
connected_count cs numbers x y h = sym (length_mapped anew y.clients) ∙ ap (λ (l : List Client). length l) h.alive ∙ length-append (map anew x.clients) (map anew (living cs))
    ∙ ap (λ n. n + length (map anew (living cs))) (length_mapped anew x.clients) ∙ ap (λ n. length x.clients + n) (length_mapped anew (living cs))

-- one client more
connected_by : (cs : List Client) (c : Client) (numbers : List ℕ) (number : ℕ) (x y z : NodeValue) → HaveConnected cs numbers x y → ConnectsBy (if c.ended then None else Some c) number y z → HaveConnected (cs ++ c ∷ []) (numbers ++ number ∷ []) x z
connected_by cs c numbers number x y z h k = by_end c.ended refl k
  where
    count : length y.clients ≡ length x.clients + length (living cs)
    count = connected_count cs numbers x y h

    by_end : (b : Bool) → c.ended ≡ b → ConnectsBy (if b then None else Some c) number y z → HaveConnected (cs ++ c ∷ []) (numbers ++ number ∷ []) x z
    by_end true e k = record {
      ring = ap (λ (w : NodeValue). w.ring) k.1 ∙ h.ring;
      list = ap (λ (w : NodeValue). w.list) k.1 ∙ h.list;
      given = ap (λ l. l ++ number ∷ []) h.given ∙ ap (λ n. numbered (length x.clients) cs ++ n ∷ []) (k.0 ∙ ap (λ (b : Bool). if b then 0 else suc (length x.clients + length (living cs))) (sym e)) ∙ sym (numbered_push (length x.clients) cs c);
      alive = ap (λ (w : NodeValue). map anew w.clients) k.1 ∙ h.alive
          ∙ ap (λ (l : List Client). map anew x.clients ++ map anew l) (sym (living_push cs c ∙ ap (λ (b : Bool). living cs ++ (if b then [] else c ∷ [])) e ∙ append-nil (living cs)));
      fresh = λ f. subst (λ (w : NodeValue). AllByRecursion IsFresh w.clients) (sym k.1) (h.fresh f);
      few = λ f. subst (λ (w : NodeValue). length w.clients ≤ MOST_CONNECTIONS) (sym k.1) (h.few f);
      let_in = subst (AllByRecursion (IsLetIn x.list)) (sym (living_push cs c ∙ ap (λ (b : Bool). living cs ++ (if b then [] else c ∷ [])) e ∙ append-nil (living cs))) h.let_in;
    }
    by_end false e k = record {
      ring = ap (λ (w : NodeValue). w.ring) k.1 ∙ h.ring;
      list = ap (λ (w : NodeValue). w.list) k.1 ∙ h.list;
      given = ap (λ l. l ++ number ∷ []) h.given
          ∙ ap (λ n. numbered (length x.clients) cs ++ n ∷ []) (k.0 ∙ ap suc count ∙ ap (λ (b : Bool). if b then 0 else suc (length x.clients + length (living cs))) (sym e)) ∙ sym (numbered_push (length x.clients) cs c);
      alive = ap (λ (w : NodeValue). map anew w.clients) k.1 ∙ map-append anew y.clients (new ∷ []) ∙ ap (λ (l : List Client). l ++ anew new ∷ []) h.alive
          ∙ append_assoc (map anew x.clients) (map anew (living cs)) (anew new ∷ [])
          ∙ ap (λ (l : List Client). map anew x.clients ++ l) (ap (λ (k : Client). map anew (living cs) ++ k ∷ []) same ∙ sym (map-append anew (living cs) (c ∷ [])))
          ∙ ap (λ (l : List Client). map anew x.clients ++ map anew l) (sym (living_push cs c ∙ ap (λ (b : Bool). living cs ++ (if b then [] else c ∷ [])) e));
      fresh = λ f. subst (λ (w : NodeValue). AllByRecursion IsFresh w.clients) (sym k.1) (one_more_fresh y.clients new (h.fresh f) refl);
      few = λ f. subst (λ (w : NodeValue). length w.clients ≤ MOST_CONNECTIONS) (sym k.1) (omega (arith, length-append y.clients (new ∷ []), k.3));
      let_in = subst (AllByRecursion (IsLetIn x.list)) (sym (living_push cs c ∙ ap (λ (b : Bool). living cs ++ (if b then [] else c ∷ [])) e))
          (one_more_in x.list (living cs) c h.let_in (subst (λ (l : Listed). IsLetIn l c) h.list k.2));
    }
      where
        new : Client
        new = record { pid = c.pid; cred = c.cred; ended = false; taken = 0 }

        same : anew new ≡ anew c
        same = ap (λ (b : Bool). record { pid = c.pid; cred = c.cred; ended = b; taken = 0 }) (sym e)

open_at : (cs : List Client) (i : ℕ) (none : Client) → i < length cs → if_open (item cs (suc i)) ≡ (if (get_or cs i none).ended then None else Some (get_or cs i none))
open_at [] i none within = absurd (omega arith)
open_at (c ∷ cs) zero none within = refl
open_at (c ∷ cs) (suc i) none within = open_at cs i none (omega arith)

some_client : (cs : List Client) (i : ℕ) → i < length cs → Client
some_client [] i within = absurd (omega arith)
some_client (c ∷ cs) i within = c

pub connected_more : (old : NodeValue) (i next : ℕ) (numbers : List ℕ) (number : ℕ) (x y z : NodeValue) → next ≡ suc i → i < length old.clients → HaveConnected (take i old.clients) numbers x y → ConnectsBy (open_client old next) number y z
    → HaveConnected (take next old.clients) (numbers ++ number ∷ []) x z
connected_more old i next numbers number x y z is within h k =
    let none : Client = some_client old.clients i within in
    let c : Client = get_or old.clients i none in
    let opened : open_client old next ≡ (if c.ended then None else Some c) = ap (λ n. open_client old n) is ∙ open_at old.clients i none within in
    let plus : i + 1 ≡ next = omega (arith, is) in
    subst (λ (n : ℕ). HaveConnected (take n old.clients) (numbers ++ number ∷ []) x z) plus
    (subst (λ (l : List Client). HaveConnected l (numbers ++ number ∷ []) x z) (sym (take_more old.clients i none within))
    (connected_by (take i old.clients) c numbers number x y z h (subst (λ (o : Option Client). ConnectsBy o number y z) opened k)))

-- ---- members

pub joined_none : (numbers : List ℕ) (x : NodeValue) → HaveJoined numbers [] x x
joined_none numbers x = record { seats = []; held = refl; numbered = tt; made = tt; alike = alike_same x; clients = refl; begun = λ es b. subst (IsBegun x) (sym (append-nil es)) b }

joined_one : (numbers : List ℕ) (m : Membership) (x y : NodeValue) (c : Client) → open_client x (number_at numbers m.member.conn) ≡ Some c → c.pid ≡ m.member.pid → x.ring.node ≡ m.member.node
    → HasEntered (number_at numbers m.member.conn) (Act (Join m.group)) x y → HaveJoined numbers (m ∷ []) x y
joined_one numbers m x y c there pid node h =
    let seat : Seat = record { group = m.group; member = (renumbered numbers m).member; cred = c.cred } in
    let same : entry_by x (number_at numbers m.member.conn) c (Act (Join m.group)) ≡ seat_entry seat =
    ap (λ (n : ℕ). join_by n c.pid c.cred) node ∙ ap (λ (p : ℕ). join_by m.member.node p c.cred) pid in
    record {
      seats = seat ∷ [];
      held = refl;
      numbered = (from_one x.clients (number_at numbers m.member.conn) c there, tt);
      made = (subst (IsMade x) same (made_by x (number_at numbers m.member.conn) c (Act (Join m.group)) there h.taken), tt);
      alike = h.alike;
      clients = h.clients;
      begun = λ es b. subst (λ (e : Entry). IsBegun y (es ++ e ∷ [])) same (h.begun es c there b);
    }
  where
    join_by : ℕ → ℕ → Cred → Entry
    join_by n p r = record { node = n; conn = number_at numbers m.member.conn; pid = p; cred = r; op = Act (Join m.group) }

pub connection_is : (x : NodeValue) (n : ℕ) (k : Connection) (o : Option Client) → Some k ≡ option_map (λ (c : Client). record { id = conn_id x n; pid = c.pid; cred = c.cred; taken = c.taken }) o → (c : Client) × (o ≡ Some c) × (c.pid ≡ k.pid) × (x.ring.node ≡ k.id.node)
connection_is x n k None e = absurd (none-some k (sym e))
connection_is x n k (Some c) e =
    let same : k ≡ record { id = conn_id x n; pid = c.pid; cred = c.cred; taken = c.taken } = same_Some k (record { id = conn_id x n; pid = c.pid; cred = c.cred; taken = c.taken }) e in
    (c, refl, sym (ap (λ (j : Connection). j.pid) same), sym (ap (λ (j : Connection). j.id.node) same))

pub joined_at : (numbers : List ℕ) (m : Membership) (n : ℕ) (g : List ℕ) (x y : NodeValue) (k : Connection) → n ≡ number_at numbers m.member.conn → g ≡ m.group → Some k ≡ connection_of x n → k.pid ≡ m.member.pid → k.id.node ≡ m.member.node
    → HasEntered n (Act (Join g)) x y → HaveJoined numbers (m ∷ []) x y
joined_at numbers m n g x y k is named found pid node h =
    let c = connection_is x n k (open_client x n) found in
    joined_one numbers m x y c.0 (sym (ap (open_client x) is) ∙ c.1) (c.2 ∙ pid) (c.3 ∙ node)
    (subst (λ (i : ℕ). HasEntered i (Act (Join m.group)) x y) is (subst (λ (h : List ℕ). HasEntered n (Act (Join h)) x y) named h))

pub joined_then : (numbers : List ℕ) (all more : List Membership) (x y z : NodeValue) → HaveJoined numbers all x y → HaveJoined numbers more y z → HaveJoined numbers (all ++ more) x z
joined_then numbers all more x y z h k = record {
  seats = h.seats ++ k.seats;
  held = map-append held_by h.seats k.seats ∙ ap (λ l. l ++ map held_by k.seats) h.held ∙ ap (λ l. map (renumbered numbers) all ++ l) k.held ∙ sym (map-append (renumbered numbers) all more);
  numbered = all_both (HasNumber numbers) all more h.numbered k.numbered;
  made = subst (AllByRecursion (IsMade x)) (sym (map-append seat_entry h.seats k.seats))
      (all_both (IsMade x) (map seat_entry h.seats) (map seat_entry k.seats) h.made (made_before x y (map seat_entry k.seats) h.alike h.clients k.made));
  alike = alike_then x y z h.alike k.alike;
  clients = k.clients ∙ h.clients;
  begun = λ es b. subst (IsBegun z) (append_assoc es (map seat_entry h.seats) (map seat_entry k.seats) ∙ ap (λ l. es ++ l) (sym (map-append seat_entry h.seats k.seats))) (k.begun (es ++ map seat_entry h.seats) (h.begun es b));
}

pub joined_more : (numbers : List ℕ) (all : List Membership) (i : ℕ) (m : Membership) (x y z : NodeValue) → i < length all → m ≡ get_or all i m → HaveJoined numbers (take i all) x y → HaveJoined numbers (m ∷ []) y z → HaveJoined numbers (take (i + 1) all) x z
joined_more numbers all i m x y z within is h k =
    subst (λ (l : List Membership). HaveJoined numbers l x z) (sym (take_more all i m within ∙ ap (λ (q : Membership). take i all ++ q ∷ []) (sym is))) (joined_then numbers (take i all) (m ∷ []) x y z h k)

-- ---- rules

pub put_none : (root : Root) (x : NodeValue) → HasPut root [] x x
put_none root x = record { made = λ r. tt; alike = alike_same x; clients = refl; begun = λ es r b. subst (IsBegun x) (sym (append-nil es)) b }

pub root_still : (root : Root) (x y : NodeValue) → IsAlike x y → y.clients ≡ x.clients → IsRoot root x → IsRoot root y
root_still root x y alike clients h = (h.0 ∙ sym alike.number, (h.1.0, ap (λ (cs : List Client). if_open (item cs root.conn)) clients ∙ h.1.1))

pub put_then : (root : Root) (early late : List Entry) (x y z : NodeValue) → HasPut root early x y → HasPut root late y z → HasPut root (early ++ late) x z
put_then root early late x y z h k = record {
  made = λ r. all_both (IsMade x) early late (h.made r) (made_before x y late h.alike h.clients (k.made (root_still root x y h.alike h.clients r)));
  alike = alike_then x y z h.alike k.alike;
  clients = k.clients ∙ h.clients;
  begun = λ es r b. subst (IsBegun z) (append_assoc es early late) (k.begun (es ++ early) (root_still root x y h.alike h.clients r) (h.begun es r b));
}

pub put_one : (root : Root) (group : List ℕ) (index at : ℕ) (rule : Rule) (x y : NodeValue) → at ≡ index → HasEntered root.conn (Act (Insert group at rule)) x y → HasPut root (root_entry root group index rule ∷ []) x y
put_one root group index at rule x y is h = record {
  made = λ r. (subst (IsMade x) (same r.0 r.1.0) (made_by x root.conn (record { pid = root.pid; cred = record { uid = 0; gid = 0 }; ended = false; taken = r.1.0 }) (Act (Insert group at rule)) r.1.1 h.taken), tt);
  alike = h.alike;
  clients = h.clients;
  begun = λ es r b. subst (λ (e : Entry). IsBegun y (es ++ e ∷ [])) (same r.0 r.1.0)
      (h.begun es (record { pid = root.pid; cred = record { uid = 0; gid = 0 }; ended = false; taken = r.1.0 }) r.1.1 b);
}
  where
    same : root.node ≡ x.ring.node → (taken : ℕ) → entry_by x root.conn (record { pid = root.pid; cred = record { uid = 0; gid = 0 }; ended = false; taken = taken }) (Act (Insert group at rule)) ≡ root_entry root group index rule
    same node taken = ap (λ (n : ℕ). record { node = n; conn = root.conn; pid = root.pid; cred = record { uid = 0; gid = 0 }; op = Act (Insert group at rule) }) (sym node)
        ∙ ap (λ (i : ℕ). record { node = root.node; conn = root.conn; pid = root.pid; cred = record { uid = 0; gid = 0 }; op = Act (Insert group i rule) }) is

pub put_at : (root : Root) (conn : ℕ) (group copied : List ℕ) (index at : ℕ) (rule : Rule) (x y : NodeValue) → root.conn ≡ conn → copied ≡ group → at ≡ index → HasEntered conn (Act (Insert copied at rule)) x y → HasPut root (root_entry root group index rule ∷ []) x y
put_at root conn group copied index at rule x y own same is h =
    put_one root group index at rule x y is
    (subst (λ (n : ℕ). HasEntered n (Act (Insert group at rule)) x y) (sym own) (subst (λ (g : List ℕ). HasEntered conn (Act (Insert g at rule)) x y) same h))

inserts_push : (root : Root) (group : List ℕ) (index : ℕ) (rules : List Rule) (rule : Rule) → inserts root group index (rules ++ rule ∷ []) ≡ inserts root group index rules ++ root_entry root group (index + length rules) rule ∷ []
inserts_push root group index [] rule = ap (λ i. root_entry root group i rule ∷ []) (omega arith)
inserts_push root group index (r ∷ rules) rule =
    ap (λ l. root_entry root group index r ∷ l) (inserts_push root group (suc index) rules rule ∙ ap (λ i. inserts root group (suc index) rules ++ root_entry root group i rule ∷ []) (omega arith))

bare_take : (rules : Rules) (i : ℕ) (p : ℕ × Rule) → slice_get rules i ≡ Some p → bare (take (suc i) rules) ≡ bare (take i rules) ++ p.1 ∷ []
bare_take [] i p e = absurd (none-some p e)
bare_take (q ∷ rules) zero p e = ap (λ (k : ℕ × Rule). k.1 ∷ []) (same_Some q p e)
bare_take (q ∷ rules) (suc i) p e = ap (λ (l : List Rule). q.1 ∷ l) (bare_take rules i p e)

bare_count : (rules : Rules) (i : ℕ) (p : ℕ × Rule) → slice_get rules i ≡ Some p → length (bare (take i rules)) ≡ i
bare_count [] i p e = absurd (none-some p e)
bare_count (q ∷ rules) zero p e = refl
bare_count (q ∷ rules) (suc i) p e = ap suc (bare_count rules i p e)

pub put_more : (root : Root) (group : List ℕ) (rules : Rules) (i next : ℕ) (p : ℕ × Rule) (x y z : NodeValue) → next ≡ suc i → slice_get rules i ≡ Some p → HasPut root (inserts root group 0 (bare (take i rules))) x y → HasPut root (root_entry root group i p.1 ∷ []) y z
    → HasPut root (inserts root group 0 (bare (take next rules))) x z
put_more root group rules i next p x y z is e h k =
    let entries : inserts root group 0 (bare (take next rules)) ≡ inserts root group 0 (bare (take i rules)) ++ root_entry root group i p.1 ∷ [] =
    ap (λ n. inserts root group 0 (bare (take n rules))) is ∙ ap (inserts root group 0) (bare_take rules i p e) ∙ inserts_push root group 0 (bare (take i rules)) p.1
    ∙ ap (λ n. inserts root group 0 (bare (take i rules)) ++ root_entry root group n p.1 ∷ []) (omega (arith, bare_count rules i p e)) in
    subst (λ (l : List Entry). HasPut root l x z) (sym entries) (put_then root (inserts root group 0 (bare (take i rules))) (root_entry root group i p.1 ∷ []) x y z h k)

pub put_table : (root : Root) (records : List Record) (group : List ℕ) (rules : Rules) (x y : NodeValue) → rules ≡ rules_of records group → HasPut root (inserts root group 0 (bare rules)) x y → HasPut root (all_inserts root (table_of records group ∷ [])) x y
put_table root records group rules x y is h =
    subst (λ (l : List Entry). HasPut root l x y) (ap (λ (l : Rules). inserts root group 0 (bare l)) is ∙ sym (append-nil (inserts root group 0 (bare (rules_of records group))))) h

pub put_empty : (root : Root) (records : List Record) (group : List ℕ) (x : NodeValue) → rules_of records group ≡ [] → HasPut root (all_inserts root (table_of records group ∷ [])) x x
put_empty root records group x none = put_table root records group [] x x (sym none) (put_none root x)

inserts_then : (root : Root) (early late : List TableOf) → all_inserts root (early ++ late) ≡ all_inserts root early ++ all_inserts root late
inserts_then root [] late = refl
inserts_then root (t ∷ early) late = ap (λ l. inserts root t.group 0 t.rules ++ l) (inserts_then root early late) ∙ sym (append_assoc (inserts root t.group 0 t.rules) (all_inserts root early) (all_inserts root late))

pub put_groups_more : (root : Root) (records : List Record) (groups : List (List ℕ)) (i : ℕ) (g : List ℕ) (x y z : NodeValue) → i < length groups → g ≡ get_or groups i g → HasPut root (all_inserts root (map (table_of records) (take i groups))) x y
    → HasPut root (all_inserts root (table_of records g ∷ [])) y z → HasPut root (all_inserts root (map (table_of records) (take (i + 1) groups))) x z
put_groups_more root records groups i g x y z within is h k =
    let entries : all_inserts root (map (table_of records) (take (i + 1) groups)) ≡ all_inserts root (map (table_of records) (take i groups)) ++ all_inserts root (table_of records g ∷ []) =
    ap (λ (l : List (List ℕ)). all_inserts root (map (table_of records) l)) (take_more groups i g within ∙ ap (λ (h : List ℕ). take i groups ++ h ∷ []) (sym is))
    ∙ ap (all_inserts root) (map-append (table_of records) (take i groups) (g ∷ []))
    ∙ inserts_then root (map (table_of records) (take i groups)) (table_of records g ∷ []) in
    subst (λ (l : List Entry). HasPut root l x z) (sym entries) (put_then root (all_inserts root (map (table_of records) (take i groups))) (all_inserts root (table_of records g ∷ [])) x y z h k)
