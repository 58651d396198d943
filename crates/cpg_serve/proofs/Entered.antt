-- What calls add to what waits, and which of it is whose.
use Rattle.std.proofs.Common.{◌≡◌, ◌≢◌, ◌<◌, ◌≤◌, ◌+◌, ℕ, Bool, true, false, cond, eqb, eq-eqb, eqb-true, ◌&&◌, is_some, List, [], ◌∷◌, ◌++◌, length, Option, Some, None, refl, sym, ap, subst, ◌∙◌, append-nil, append_assoc, length-append, arith, not}
use Rattle.std.specs.List.{AllByRecursion}
use Rattle.std.proofs.lemmas.Option.{same_Some}
use Rattle.std.proofs.lemmas.List.Elements.{filter-append}
use Rattle.cpg_cred.specs.declared.refusals.Refusal.{Refusal}
use Rattle.cpg_cred.specs.declared.refusals.Refusal.TheVariants as refusal
use Rattle.cpg_entry.specs.declared.calls.Call.{Call}
use Rattle.cpg_entry.specs.declared.calls.Op.{Op}
use Rattle.cpg_entry.specs.declared.calls.Op.TheVariants.{Act, Gone}
use Rattle.cpg_entry.specs.declared.entries.Entry.{Entry}
use Rattle.cpg_record.specs.Connections.{conn_of, is_conn}
use Rattle.cpg_ring.specs.Worlds.{item}
use Rattle.cpg_node.specs.declared.connections.Client.{Client}
use Rattle.cpg_node.specs.Nodes.{NodeValue, entry_by, if_open, open_client}
use Rattle.cpg_node.specs.Calls.{submit_refusal, with_entry, ended_by}
use Rattle.cpg_ask.specs.Asks.{Ask}
use Rattle.cpg_serve.specs.Asking.{At, Turn, asked, asked_by, asked_all, call_of, called_by, goes_on, owed_to, takes_by}
use Rattle.cpg_serve.specs.Carrying.{IsOther, IsTaken}
use Rattle.cpg_serve.specs.Hearing.{AllTaken, asks_of}
use Rattle.cpg_serve.specs.Meeting.{calls_among, is_taken}
use Rattle.cpg_serve.specs.Orders.{conn_at, own_entries}
use Rattle.cpg_serve.proofs.Begun.{waits_last}
use Rattle.cpg_serve.proofs.Evening.{alive_after, calls_append, one_call, quiet_one}
use Rattle.cpg_serve.proofs.Noted.{is_there, refused_by, taken_by}
use Rattle.cpg_serve.proofs.OneByOne.{all_leave}
use Rattle.cpg_serve.proofs.Owned.{all_both}

-- ---- whose entries they are

pub own_both : (conn : ℕ) (one other : List Entry) → length (own_entries (conn_at 1 conn) (one ++ other)) ≡ length (own_entries (conn_at 1 conn) one) + length (own_entries (conn_at 1 conn) other)
own_both conn one other =
    ap (λ (l : List Entry). length l) (filter-append (λ (e : Entry). is_conn (conn_at 1 conn) (conn_of e)) one other) ∙ length-append (own_entries (conn_at 1 conn) one) (own_entries (conn_at 1 conn) other)

not_own : (conn : ℕ) (e : Entry) → e.conn ≢ conn → (eqb 1 e.node && eqb conn e.conn) ≡ false
not_own conn e is = by_node (eqb 1 e.node) (eqb conn e.conn) refl
  where
    by_node : (n c : Bool) → eqb conn e.conn ≡ c → (n && c) ≡ false
    by_node false c k = refl
    by_node true false k = refl
    by_node true true k = absurd (is (sym (eqb-true conn e.conn k)))

-- others' entries
pub none_own : (conn : ℕ) (es : List Entry) → AllByRecursion (IsOther conn) es → length (own_entries (conn_at 1 conn) es) ≡ 0
none_own conn [] h = refl
none_own conn (e ∷ es) h = ap (λ (b : Bool). length (cond b (e ∷ own_entries (conn_at 1 conn) es) (own_entries (conn_at 1 conn) es))) (not_own conn e h.0) ∙ none_own conn es h.1

-- the entry is the connection's, of that node
abbrev pub IsBy : ℕ → ℕ → Entry → Type 0
IsBy node conn e = (e.node ≡ node) × (e.conn ≡ conn)

is_own : (conn : ℕ) (e : Entry) → IsBy 1 conn e → (eqb 1 e.node && eqb conn e.conn) ≡ true
is_own conn e h = ap (λ (b : Bool). b && eqb conn e.conn) (eq-eqb 1 e.node (sym h.0)) ∙ eq-eqb conn e.conn (sym h.1)

pub all_own : (conn : ℕ) (es : List Entry) → AllByRecursion (IsBy 1 conn) es → length (own_entries (conn_at 1 conn) es) ≡ length es
all_own conn [] h = refl
all_own conn (e ∷ es) h =
    let later = all_own conn es h.1 in
    ap (λ (b : Bool). length (cond b (e ∷ own_entries (conn_at 1 conn) es) (own_entries (conn_at 1 conn) es))) (is_own conn e h.0) ∙ omega (arith, later)

pub by_other : (node by conn : ℕ) (es : List Entry) → by ≢ conn → AllByRecursion (IsBy node by) es → AllByRecursion (IsOther conn) es
by_other node by conn [] is h = tt
by_other node by conn (e ∷ es) is h = ((λ (same : e.conn ≡ conn). is (sym h.0.1 ∙ same)), by_other node by conn es is h.1)

-- ---- what asks add

-- a node takes the entry, and it is of the process of that connection
abbrev pub IsFit : Option Client → Entry → Type 0
IsFit o e = IsTaken e.op × ((c : Client) → o ≡ Some c → c.pid ≡ e.pid)

-- So many entries of the connection wait, too.
pub record Enters (by : ℕ) (x y : NodeValue) (count : ℕ) : Type 0 where
  pub new : List Entry
  pub waits : y.ring.state.waiting ≡ x.ring.state.waiting ++ new
  pub each : AllByRecursion (IsBy x.ring.node by) new
  pub fit : AllByRecursion (IsFit (open_client x by)) new
  pub many : length new ≡ count
  pub node : y.ring.node ≡ x.ring.node

abbrev pub enters_none : (by : ℕ) (x y : NodeValue) → y.ring.state.waiting ≡ x.ring.state.waiting → y.ring.node ≡ x.ring.node → Enters by x y 0
enters_none by x y same node = record { new = []; waits = same ∙ sym (append-nil x.ring.state.waiting); each = tt; fit = tt; many = refl; node = node }

entry_node : (x : NodeValue) (by : ℕ) (op : Op) (o : Option Client) → (with_entry x by op o).ring.node ≡ x.ring.node
entry_node x by op None = refl
entry_node x by op (Some c) = refl

enters_one : (by : ℕ) (x : NodeValue) (op : Op) (c : Client) (o : Option Client) → open_client x by ≡ Some c → o ≡ Some c → IsTaken op → Enters by x (with_entry x by op o) 1
enters_one by x op c o there e taken = record {
  new = entry_by x by c op ∷ [];
  waits = waits_last x by op c o e;
  each = ((refl, refl), tt);
  fit = ((taken, λ d found. ap (λ (k : Client). k.pid) (same_Some d c (sym found ∙ there))), tt);
  many = refl;
  node = entry_node x by op o;
}

enters_then : (by : ℕ) (x y z : NodeValue) (n m : ℕ) → open_client y by ≡ open_client x by → Enters by x y n → Enters by y z m → Enters by x z (n + m)
enters_then by x y z n m same h k = record {
  new = h.new ++ k.new;
  waits = k.waits ∙ ap (λ (l : List Entry). l ++ k.new) h.waits ∙ append_assoc x.ring.state.waiting h.new k.new;
  each = all_both (IsBy x.ring.node by) h.new k.new h.each (subst (λ (node : ℕ). AllByRecursion (IsBy node by) k.new) h.node k.each);
  fit = all_both (IsFit (open_client x by)) h.new k.new h.fit (subst (λ (o : Option Client). AllByRecursion (IsFit o) k.new) same k.fit);
  many = omega (arith, h.many, k.many, length-append h.new k.new);
  node = k.node ∙ h.node;
}

refused_node : (by : ℕ) (s : At) (ask : Ask) (call : Call) (why : Refusal) → (called_by by s (owed_to ask) call (Some why)).node ≡ s.node
refused_node by s ask call refusal.QueueFull = refl
refused_node by s ask call _ = refl

enters_called : (by : ℕ) (s : At) (ask : Ask) (call : Call) (o : Option Refusal) → is_some (open_client s.node by) ≡ true → call_of ask.want ≡ Some call → submit_refusal s.node by call ≡ o → goes_on o ≡ true
    → Enters by s.node (called_by by s (owed_to ask) call o).node (length (calls_among (ask ∷ [])))
enters_called by s ask call None alive is why goes =
    let c = is_there (open_client s.node by) alive in
    let fits = taken_by s.node call (open_client s.node by) alive why in
    let taken : is_taken (call_of ask.want) ≡ true = ap is_taken is ∙ ap (λ r. not (is_some r)) fits in
    subst (Enters by s.node (with_entry s.node by (Act call) (open_client s.node by))) (sym (one_call ask true taken)) (enters_one by s.node (Act call) c.0 (open_client s.node by) c.1 c.1 fits)
enters_called by s ask call (Some why) alive is refused goes =
    let taken : is_taken (call_of ask.want) ≡ false = ap is_taken is ∙ ap (λ r. not (is_some r)) (refused_by s.node call (open_client s.node by) why alive refused goes) in
    let same : (called_by by s (owed_to ask) call (Some why)).node ≡ s.node = refused_node by s ask call why in
    subst (Enters by s.node (called_by by s (owed_to ask) call (Some why)).node) (sym (one_call ask false taken))
    (enters_none by s.node (called_by by s (owed_to ask) call (Some why)).node (ap (λ (x : NodeValue). x.ring.state.waiting) same) (ap (λ (x : NodeValue). x.ring.node) same))

enters_asked : (by : ℕ) (s : At) (turn : Turn) (o : Option Call) → is_some (open_client s.node by) ≡ true → call_of turn.ask.want ≡ o → takes_by by s o ≡ true → Enters by s.node (asked_by by s turn o).node (length (calls_among (turn.ask ∷ [])))
enters_asked by s turn None alive is goes = subst (Enters by s.node s.node) (sym (one_call turn.ask false (ap is_taken is))) (enters_none by s.node s.node refl refl)
enters_asked by s turn (Some call) alive is goes = enters_called by s turn.ask call (submit_refusal s.node by call) alive is refl goes

pub enters_all : (by : ℕ) (s : At) (turns : List Turn) → is_some (open_client s.node by) ≡ true → AllTaken by s turns → Enters by s.node (asked_all by s turns).node (length (calls_among (asks_of turns)))
enters_all by s [] alive h = enters_none by s.node s.node refl refl
enters_all by s (turn ∷ turns) alive h =
    let first = enters_asked by s turn (call_of turn.ask.want) alive refl h.1 in
    let later = enters_all by (asked by s turn) turns (alive_after by s.node (asked by s turn).node (quiet_one by s turn) alive) h.2 in
    subst (Enters by s.node (asked_all by s (turn ∷ turns)).node) (sym (calls_append (turn.ask ∷ []) (asks_of turns)))
    (enters_then by s.node (asked by s turn).node (asked_all by (asked by s turn) turns).node (length (calls_among (turn.ask ∷ []))) (length (calls_among (asks_of turns)))
    (ap (λ (cs : List Client). if_open (item cs by)) (all_leave by s (turn ∷ [])).clients) first later)

abbrev pub enters_end : (by : ℕ) (x : NodeValue) (c : Client) → open_client x by ≡ Some c → Enters by x (ended_by x by (Some c)) 1
enters_end by x c there = record {
  new = entry_by x by c Gone ∷ [];
  waits = refl;
  each = ((refl, refl), tt);
  fit = ((tt, λ d found. ap (λ (k : Client). k.pid) (same_Some d c (sym found ∙ there))), tt);
  many = refl;
  node = refl;
}
