-- A ring of one node that hears nothing but its own token: what it places is what its clients called.
use Rattle.std.proofs.Common.{◌≡◌, ◌≤◌, ◌+◌, ℕ, suc, Bool, true, false, is_some, List, [], ◌∷◌, ◌++◌, map, length, take, drop, Option, Some, None, Result, refl, sym, ap, subst, ◌∙◌, append-nil, append_assoc, true≢false, arith}
use Rattle.std.specs.List.{AllByRecursion}
use Rattle.cpg_cred.specs.Listed.{Listed}
use Rattle.cpg_cred.specs.declared.refusals.Refusal.{Refusal}
use Rattle.cpg_entry.specs.declared.calls.Op.TheVariants.{Gone}
use Rattle.cpg_entry.specs.declared.entries.Entry.{Entry}
use Rattle.cpg_record.specs.declared.records.Record.{Record}
use Rattle.cpg_record.specs.declared.verdicts.Verdict.{Verdict}
use Rattle.cpg_record.specs.Events.{inbox}
use Rattle.cpg_record.specs.Judging.{judged}
use Rattle.cpg_record.specs.Laws.{EachEntryIsJudged}
use Rattle.cpg_ring.specs.declared.settings.Settings.{Settings}
use Rattle.cpg_ring.specs.Moves.{first_token}
use Rattle.cpg_ring.specs.Rings.{RingNode}
use Rattle.cpg_ring.specs.States.{NodeState, is_held}
use Rattle.cpg_ring.specs.Worlds.{deliver, item}
use Rattle.cpg_world_laws.proofs.Growing.{delivered_are}
use Rattle.cpg_node.specs.declared.connections.Client.{Client}
use Rattle.cpg_node.specs.Nodes.{NodeValue, conn_id, delivered_entries, entry_by, inbox_of, new_value, open_client, records_of}
use Rattle.cpg_node.specs.Calls.{connected, ended_by, node_after_delivery}
use Rattle.cpg_ask.specs.Asks.{Ask}
use Rattle.cpg_ask.proofs.Mapped.{length_mapped}
use Rattle.cpg_serve.specs.declared.hearing.Stop.{Stop}
use Rattle.cpg_serve.specs.Telling.{DeskValue}
use Rattle.cpg_serve.specs.Asking.{At, at_of}
use Rattle.cpg_serve.specs.Hearing.{asks_of}
use Rattle.cpg_serve.specs.Serving.{ServedValue, IsCaughtUp, IsHeard, alone}
use Rattle.cpg_serve.specs.Runs.{Did, Arrives, Hears, Frames, Delivers, Tells, Writes, Loses, Nothing, Goes, Run}
use Rattle.cpg_serve.specs.Settling.{IsFrameless, IsLone, IsOwnMove, IsStill, MovesOn}
use Rattle.cpg_serve.specs.Carrying.{AreItsOwn, IsMade, anew}
use Rattle.cpg_serve.specs.Meeting.{Counts, IsHonest, calls_among, verdicts}
use Rattle.cpg_serve.specs.Orders.{conn_at, own_entries}
use Rattle.cpg_serve.specs.Verdicts.{own_records}
use Rattle.cpg_serve.specs.Rings.{Renewal, Step, Does, Moves, Renews, GoesBy, IsRenewal, Life}
use Rattle.cpg_serve.specs.Alone.{HearsItself, IsAlone}
use Rattle.cpg_serve.proofs.Coming.{goes_taken, open_is}
use Rattle.cpg_serve.proofs.Entered.{Enters, IsBy, IsFit, by_other, enters_all, enters_end, enters_none, own_both}
use Rattle.cpg_serve.proofs.JudgedOnce.{verdicts_are_its_own}
use Rattle.cpg_serve.proofs.Lone.{delivered_by, delivered_is, lone_new, split_at}
use Rattle.cpg_serve.proofs.Noted.{is_there}
use Rattle.cpg_serve.proofs.OneByOne.{all_leave}
use Rattle.cpg_serve.proofs.Owned.{Follows, follows_come, follows_end, follows_on, follows_same, from_one, made_by, made_on, own_on, own_still}
use Rattle.cpg_serve.proofs.Placed.{entries_own}
use Rattle.cpg_serve.proofs.Running.{within}
use Rattle.cpg_serve.proofs.Settled.{lone_goes}
use Rattle.cpg_serve.proofs.Turns.{none_next}

-- ---- what a call adds

-- by whom, if by anyone
abbrev pub who : Did → ℕ
who (Hears by bytes count stop) = by
who (Loses by) = by
who _ = 0

pub heard_enters : (by : ℕ) (x z : ServedValue) (bytes : List ℕ) (count : ℕ) (stop : Stop) (g : IsHeard by x bytes count stop z) → Enters by x.node z.node (length (calls_among (asks_of g.did.so.turns)))
heard_enters by x z bytes count stop g =
    subst (λ (n : NodeValue). Enters by x.node n (length (calls_among (asks_of g.did.so.turns)))) (sym (ap (λ (t : At). t.node) g.did.so.done)) (enters_all by (at_of x.node g.old) g.did.so.turns g.alive g.did.so.taken)

delivered_waits : (r : NodeState) → (deliver r).0.waiting ≡ r.waiting
delivered_waits r = by_held (is_held r.held (suc r.delivered))
  where
    by_held : (b : Bool) → (delivered_by b r).0.waiting ≡ r.waiting
    by_held true = refl
    by_held false = refl

-- who is there has a number that the node gave out
pub known_by : (by : ℕ) (x : NodeValue) → is_some (open_client x by) ≡ true → (1 ≤ by) × (by ≤ length x.clients)
known_by by x alive =
    let c = is_there (open_client x by) alive in
    (from_one x.clients by c.0 c.1, within x.clients by c.0 (open_is (item x.clients by) c.0 c.1).0)

pub all_made : (by : ℕ) (x : NodeValue) (es : List Entry) → (1 ≤ by) × (by ≤ length x.clients) → AllByRecursion (IsBy x.ring.node by) es → AllByRecursion (IsFit (open_client x by)) es → AllByRecursion (IsMade x) es
all_made by x [] known h fit = tt
all_made by x (e ∷ es) known h fit = (
  record {
    taken = fit.0.0;
    node = h.0.0;
    known = subst (λ (n : ℕ). (1 ≤ n) × (n ≤ length x.clients)) (sym h.0.1) known;
    process = λ c found. fit.0.1 c (ap (open_client x) (sym h.0.1) ∙ found);
  },
  all_made by x es known h.1 fit.1,
)

-- What a call adds was made by that connection.
pub record Adds (by : ℕ) (x z : NodeValue) : Type 0 where
  pub count : ℕ
  pub enters : Enters by x z count
  pub follows : Follows x z enters.new
  pub made : AllByRecursion (IsMade z) enters.new

adds_none : (by : ℕ) (x z : NodeValue) → z.ring.state.waiting ≡ x.ring.state.waiting → Follows x z [] → Adds by x z
adds_none by x z same f = record { count = 0; enters = enters_none by x z same f.node; follows = f; made = tt }

adds_same : (by : ℕ) (x : NodeValue) → Adds by x x
adds_same by x = adds_none by x x refl (follows_on x x refl refl)

lost_adds : (by : ℕ) (x : NodeValue) (o : Option Client) → open_client x by ≡ o → Adds by x (ended_by x by o)
lost_adds by x None e = adds_same by x
lost_adds by x (Some c) e =
    let z : NodeValue = ended_by x by (Some c) in
    let end : List Entry = entry_by x by c Gone ∷ [] in
    let f = follows_end by x z c e refl refl in
    record { count = 1; enters = enters_end by x c e; follows = f; made = made_on x z end end f (made_by x by c Gone e tt, tt) }

-- who was heard was there
pub heard_follows : (by : ℕ) (x z : ServedValue) (bytes : List ℕ) (count : ℕ) (stop : Stop) (g : IsHeard by x bytes count stop z) → Follows x.node z.node (heard_enters by x z bytes count stop g).new
heard_follows by x z bytes count stop g =
    let h = heard_enters by x z bytes count stop g in
    let clients : z.node.clients ≡ x.node.clients = ap (λ (t : At). t.node.clients) g.did.so.done ∙ (all_leave by (at_of x.node g.old) g.did.so.turns).clients in
    follows_same x.node z.node h.new (ap (λ (l : List Client). map anew l) clients) h.node
    (λ conn none. by_other x.node.ring.node by conn h.new (λ (same : by ≡ conn). absurd (true≢false (sym g.alive ∙ ap (λ (n : ℕ). is_some (open_client x.node n)) same ∙ ap is_some none))) h.each)

abbrev pub heard_adds : (by : ℕ) (x z : ServedValue) (bytes : List ℕ) (count : ℕ) (stop : Stop) → IsHeard by x bytes count stop z → Adds by x.node z.node
heard_adds by x z bytes count stop g = record {
  count = length (calls_among (asks_of g.did.so.turns));
  enters = heard_enters by x z bytes count stop g;
  follows = heard_follows by x z bytes count stop g;
  made =
      let h = heard_enters by x z bytes count stop g in
      made_on x.node z.node h.new h.new (heard_follows by x z bytes count stop g) (all_made by x.node h.new (known_by by x.node g.alive) h.each h.fit);
}

told_adds : (by : ℕ) (x z : ServedValue) (result : Result Unit Refusal) (o : Option DeskValue) → IsCaughtUp by x o result z → Adds 0 x.node z.node
told_adds by x z result None g = subst (λ (v : ServedValue). Adds 0 x.node v.node) (sym g.1) (adds_same 0 x.node)
told_adds by x z result (Some old) g = adds_none 0 x.node z.node (ap (λ (r : RingNode). r.state.waiting) (goes_taken g.goes).ring) (follows_on x.node z.node (goes_taken g.goes).clients (ap (λ (r : RingNode). r.node) (goes_taken g.goes).ring))

pub adds : (x z : ServedValue) (did : Did) → Goes x did z → IsFrameless did → Adds (who did) x.node z.node
adds x z (Arrives pid cred) g f = subst (λ (v : ServedValue). Adds 0 x.node v.node) (sym g) (adds_none 0 x.node (connected x.node pid cred) refl (follows_come x.node pid cred))
adds x z (Hears by bytes count stop) g f = heard_adds by x z bytes count stop g
adds x z Frames g f = absurd f
adds x z Delivers g f = subst (λ (v : ServedValue). Adds 0 x.node v.node) (sym g) (adds_none 0 x.node (node_after_delivery x.node) (delivered_waits x.node.ring.state) (follows_on x.node (node_after_delivery x.node) refl refl))
adds x z (Tells by) g f = told_adds by x z g.0 (item x.desks by) g.1
adds x z (Writes by bytes) g f = subst (λ (v : ServedValue). Adds 0 x.node v.node) (sym g.after) (adds_same 0 x.node)
adds x z (Loses by) g f = subst (λ (v : ServedValue). Adds by x.node v.node) (sym g) (lost_adds by x.node (open_client x.node by) refl)
adds x z Nothing g f = subst (λ (v : ServedValue). Adds 0 x.node v.node) (sym g) (adds_same 0 x.node)

-- ---- such a ring stays one

-- all entries, placed or not
abbrev pub entries_in : (x : ServedValue) → IsAlone x → List Entry
entries_in x a = a.placed ++ x.node.ring.state.waiting

-- It is such a ring still, and these entries came to its others.
pub record Stays (x z : ServedValue) (a : IsAlone x) (new : List Entry) : Type 0 where
  pub alone : IsAlone z
  pub entries : entries_in z alone ≡ entries_in x a ++ new

pub alone_does : (x z : ServedValue) (did : Did) (a : IsAlone x) → Goes x did z → IsFrameless did → (h : Adds (who did) x.node z.node) → Stays x z a h.enters.new
alone_does x z did a g f h =
    let all : a.placed ++ z.node.ring.state.waiting ≡ entries_in x a ++ h.enters.new = ap (λ (l : List Entry). a.placed ++ l) h.enters.waits ∙ sym (append_assoc a.placed x.node.ring.state.waiting h.enters.new) in
    record {
      alone = record {
        token = a.token;
        placed = a.placed;
        lone = lone_goes x z did g f a.token a.placed a.lone;
        own = subst (AreItsOwn z.node) (sym all) (own_on x.node z.node (entries_in x a) h.enters.new h.follows h.made a.own);
      };
      entries = all;
    }

told_clients : (by : ℕ) (x z : ServedValue) (result : Result Unit Refusal) (o : Option DeskValue) → IsCaughtUp by x o result z → map anew z.node.clients ≡ map anew x.node.clients
told_clients by x z result None g = ap (λ (v : ServedValue). map anew v.node.clients) g.1
told_clients by x z result (Some old) g = (goes_taken g.goes).clients

-- the connections after a ring's own moves
own_clients : (x z : ServedValue) (dids : List Did) → AllByRecursion IsOwnMove dids → Run x dids z → map anew z.node.clients ≡ map anew x.node.clients
own_clients x z [] h run = ap (λ (v : ServedValue). map anew v.node.clients) run
own_clients x z (Frames ∷ dids) h run = own_clients run.0 z dids h.1 run.2 ∙ ap (λ (l : List Client). map anew l) run.1.clients
own_clients x z (Delivers ∷ dids) h run = own_clients run.0 z dids h.1 run.2 ∙ ap (λ (v : ServedValue). map anew v.node.clients) run.1
own_clients x z (Tells by ∷ dids) h run = own_clients run.0 z dids h.1 run.2 ∙ told_clients by x run.0 run.1.0 (item x.desks by) run.1.1
own_clients x z (_ ∷ dids) h run = absurd h.0

pub alone_moves : (x z : ServedValue) (a : IsAlone x) → MovesOn x z → Stays x z a []
alone_moves x z a go =
    let s = go.1 a.token a.placed a.lone in
    let f = follows_on x.node z.node (own_clients x z go.0.0 go.0.1 go.0.2) (s.is.node ∙ sym a.lone.node) in
    record {
      alone = record {
        token = s.token;
        placed = s.more;
        lone = s.is;
        own = subst (AreItsOwn z.node) (sym s.same) (own_still x.node z.node (entries_in x a) f a.own);
      };
      entries = s.same ∙ sym (append-nil (entries_in x a));
    }

pub alone_next : (r : Renewal) → IsRenewal r → IsAlone r.next
alone_next r is =
    let next = is.1.2.node in
    let waits : next.entries ++ r.next.node.ring.state.waiting ≡ next.entries = ap (λ (l : List Entry). next.entries ++ l) next.begun.still.0 ∙ append-nil next.entries in
    record { token = next.begun.token; placed = next.entries; lone = next.begun.lone; own = subst (AreItsOwn r.next.node) (sym waits) next.own }

pub alone_by : (x z : ServedValue) (step : Step) → GoesBy x step z → HearsItself step → IsAlone x → IsAlone z
alone_by x z (Does did) g f a = (alone_does x z did a g f (adds x z did g f)).alone
alone_by x z Moves g f a = (alone_moves x z a g).alone
alone_by x z (Renews r) g f a = subst IsAlone (sym g.2) (alone_next r g.1)

pub alone_new : (s : Settings) (list : Listed) → s.nodes ≡ 1 → IsAlone (alone (new_value s 1 list))
alone_new s list one = record { token = first_token s; placed = []; lone = lone_new s one; own = record { made = tt; ended = λ conn some low closed. absurd (omega (arith, some, low)) } }

-- over any life of such rings
pub alone_over : (x y : ServedValue) (steps : List Step) → Life x steps y → AllByRecursion HearsItself steps → IsAlone x → IsAlone y
alone_over x y [] life f a = subst IsAlone (sym life) a
alone_over x y (step ∷ steps) life f a = alone_over life.0 y steps life.2 f.1 (alone_by x life.0 step life.1 f.0 a)

-- ---- no more verdicts than calls

held_few : (x : ServedValue) (a : IsAlone x) → delivered_entries x.node.ring.state ≡ take x.node.ring.state.delivered a.placed
held_few x a = (delivered_are x.node.ring.state.held a.placed x.node.ring.state.delivered (λ place low high. a.lone.held place low (omega (arith, high, a.lone.delivered))) a.lone.agrees).1

module _ (each : EachEntryIsJudged) where
  -- the verdicts in an inbox are those on the connection's delivered entries
  verdicts_own : (x : ServedValue) (a : IsAlone x) (conn : ℕ) → verdicts (inbox_of x.node conn) ≡ length (own_entries (conn_at 1 conn) (delivered_entries x.node.ring.state))
  verdicts_own x a conn =
      let rs : List Record = records_of x.node in
      let id : conn_id x.node conn ≡ conn_at 1 conn = ap (λ (n : ℕ). conn_at n conn) a.lone.node in
      ap (λ c. verdicts (inbox rs c)) id
      ∙ ap (λ (l : List Verdict). length l) (verdicts_are_its_own rs (conn_at 1 conn))
      ∙ length_mapped (λ (r : Record). r.verdict) (own_records rs (conn_at 1 conn))
      ∙ sym (length_mapped (λ (r : Record). r.entry) (own_records rs (conn_at 1 conn)))
      ∙ ap (λ (l : List Entry). length l) (entries_own rs (conn_at 1 conn))
      ∙ ap (λ (l : List Entry). length (own_entries (conn_at 1 conn) l)) (each (delivered_entries x.node.ring.state)).1

  pub verdicts_few : (x : ServedValue) (a : IsAlone x) (conn : ℕ) → verdicts (inbox_of x.node conn) ≤ length (own_entries (conn_at 1 conn) (entries_in x a))
  verdicts_few x a conn =
      let d : ℕ = x.node.ring.state.delivered in
      let own : verdicts (inbox_of x.node conn) ≡ length (own_entries (conn_at 1 conn) (take d a.placed)) = verdicts_own x a conn ∙ ap (λ (l : List Entry). length (own_entries (conn_at 1 conn) l)) (held_few x a) in
      let placed : length (own_entries (conn_at 1 conn) a.placed) ≡ length (own_entries (conn_at 1 conn) (take d a.placed)) + length (own_entries (conn_at 1 conn) (drop d a.placed)) =
      ap (λ (l : List Entry). length (own_entries (conn_at 1 conn) l)) (sym (split_at d a.placed)) ∙ own_both conn (take d a.placed) (drop d a.placed) in
      omega (arith, own, placed, own_both conn a.placed x.node.ring.state.waiting)

  -- where nothing moves all have their verdicts
  pub verdicts_all : (x : ServedValue) (a : IsAlone x) (conn : ℕ) → IsStill x.node → verdicts (inbox_of x.node conn) ≡ length (own_entries (conn_at 1 conn) (entries_in x a))
  verdicts_all x a conn still =
      verdicts_own x a conn ∙ ap (λ (l : List Entry). length (own_entries (conn_at 1 conn) l)) (delivered_is x.node.ring a.token a.placed a.lone (none_next x.node still.1) ∙ sym (append-nil a.placed) ∙ ap (λ (l : List Entry). a.placed ++ l) (sym still.0))
