-- All clients are told, one after another, and what keeps a ring one of one node.
use Rattle.std.proofs.Common.{◌≡◌, ◌≢◌, ◌⊎◌, ◌<◌, ◌≤◌, ℕ, zero, suc, Bool, true, false, List, [], ◌∷◌, ◌++◌, length, Option, Some, None, Ok, Err, Result, refl, sym, ap, subst, ◌∙◌, inl, inr, ⊎_elim, arith, append-nil}
use Rattle.std.specs.Prelude.{option_to_list}
use Rattle.std.specs.List.{AllByRecursion}
use Rattle.std.proofs.lemmas.Bool.{cases_eq, cases_lt}
use Rattle.std.proofs.lemmas.Option.{none-some, same_Some}
use Rattle.cpg_cred.specs.declared.refusals.Refusal.{Refusal}
use Rattle.cpg_entry.specs.declared.entries.Entry.{Entry}
use Rattle.cpg_entry.specs.declared.frames.Token.{Token}
use Rattle.cpg_record.specs.declared.events.Event.{Event}
use Rattle.cpg_ring.specs.Rings.{RingNode}
use Rattle.cpg_ring.specs.Worlds.{item, with_item}
use Rattle.cpg_ring.proofs.Lists.{item_with_same, item_with_other, length-with_item}
use Rattle.cpg_node.specs.declared.connections.Client.{Client}
use Rattle.cpg_node.specs.Nodes.{NodeValue, delivered_entries, entry_by, if_open, open_client}
use Rattle.cpg_node.specs.Calls.{ended_by, submit_refusal, with_entry}
use Rattle.cpg_entry.specs.declared.calls.Call.{Call}
use Rattle.cpg_entry.specs.declared.calls.Op.{Op}
use Rattle.cpg_entry.specs.declared.calls.Op.TheVariants.{Act, Gone}
use Rattle.cpg_cred.specs.declared.refusals.Refusal.TheVariants as refusal
use Rattle.cpg_serve.specs.Telling.{DeskValue}
use Rattle.cpg_serve.specs.declared.desks.Owed.{Owed}
use Rattle.cpg_serve.specs.Asking.{At, Turn, at_of, asked, asked_all, asked_by, call_of, called_by, owed_to}
use Rattle.cpg_serve.specs.Coming.{left_of, rest_of}
use Rattle.cpg_serve.specs.Serving.{ServedValue, IsCaughtUp}
use Rattle.cpg_serve.specs.Stories.{IsQuiet}
use Rattle.cpg_serve.specs.Runs.{Did, Arrives, Hears, Frames, Delivers, Tells, Writes, Loses, Nothing, Goes}
use Rattle.cpg_serve.specs.Settling.{IsLone, IsFrameless, IsStill, LoneStays, StaysLone, MovesTo, ToldAll}
use Rattle.cpg_serve.proofs.Coming.{goes_taken}
use Rattle.cpg_serve.proofs.Lone.{delivered_is, lone_delivered, lone_kept}
use Rattle.cpg_serve.proofs.Noted.{rest_quiet, inbox_quiet}
use Rattle.cpg_serve.proofs.Running.{within}
use Rattle.cpg_serve.proofs.Turns.{moves_none, moves_one, moves_then, none_next}

-- what is left for a client for which nothing happened
left_quiet : (conn : ℕ) (x y : NodeValue) (d : DeskValue) → IsQuiet conn x y → left_of conn (at_of y d) ≡ left_of conn (at_of x d)
left_quiet conn x y d q =
    let opened : open_client y conn ≡ open_client x conn = ap if_open q.client in
    ap (λ (l : List Event). option_to_list d.next ++ l) (ap (rest_of y conn) opened ∙ rest_quiet conn x y (open_client x conn) (inbox_quiet conn x y q))

-- The clients up to that number were told all, one after another.
pub record ToldTo (x : ServedValue) (last : ℕ) (y : ServedValue) : Type 0 where
  pub moves : MovesTo x y
  pub ring : y.node.ring ≡ x.node.ring
  pub count : length y.desks ≡ length x.desks
  pub told : (conn : ℕ) → 1 ≤ conn → conn ≤ last → ToldAll y conn

pub told_none : (x : ServedValue) → ToldTo x 0 x
told_none x = record { moves = moves_none x; ring = refl; count = refl; told = λ conn low high. absurd (omega arith) }

tell_moves : (by : ℕ) (x y : ServedValue) (result : Result Unit Refusal) → IsCaughtUp by x (item x.desks by) result y → MovesTo x y
tell_moves by x y result h = moves_one x y (Tells by) tt (result, h)

-- whatever came of it, the node's ring is as it was
pub tell_same : (by : ℕ) (x y : ServedValue) (result : Result Unit Refusal) (o : Option DeskValue) → IsCaughtUp by x o result y → (y.node.ring ≡ x.node.ring) × (length y.desks ≡ length x.desks)
tell_same by x y result None h = (ap (λ (z : ServedValue). z.node.ring) h.1, ap (λ (z : ServedValue). length z.desks) h.1)
tell_same by x y result (Some old) h = ((goes_taken h.goes).ring, ap (λ (ds : List DeskValue). length ds) h.others ∙ length-with_item x.desks by h.new)

told_other : (by conn : ℕ) (x y : ServedValue) (result : Result Unit Refusal) (o : Option DeskValue) → conn ≢ by → IsCaughtUp by x o result y → ToldAll x conn → ToldAll y conn
told_other by conn x y result None other h told d there = subst (λ (z : ServedValue). ToldAll z conn) (sym h.1) told d there
told_other by conn x y result (Some old) other h told d there =
    let quiet : IsQuiet conn x.node y.node = record { records = rw (goes_taken h.goes).ring refl; node = ap (λ r. r.node) (goes_taken h.goes).ring; client = (goes_taken h.goes).others conn other } in
    let was : item x.desks conn ≡ Some d = sym (ap (λ ds. item ds conn) h.others ∙ item_with_other x.desks by conn h.new other) ∙ there in
    left_quiet conn x.node y.node d quiet ∙ told d was

told_own : (by : ℕ) (x y : ServedValue) (o : Option DeskValue) → item x.desks by ≡ o → IsCaughtUp by x o (Ok tt) y → ToldAll y by
told_own by x y None at h d there = absurd (none-some d (sym at ∙ sym (ap (λ (z : ServedValue). item z.desks by) h.1) ∙ there))
told_own by x y (Some old) at h d there =
    let now : item y.desks by ≡ Some h.new = ap (λ ds. item ds by) h.others ∙ item_with_same x.desks by h.new old at in
    let same : h.new ≡ d = same_Some h.new d (sym now ∙ there) in
    subst (λ (e : DeskValue). left_of by (at_of y.node e) ≡ []) same h.all

pub told_more : (x y z : ServedValue) (last next : ℕ) → next ≡ suc last → ToldTo x last y → IsCaughtUp next y (item y.desks next) (Ok tt) z → ToldTo x next z
told_more x y z last next is h k =
    let same = tell_same next y z (Ok tt) (item y.desks next) k in
    record {
      moves = moves_then x y z h.moves (tell_moves next y z (Ok tt) k);
      ring = same.0 ∙ h.ring;
      count = same.1 ∙ h.count;
      told = λ conn low high. ⊎_elim
          (λ (own : conn ≡ next). subst (ToldAll z) (sym own) (told_own next y z (item y.desks next) refl k))
          (λ (other : conn ≢ next). told_other next conn y z (Ok tt) (item y.desks next) other k (h.told conn low (omega arith)))
          (cases_eq conn next);
    }

-- whatever ended it
pub told_some : (x y z : ServedValue) (last next : ℕ) (result : Result Unit Refusal) → ToldTo x last y → IsCaughtUp next y (item y.desks next) result z → MovesTo x z
told_some x y z last next result h k = moves_then x y z h.moves (tell_moves next y z result k)

-- there are no others
pub told_every : (x y : ServedValue) (last most : ℕ) → ToldTo x last y → (length x.desks ≤ last) ⊎ (most ≤ last) → (conn : ℕ) → conn ≤ most → ToldAll y conn
told_every x y last most h ends zero few d there = absurd (none-some d there)
told_every x y last most h ends (suc conn) few d there =
    let here : suc conn ≤ length y.desks = within y.desks (suc conn) d there in
    h.told (suc conn) (omega arith) (⊎_elim (λ (a : length x.desks ≤ last). omega (arith, a, here, h.count)) (λ (a : most ≤ last). omega (arith, a, few)) ends) d there

-- ---- all that was admitted is delivered

pub all_placed : (x y : NodeValue) → StaysLone x.ring y.ring → IsStill y → (t : Token) (placed : List Entry) → IsLone x.ring t placed → delivered_entries y.ring.state ≡ placed ++ x.ring.state.waiting
all_placed x y stays still t placed h =
    let s = stays t placed h in
    delivered_is y.ring s.token s.more s.is (none_next y still.1) ∙ sym (append-nil s.more) ∙ ap (λ w. s.more ++ w) (sym still.0) ∙ s.same

-- ---- over a run in which no frame is heard

pub lone_entry : (x : NodeValue) (by : ℕ) (op : Op) (o : Option Client) (t : Token) (placed : List Entry) → IsLone x.ring t placed → IsLone (with_entry x by op o).ring t placed
lone_entry x by op None t placed h = h
lone_entry x by op (Some c) t placed h = lone_kept x.ring t placed (x.ring.state.waiting ++ entry_by x by c op ∷ []) x.ring.state.delivered h.delivered h

lone_called : (by : ℕ) (s : At) (owed : Owed) (call : Call) (o : Option Refusal) (t : Token) (placed : List Entry) → IsLone s.node.ring t placed → IsLone (called_by by s owed call o).node.ring t placed
lone_called by s owed call None t placed h = lone_entry s.node by (Act call) (open_client s.node by) t placed h
lone_called by s owed call (Some refusal.QueueFull) t placed h = h
lone_called by s owed call (Some _) t placed h = h

lone_asked : (by : ℕ) (s : At) (turn : Turn) (o : Option Call) (t : Token) (placed : List Entry) → IsLone s.node.ring t placed → IsLone (asked_by by s turn o).node.ring t placed
lone_asked by s turn None t placed h = h
lone_asked by s turn (Some call) t placed h = lone_called by s (owed_to turn.ask) call (submit_refusal s.node by call) t placed h

lone_heard : (by : ℕ) (s : At) (turns : List Turn) (t : Token) (placed : List Entry) → IsLone s.node.ring t placed → IsLone (asked_all by s turns).node.ring t placed
lone_heard by s [] t placed h = h
lone_heard by s (turn ∷ turns) t placed h = lone_heard by (asked by s turn) turns t placed (lone_asked by s turn (call_of turn.ask.want) t placed h)

lone_ended : (x : NodeValue) (by : ℕ) (o : Option Client) (t : Token) (placed : List Entry) → IsLone x.ring t placed → IsLone (ended_by x by o).ring t placed
lone_ended x by None t placed h = h
lone_ended x by (Some c) t placed h = lone_entry x by Gone (Some c) t placed h

pub lone_goes : (x y : ServedValue) (did : Did) → Goes x did y → IsFrameless did → (t : Token) (placed : List Entry) → IsLone x.node.ring t placed → IsLone y.node.ring t placed
lone_goes x y (Arrives pid cred) g own t placed h = subst (λ (z : ServedValue). IsLone z.node.ring t placed) (sym g) h
lone_goes x y (Hears by bytes count stop) g own t placed h =
    subst (λ (s : At). IsLone s.node.ring t placed) (sym g.did.so.done) (lone_heard by (at_of x.node g.old) g.did.so.turns t placed h)
lone_goes x y Frames g own t placed h = absurd own
lone_goes x y Delivers g own t placed h = subst (λ (z : ServedValue). IsLone z.node.ring t placed) (sym g) (lone_delivered x.node.ring t placed h)
lone_goes x y (Tells by) g own t placed h = subst (λ (r : RingNode). IsLone r t placed) (sym (tell_same by x y g.0 (item x.desks by) g.1).0) h
lone_goes x y (Writes by bytes) g own t placed h = subst (λ (z : ServedValue). IsLone z.node.ring t placed) (sym g.after) h
lone_goes x y (Loses by) g own t placed h = subst (λ (z : ServedValue). IsLone z.node.ring t placed) (sym g) (lone_ended x.node by (open_client x.node by) t placed h)
lone_goes x y Nothing g own t placed h = subst (λ (z : ServedValue). IsLone z.node.ring t placed) (sym g) h

pub lone_stays : LoneStays
lone_stays x y [] run own t placed h = subst (λ (z : ServedValue). IsLone z.node.ring t placed) (sym run) h
lone_stays x y (did ∷ dids) run own t placed h = lone_stays run.0 y dids run.2 own.1 t placed (lone_goes x run.0 did run.1 own.0 t placed h)
