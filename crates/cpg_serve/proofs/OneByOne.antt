-- One ask after another.
use Rattle.std.proofs.Common.{◌≡◌, ℕ, ◌+◌, ◌-◌, ◌<◌, ◌≤◌, true, List, [], ◌∷◌, ◌++◌, length, take, drop, Option, Some, None, refl, sym, ap, subst, ◌∙◌, append_assoc, append-nil, arith, length-drop}
use Rattle.std.specs.List.{flat_map, AllByRecursion}
use Rattle.std.proofs.lemmas.Grind.{flat_map-append}
use Rattle.std.proofs.lemmas.List.{drop-drop}
use Rattle.std.proofs.lemmas.List.Sums.{fold_push}
use Rattle.cpg_cred.specs.declared.refusals.Refusal.{Refusal}
use Rattle.cpg_cred.specs.declared.refusals.Refusal.TheVariants as refusal
use Rattle.cpg_entry.specs.declared.calls.Call.{Call}
use Rattle.cpg_entry.specs.declared.calls.Op.{Op}
use Rattle.cpg_entry.specs.declared.calls.Op.TheVariants.{Act}
use Rattle.cpg_node.specs.declared.connections.Client.{Client}
use Rattle.cpg_node.specs.Nodes.{NodeValue, open_client}
use Rattle.cpg_ring.proofs.Lists.{length-with_item}
use Rattle.cpg_node.specs.Calls.{submit_refusal, with_entry, ended_by}
use Rattle.cpg_serve.specs.declared.desks.Owed.{Owed}
use Rattle.cpg_serve.specs.declared.hearing.Stop.{Stop}
use Rattle.cpg_ask.specs.Asks.{Ask}
use Rattle.cpg_ask.specs.Spelling.{spelling, IsAsk}
use Rattle.cpg_ask.specs.Streams.{StandsIn}
use Rattle.cpg_serve.specs.declared.hearing.Step.TheVariants as steps
use Rattle.cpg_serve.specs.Asking.{At, Turn, IsTurn, owed_to, takes_in, asked, asked_by, asked_all, called_by, call_of}
use Rattle.cpg_serve.specs.Hearing.{IsStep, AllTaken, HeardSo, Hears, asks_of}

pub heard_none : (conn : ℕ) (s : At) (bytes : List ℕ) → HeardSo conn s bytes 0 s
heard_none conn s bytes = record { turns = []; each = tt; parts = refl; taken = tt; within = omega arith; done = refl }

all_push : (asks : List Ask) (ask : Ask) → AllByRecursion IsAsk asks → IsAsk ask → AllByRecursion IsAsk (asks ++ ask ∷ [])
all_push [] ask h is = (is, tt)
all_push (a ∷ asks) ask h is = (h.0, all_push asks ask h.1 is)

taken_push : (conn : ℕ) (s : At) (turns : List Turn) (turn : Turn) → AllTaken conn s turns → IsTurn conn (asked_all conn s turns) turn → takes_in conn (asked_all conn s turns) turn.ask ≡ true → AllTaken conn s (turns ++ turn ∷ [])
taken_push conn s [] turn h named is = (named, is, tt)
taken_push conn s (a ∷ turns) turn h named is = (h.0, h.1, taken_push conn (asked conn s a) turns turn h.2 named is)

asks_push : (turns : List Turn) (turn : Turn) → asks_of (turns ++ turn ∷ []) ≡ asks_of turns ++ turn.ask ∷ []
asks_push [] turn = refl
asks_push (t ∷ turns) turn = ap (λ (l : List Ask). t.ask ∷ l) (asks_push turns turn)

pub heard_more : (conn : ℕ) (s t u : At) (bytes : List ℕ) (count more : ℕ) → HeardSo conn s bytes count t → IsStep conn t (drop count bytes) (steps.Took more) u
    → HeardSo conn s bytes (count + more) u
heard_more conn s t u bytes count more h step =
    let turn : Turn = step.0 in
    let ask : Ask = turn.ask in
    let stands : StandsIn (drop count bytes) ask more = step.1 in
    let asks : List Ask = asks_of h.turns in
    let front : List ℕ = flat_map spelling asks in
    let rest : List ℕ = drop (count + more) bytes in
    let pushed : asks_of (h.turns ++ turn ∷ []) ≡ asks ++ ask ∷ [] = asks_push h.turns turn in
    let one : flat_map spelling (asks ++ ask ∷ []) ≡ front ++ spelling ask = flat_map-append spelling asks (ask ∷ []) ∙ ap (λ (l : List ℕ). front ++ l) (append-nil (spelling ask)) in
    let cut : drop count bytes ≡ spelling ask ++ rest = stands.parts ∙ ap (λ (l : List ℕ). spelling ask ++ l) (drop-drop more count bytes) in
    record {
      turns = h.turns ++ turn ∷ [];
      each = subst (λ (l : List Ask). AllByRecursion IsAsk l) (sym pushed) (all_push asks ask h.each stands.is);
      parts = h.parts ∙ ap (λ (l : List ℕ). front ++ l) cut ∙ sym (append_assoc front (spelling ask) rest) ∙ ap (λ (l : List ℕ). l ++ rest) (sym one)
          ∙ ap (λ (l : List Ask). flat_map spelling l ++ rest) (sym pushed);
      taken = taken_push conn s h.turns turn h.taken (subst (λ (k : At). IsTurn conn k turn) h.done step.2) (subst (λ (k : At). takes_in conn k ask ≡ true) h.done step.3);
      within = omega (arith, h.within, stands.within, length-drop count bytes);
      done = step.4 ∙ ap (λ (k : At). asked conn k turn) h.done ∙ sym (fold_push (asked conn) s h.turns turn);
    }

pub more_left : (bytes : List ℕ) (count more : ℕ) (ask : Ask) → count ≤ length bytes → StandsIn (drop count bytes) ask more → (0 < more) × (count + more ≤ length bytes)
more_left bytes count more ask within stands = (stands.some, omega (arith, stands.within, within, length-drop count bytes))

-- ---- what asks leave as it is

-- the connections, how the client is greeted, and the event that was taken
pub record Leaves (s t : At) : Type 0 where
  pub clients : t.node.clients ≡ s.node.clients
  pub greeting : t.desk.greeting ≡ s.desk.greeting
  pub next : t.desk.next ≡ s.desk.next

called_leaves : (conn : ℕ) (s : At) (owed : Owed) (call : Call) (o : Option Refusal) → Leaves s (called_by conn s owed call o)
called_leaves conn s owed call None = record { clients = entry_count s.node conn (Act call) (open_client s.node conn); greeting = refl; next = refl }
  where
    entry_count : (x : NodeValue) (conn : ℕ) (op : Op) (o : Option Client) → (with_entry x conn op o).clients ≡ x.clients
    entry_count x conn op None = refl
    entry_count x conn op (Some c) = refl
called_leaves conn s owed call (Some refusal.QueueFull) = record { clients = refl; greeting = refl; next = refl }
called_leaves conn s owed call (Some _) = record { clients = refl; greeting = refl; next = refl }

asked_leaves : (conn : ℕ) (s : At) (turn : Turn) (o : Option Call) → Leaves s (asked_by conn s turn o)
asked_leaves conn s turn None = record { clients = refl; greeting = refl; next = refl }
asked_leaves conn s turn (Some call) = called_leaves conn s (owed_to turn.ask) call (submit_refusal s.node conn call)

pub all_leave : (conn : ℕ) (s : At) (turns : List Turn) → Leaves s (asked_all conn s turns)
all_leave conn s [] = record { clients = refl; greeting = refl; next = refl }
all_leave conn s (turn ∷ turns) =
    let more = all_leave conn (asked conn s turn) turns in
    let one = asked_leaves conn s turn (call_of turn.ask.want) in
    record { clients = more.clients ∙ one.clients; greeting = more.greeting ∙ one.greeting; next = more.next ∙ one.next }

pub heard_count : (conn : ℕ) (s t : At) (bytes : List ℕ) (count : ℕ) (stop : Stop) → Hears conn s bytes count stop t → length t.node.clients ≡ length s.node.clients
heard_count conn s t bytes count stop h = ap (λ (k : At). length k.node.clients) h.so.done ∙ ap (λ (cs : List Client). length cs) ((all_leave conn s h.so.turns).clients)

-- ---- what is left of bytes

pub rest_is : (bytes : List ℕ) (n : ℕ) → take (length bytes - n) (drop n bytes) ≡ drop n bytes
rest_is bytes n = rw (sym (length-drop n bytes)) (take_all (drop n bytes))
  where
    take_all : (l : List ℕ) → take (length l) l ≡ l
    take_all [] = refl
    take_all (x ∷ xs) = ap (λ t. x ∷ t) (take_all xs)

-- as many connections where one ends
pub ended_count : (x : NodeValue) (by : ℕ) (o : Option Client) → length (ended_by x by o).clients ≡ length x.clients
ended_count x by None = refl
ended_count x by (Some c) = length-with_item x.clients by (record c { ended = true })
