-- A client's story over a run of calls.
use Rattle.std.proofs.Common.{◌≡◌, ◌≢◌, ℕ, zero, suc, ◌≤◌, is_some, Bool, true, false, cond, eqb, eq-eqb, List, ◌++◌, ◌∷◌, [], length, take, drop, Option, Some, None, Result, refl, sym, ap, ◌∙◌, subst, append-nil, append_assoc, arith}
use Rattle.std.specs.List.{flat_map, slice_get, AllByRecursion}
use Rattle.std.proofs.lemmas.Bool.{eqb-true}
use Rattle.std.proofs.lemmas.Grind.{flat_map-append}
use Rattle.std.proofs.lemmas.List.{take-append-drop, append_cancel_right}
use Rattle.std.proofs.lemmas.Option.{same_Some, slice_get_within}
use Rattle.cpg_cred.specs.declared.credentials.Cred.{Cred}
use Rattle.cpg_cred.specs.declared.refusals.Refusal.{Refusal}
use Rattle.cpg_cred.specs.declared.refusals.Refusal.TheVariants as refusal
use Rattle.cpg_entry.specs.declared.calls.Call.{Call}
use Rattle.cpg_entry.specs.declared.calls.Op.{Op}
use Rattle.cpg_entry.specs.declared.calls.Op.TheVariants.{Act}
use Rattle.cpg_ring.specs.Worlds.{item, with_item}
use Rattle.cpg_ring.proofs.Lists.{item_with_same, item_with_other}
use Rattle.cpg_node.specs.declared.connections.Client.{Client}
use Rattle.cpg_node.specs.Nodes.{NodeValue, open_client, if_open, inbox_of}
use Rattle.cpg_node.specs.Calls.{submit_refusal, with_entry, connected, ended_by}
use Rattle.cpg_ask.specs.Asks.{Ask}
use Rattle.cpg_ask.specs.Spelling.{spelling}
use Rattle.cpg_serve.specs.declared.hearing.Stop.{Stop}
use Rattle.cpg_serve.specs.declared.desks.Owed.{Owed}
use Rattle.cpg_serve.specs.Telling.{DeskValue, new_desk, wrote}
use Rattle.cpg_serve.specs.Asking.{At, Turn, owed_to, at_of, asked, asked_by, asked_all, called_by, call_of}
use Rattle.cpg_serve.specs.Coming.{rest_of}
use Rattle.cpg_serve.specs.Serving.{ServedValue, arrived, parted, IsHeard, IsCaughtUp, IsWritten}
use Rattle.cpg_serve.specs.Stories.{Before, IsStory, IsQuiet, StoryAt}
use Rattle.cpg_serve.specs.Runs.{Did, Arrives, Hears, Frames, Delivers, Tells, Writes, Loses, Nothing, Run, IsFramed, Goes, IsKeptBy, heard_by, written_by, AllThatIsTold, StoriesBegin}
use Rattle.cpg_record.proofs.Inboxes.{slice_get_front}
use Rattle.cpg_serve.proofs.Coming.{goes_taken}
use Rattle.cpg_serve.proofs.Noted.{story_quiet}
use Rattle.cpg_serve.proofs.Kept.{story_of_hearing, story_of_telling, story_of_delivery}

-- ---- what others do is quiet

pub quiet_same : (conn : ℕ) (x : NodeValue) → IsQuiet conn x x
quiet_same conn x = record { records = refl; node = refl; client = refl }

quiet_then : (conn : ℕ) (x y z : NodeValue) → IsQuiet conn x y → IsQuiet conn y z → IsQuiet conn x z
quiet_then conn x y z h k = record { records = k.records ∙ h.records; node = k.node ∙ h.node; client = k.client ∙ h.client }

quiet_entry : (conn : ℕ) (x : NodeValue) (by : ℕ) (op : Op) (o : Option Client) → IsQuiet conn x (with_entry x by op o)
quiet_entry conn x by op None = quiet_same conn x
quiet_entry conn x by op (Some c) = record { records = refl; node = refl; client = refl }

quiet_called : (conn by : ℕ) (s : At) (owed : Owed) (call : Call) (o : Option Refusal) → IsQuiet conn s.node (called_by by s owed call o).node
quiet_called conn by s owed call None = quiet_entry conn s.node by (Act call) (open_client s.node by)
quiet_called conn by s owed call (Some refusal.QueueFull) = quiet_same conn s.node
quiet_called conn by s owed call (Some _) = quiet_same conn s.node

quiet_asked : (conn by : ℕ) (s : At) (turn : Turn) (o : Option Call) → IsQuiet conn s.node (asked_by by s turn o).node
quiet_asked conn by s turn None = quiet_same conn s.node
quiet_asked conn by s turn (Some call) = quiet_called conn by s (owed_to turn.ask) call (submit_refusal s.node by call)

pub quiet_all : (conn by : ℕ) (s : At) (turns : List Turn) → IsQuiet conn s.node (asked_all by s turns).node
quiet_all conn by s [] = quiet_same conn s.node
quiet_all conn by s (turn ∷ turns) =
    quiet_then conn s.node (asked by s turn).node (asked_all by (asked by s turn) turns).node (quiet_asked conn by s turn (call_of turn.ask.want)) (quiet_all conn by (asked by s turn) turns)

pub quiet_ended : (conn by : ℕ) (x : NodeValue) (o : Option Client) → conn ≢ by → IsQuiet conn x (ended_by x by o)
quiet_ended conn by x None h = quiet_same conn x
quiet_ended conn by x (Some c) h = record { records = refl; node = refl; client = item_with_other x.clients by conn (record c { ended = true }) h }

pub within : {X : Type 0} (xs : List X) (n : ℕ) (x : X) → item xs n ≡ Some x → n ≤ length xs
within xs zero x e = omega arith
within xs (suc n) x e = slice_get_within xs n x e

pub front : {X : Type 0} (xs ys : List X) (n : ℕ) → n ≤ length xs → item (xs ++ ys) n ≡ item xs n
front xs ys zero h = refl
front xs ys (suc n) h = slice_get_front xs ys n (omega (arith, h))

pub item_front : {X : Type 0} (xs ys : List X) (n : ℕ) (x : X) → item xs n ≡ Some x → item (xs ++ ys) n ≡ item xs n
item_front xs ys n x h = front xs ys n (within xs n x h)

-- an open connection is an item
pub item_of : (o : Option Client) → is_some (if_open o) ≡ true → (c : Client) × (o ≡ Some c)
item_of (Some c) h = (c, refl)
item_of None h = absurd cc

-- ---- a story that others leave

stays : (before : Before) (conn : ℕ) (asks : List Ask) (written : List ℕ) (x y : ServedValue) (k : StoryAt before conn asks written x) → item y.desks conn ≡ Some k.desk → y.greeting ≡ x.greeting → IsQuiet conn x.node y.node → StoryAt before conn asks written y
stays before conn asks written x y k there greeting q = record { desk = k.desk; there = there; greeting = k.greeting ∙ sym greeting; story = story_quiet before conn asks written x.node y.node k.desk q k.story }

stays_heard : (before : Before) (conn by : ℕ) (asks : List Ask) (written : List ℕ) (x y : ServedValue) (bytes : List ℕ) (count : ℕ) (stop : Stop) → conn ≢ by → IsHeard by x bytes count stop y → StoryAt before conn asks written x → StoryAt before conn asks written y
stays_heard before conn by asks written x y bytes count stop is h k =
    stays before conn asks written x y k (ap (λ ds. item ds conn) h.others ∙ item_with_other x.desks by conn h.new is ∙ k.there) h.greeting
    (subst (λ (n : NodeValue). IsQuiet conn x.node n) (sym (ap (λ (t : At). t.node) h.did.so.done)) (quiet_all conn by (at_of x.node h.old) h.did.so.turns))

stays_told : (before : Before) (conn by : ℕ) (asks : List Ask) (written : List ℕ) (x y : ServedValue) (result : Result Unit Refusal) (o : Option DeskValue) → conn ≢ by → IsCaughtUp by x o result y → StoryAt before conn asks written x → StoryAt before conn asks written y
stays_told before conn by asks written x y result None is h k = subst (λ (z : ServedValue). StoryAt before conn asks written z) (sym h.1) k
stays_told before conn by asks written x y result (Some old) is h k =
    stays before conn asks written x y k (ap (λ ds. item ds conn) h.others ∙ item_with_other x.desks by conn h.new is ∙ k.there) h.greeting
    (record { records = rw (goes_taken h.goes).ring refl; node = ap (λ r. r.node) (goes_taken h.goes).ring; client = (goes_taken h.goes).others conn is })

stays_written : (before : Before) (conn by : ℕ) (asks : List Ask) (written : List ℕ) (x y : ServedValue) (bytes : List ℕ) → conn ≢ by → IsWritten by x bytes y → StoryAt before conn asks written x → StoryAt before conn asks written y
stays_written before conn by asks written x y bytes is h k =
    subst (λ (z : ServedValue). StoryAt before conn asks written z) (sym h.after)
    (stays before conn asks written x (record { greeting = x.greeting; node = x.node; desks = with_item x.desks by (wrote h.old (length bytes)) }) k
    (item_with_other x.desks by conn (wrote h.old (length bytes)) is ∙ k.there) refl (quiet_same conn x.node))

stays_framed : (before : Before) (conn : ℕ) (asks : List Ask) (written : List ℕ) (x y : ServedValue) → IsFramed x y → StoryAt before conn asks written x → StoryAt before conn asks written y
stays_framed before conn asks written x y h k =
    stays before conn asks written x y k (ap (λ ds. item ds conn) h.desks ∙ k.there) h.greeting (record { records = h.records; node = h.number; client = ap (λ cs. item cs conn) h.clients })

stays_arrived : (before : Before) (conn : ℕ) (asks : List Ask) (written : List ℕ) (x : ServedValue) (pid : ℕ) (cred : Cred) → StoryAt before conn asks written x → StoryAt before conn asks written (arrived x pid cred)
stays_arrived before conn asks written x pid cred k =
    let c = item_of (item x.node.clients conn) k.story.alive in
    stays before conn asks written x (arrived x pid cred) k (item_front x.desks (new_desk x.greeting ∷ []) conn k.desk k.there ∙ k.there) refl
    (record { records = refl; node = refl; client = item_front x.node.clients _ conn c.0 c.1 })

written_own : (before : Before) (conn : ℕ) (asks : List Ask) (written : List ℕ) (x y : ServedValue) (bytes : List ℕ) → IsWritten conn x bytes y → StoryAt before conn asks written x → StoryAt before conn asks (written ++ bytes) y
written_own before conn asks written x y bytes h k =
    let same : h.old ≡ k.desk = same_Some h.old k.desk (sym h.there ∙ k.there) in
    let here : IsStory before conn asks written (at_of x.node h.old) = subst (λ (d : DeskValue). IsStory before conn asks written (at_of x.node d)) (sym same) k.story in
    let new : DeskValue = wrote h.old (length bytes) in
    let after : IsStory before conn asks (written ++ bytes) (at_of x.node new) = record {
      notes = here.notes;
      now = record { each = here.now.each; rising = here.now.rising; began = here.now.began; events = here.now.events };
      asked = here.asked;
      counted = here.counted;
      alive = here.alive;
      owed = here.owed;
      told = append_assoc written bytes new.out ∙ ap (λ (l : List ℕ). written ++ l) (sym h.front) ∙ here.told;
    } in
    subst (λ (z : ServedValue). StoryAt before conn asks (written ++ bytes) z) (sym h.after) (record {
      desk = new;
      there = item_with_same x.desks conn new h.old h.there;
      greeting = ap (λ (d : DeskValue). d.greeting) same ∙ k.greeting;
      story = after;
    })

-- ---- one call

-- what one call brings to a story
abbrev pub Brings : Before → ℕ → List Ask → List ℕ → Did → ServedValue → Type 0
Brings before conn asks written did y = (more : List Ask) × (heard_by conn did ≡ flat_map spelling more) × StoryAt before conn (asks ++ more) (written ++ written_by conn did) y

nothing_more : (before : Before) (conn : ℕ) (asks : List Ask) (written : List ℕ) (did : Did) (y : ServedValue) → heard_by conn did ≡ [] → written_by conn did ≡ [] → StoryAt before conn asks written y → Brings before conn asks written did y
nothing_more before conn asks written did y heard wrote k = (
  [],
  heard,
  subst (λ (w : List ℕ). StoryAt before conn (asks ++ []) (written ++ w) y) (sym wrote)
      (subst (λ (w : List ℕ). StoryAt before conn (asks ++ []) w y) (sym (append-nil written)) (subst (λ (l : List Ask). StoryAt before conn l written y) (sym (append-nil asks)) k)),
)

pub is_other : (by conn : ℕ) → eqb by conn ≡ false → conn ≢ by
is_other by conn e same = let t : eqb by conn ≡ true = eq-eqb by conn (sym same) in absurd cc

pub heard_front : (bytes front : List ℕ) (count : ℕ) → bytes ≡ front ++ drop count bytes → take count bytes ≡ front
heard_front bytes front count e = append_cancel_right (take count bytes) front (drop count bytes) (take-append-drop count bytes ∙ e)

heard_one : (before : Before) (conn by : ℕ) (asks : List Ask) (written : List ℕ) (x y : ServedValue) (bytes : List ℕ) (count : ℕ) (stop : Stop) (b : Bool) → eqb by conn ≡ b → IsHeard by x bytes count stop y → StoryAt before conn asks written x
    → (more : List Ask) × (cond b (take count bytes) [] ≡ flat_map spelling more) × StoryAt before conn (asks ++ more) (written ++ []) y
heard_one before conn by asks written x y bytes count stop false e h k =
    ([], refl, subst (λ (w : List ℕ). StoryAt before conn (asks ++ []) w y) (sym (append-nil written)) (subst (λ (l : List Ask). StoryAt before conn l written y) (sym (append-nil asks)) (stays_heard before conn by asks written x y bytes count stop (is_other by conn e) h k)))
heard_one before conn by asks written x y bytes count stop true e h k =
    let own : IsHeard conn x bytes count stop y = subst (λ (n : ℕ). IsHeard n x bytes count stop y) (eqb-true by conn e) h in
    let s = story_of_hearing before conn asks written x y bytes count stop own k in
    (s.0, heard_front bytes (flat_map spelling s.0) count s.1, subst (λ (w : List ℕ). StoryAt before conn (asks ++ s.0) w y) (sym (append-nil written)) s.2)

told_one : (before : Before) (conn by : ℕ) (asks : List Ask) (written : List ℕ) (x y : ServedValue) (result : Result Unit Refusal) (b : Bool) → eqb by conn ≡ b → IsCaughtUp by x (item x.desks by) result y → StoryAt before conn asks written x → StoryAt before conn asks written y
told_one before conn by asks written x y result false e h k = stays_told before conn by asks written x y result (item x.desks by) (is_other by conn e) h k
told_one before conn by asks written x y result true e h k = story_of_telling before conn asks written x y result (subst (λ (n : ℕ). IsCaughtUp n x (item x.desks n) result y) (eqb-true by conn e) h) k

written_one : (before : Before) (conn by : ℕ) (asks : List Ask) (written : List ℕ) (x y : ServedValue) (bytes : List ℕ) (b : Bool) → eqb by conn ≡ b → IsWritten by x bytes y → StoryAt before conn asks written x → StoryAt before conn asks (written ++ cond b bytes []) y
written_one before conn by asks written x y bytes false e h k = subst (λ (w : List ℕ). StoryAt before conn asks w y) (sym (append-nil written)) (stays_written before conn by asks written x y bytes (is_other by conn e) h k)
written_one before conn by asks written x y bytes true e h k = written_own before conn asks written x y bytes (subst (λ (n : ℕ). IsWritten n x bytes y) (eqb-true by conn e) h) k

pub one_call : (before : Before) (conn : ℕ) (asks : List Ask) (written : List ℕ) (x y : ServedValue) (did : Did) → Goes x did y → IsKeptBy conn did → StoryAt before conn asks written x → Brings before conn asks written did y
one_call before conn asks written x y (Arrives pid cred) h i k = nothing_more before conn asks written (Arrives pid cred) y refl refl (subst (λ (z : ServedValue). StoryAt before conn asks written z) (sym h) (stays_arrived before conn asks written x pid cred k))
one_call before conn asks written x y (Hears by bytes count stop) h i k = heard_one before conn by asks written x y bytes count stop (eqb by conn) refl h k
one_call before conn asks written x y Frames h i k = nothing_more before conn asks written Frames y refl refl (stays_framed before conn asks written x y h k)
one_call before conn asks written x y Delivers h i k = nothing_more before conn asks written Delivers y refl refl (subst (λ (z : ServedValue). StoryAt before conn asks written z) (sym h) (story_of_delivery before conn asks written x k))
one_call before conn asks written x y (Tells by) h i k = nothing_more before conn asks written (Tells by) y refl refl (told_one before conn by asks written x y h.0 (eqb by conn) refl h.1 k)
one_call before conn asks written x y (Writes by bytes) h i k =
    ([], refl, subst (λ (l : List Ask). StoryAt before conn l (written ++ written_by conn (Writes by bytes)) y) (sym (append-nil asks)) (written_one before conn by asks written x y bytes (eqb by conn) refl h k))
one_call before conn asks written x y (Loses by) h i k = nothing_more before conn asks written (Loses by) y refl refl
    (subst (λ (z : ServedValue). StoryAt before conn asks written z) (sym h) (stays before conn asks written x (parted x by) k (item_with_other x.desks by conn (new_desk x.greeting) i ∙ k.there) refl (quiet_ended conn by x.node (open_client x.node by) i)))
one_call before conn asks written x y Nothing h i k = nothing_more before conn asks written Nothing y refl refl (subst (λ (z : ServedValue). StoryAt before conn asks written z) (sym h) k)

-- ---- a run

over : (before : Before) (conn : ℕ) (asks : List Ask) (written : List ℕ) (x y : ServedValue) (dids : List Did) → Run x dids y → AllByRecursion (IsKeptBy conn) dids → StoryAt before conn asks written x
    → (more : List Ask) × (flat_map (heard_by conn) dids ≡ flat_map spelling more) × StoryAt before conn (asks ++ more) (written ++ flat_map (written_by conn) dids) y
over before conn asks written x y [] h i k = (
  [],
  refl,
  subst (λ (z : ServedValue). StoryAt before conn (asks ++ []) (written ++ []) z) (sym h)
      (subst (λ (w : List ℕ). StoryAt before conn (asks ++ []) w x) (sym (append-nil written)) (subst (λ (l : List Ask). StoryAt before conn l written x) (sym (append-nil asks)) k)),
)
over before conn asks written x y (did ∷ dids) h i k =
    let first = one_call before conn asks written x h.0 did h.1 i.0 k in
    let later = over before conn (asks ++ first.0) (written ++ written_by conn did) h.0 y dids h.2 i.1 first.2 in (
      first.0 ++ later.0,
      ap (λ (l : List ℕ). l ++ flat_map (heard_by conn) dids) first.1 ∙ ap (λ (l : List ℕ). flat_map spelling first.0 ++ l) later.1 ∙ sym (flat_map-append spelling first.0 later.0),
      subst (λ (l : List Ask). StoryAt before conn l (written ++ flat_map (written_by conn) (did ∷ dids)) y) (append_assoc asks first.0 later.0)
          (subst (λ (w : List ℕ). StoryAt before conn ((asks ++ first.0) ++ later.0) w y) (append_assoc written (written_by conn did) (flat_map (written_by conn) dids)) later.2),
    )

pub over_run : AllThatIsTold
over_run x y dids h = λ before conn asks written i k. over before conn asks written x y dids h i k

-- ---- the first story

pub get_last : {X : Type 0} (xs : List X) (x : X) → slice_get (xs ++ x ∷ []) (length xs) ≡ Some x
get_last [] x = refl
get_last (y ∷ xs) x = get_last xs x

-- a client that comes
abbrev pub comer : ℕ → Cred → Client
comer pid cred = record { pid = pid; cred = cred; ended = false; taken = 0 }

-- the client that came last is there
pub has_come : (pid : ℕ) (cred : Cred) (x : ServedValue) → length x.desks ≡ length x.node.clients → open_client (connected x.node pid cred) (suc (length x.desks)) ≡ Some (comer pid cred)
has_come pid cred x as_many = ap if_open (ap (slice_get (x.node.clients ++ comer pid cred ∷ [])) as_many ∙ get_last x.node.clients (comer pid cred))

pub begins : StoriesBegin
begins pid cred x as_many =
    let conn : ℕ = suc (length x.desks) in
    let c : Client = comer pid cred in
    let opened : open_client (connected x.node pid cred) conn ≡ Some c = has_come pid cred x as_many in
    record {
      desk = new_desk x.greeting;
      there = get_last x.desks (new_desk x.greeting);
      greeting = refl;
      story = record {
        notes = [];
        now = record { each = tt; rising = tt; began = omega arith; events = ap (rest_of (connected x.node pid cred) conn) opened };
        asked = refl;
        counted = λ d found. let same : c ≡ d = same_Some c d (sym opened ∙ found) in subst (λ (k : Client). k.taken ≤ length (inbox_of (connected x.node pid cred) conn)) same (omega arith);
        alive = ap is_some opened;
        owed = refl;
        told = refl;
      };
    }
