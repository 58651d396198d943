-- A client's story goes on.
use Rattle.std.proofs.Common.{◌≡◌, inl, inr, ℕ, true, List, [], ◌∷◌, ◌++◌, length, map, take, drop, is_some, Bool, false, cond, ◌⊎◌, ◌+◌, ◌≤◌, length-append, arith, Option, Some, None, refl, sym, ap, ◌∙◌, subst, append-nil, append_assoc}
use Rattle.std.specs.Prelude.{option_to_list, option_map}
use Rattle.std.specs.List.{flat_map, fold, slice_get, AllByRecursion}
use Rattle.std.proofs.lemmas.Grind.{flat_map-append}
use Rattle.std.proofs.lemmas.List.Sums.{fold-append}
use Rattle.std.proofs.lemmas.List.{take-append-le}
use Rattle.cpg_cred.specs.declared.refusals.Refusal.{Refusal}
use Rattle.cpg_cred.specs.declared.refusals.Refusal.TheVariants as refusal
use Rattle.cpg_entry.specs.declared.calls.Call.{Call}
use Rattle.cpg_entry.specs.declared.calls.Op.{Op}
use Rattle.cpg_entry.specs.declared.calls.Op.TheVariants.{Act}
use Rattle.cpg_record.specs.declared.connections.ConnId.{ConnId}
use Rattle.cpg_record.specs.declared.events.Event.{Event}
use Rattle.cpg_record.specs.declared.records.Record.{Record}
use Rattle.cpg_record.specs.Events.{inbox}
use Rattle.cpg_record.specs.Judging.{judged}
use Rattle.cpg_ring.specs.Worlds.{item}
use Rattle.cpg_node.specs.declared.connections.Client.{Client}
use Rattle.cpg_node.specs.Nodes.{NodeValue, delivered_entries, inbox_of, open_client, if_open, conn_id, asker_by, records_of}
use Rattle.cpg_node.specs.Calls.{first_of, call_refusal, submit_refusal, submit_refusal_by, with_entry, submitted, node_after_delivery, next_record}
use Rattle.cpg_ask.specs.declared.greetings.Greeting.{Greeting}
use Rattle.cpg_ask.specs.Asks.{Ask}
use Rattle.cpg_ask.specs.Tells.{Tell, tell_bytes}
use Rattle.cpg_rules.specs.declared.rules.Asker.{Asker}
use Rattle.cpg_ring.specs.Rings.{full_refusal}
use Rattle.cpg_ring.specs.Moves.{is_full}
use Rattle.cpg_serve.specs.declared.desks.Owed.{Owed}
use Rattle.cpg_serve.specs.Answering.{asker_of}
use Rattle.cpg_serve.specs.Telling.{DeskValue, event_tell, owed_after, tells, told}
use Rattle.cpg_serve.specs.Asking.{At, Turn, IsTurn, owed_to, at_of, asked, asked_by, asked_all, called_by, call_of, plain_answer, refused_tell, owing, goes_on, takes_by}
use Rattle.cpg_serve.specs.Hearing.{AllTaken, asks_of}
use Rattle.cpg_serve.specs.Coming.{left_of, rest_of, GoesOn, IsCounted}
use Rattle.cpg_serve.specs.Stories.{IsQuiet, Note, Made, Answered, Happened, ask_in, event_in, owed_by, owed_in, tell_by, tells_in, IsPlain, IsRefused, IsNote, IsRising, Before, IsToldIn, IsStory, made_by, calls_made, unless_refused, told_next}
use Rattle.cpg_serve.proofs.Coming.{goes_asker, goes_taken}
use Rattle.cpg_serve.proofs.Growing.{inbox_delivered, left_delivered, records_delivered}

-- ---- notes, one after another

tells_append : (owed : List Owed) (notes more : List Note) → tells_in owed (notes ++ more) ≡ tells_in owed notes ++ tells_in (owed_in owed notes) more
tells_append owed [] more = refl
tells_append owed (note ∷ notes) more =
    ap (λ (l : List Tell). tell_by owed note ++ l) (tells_append (owed_by owed note) notes more)
    ∙ sym (append_assoc (tell_by owed note) (tells_in (owed_by owed note) notes) (tells_in (owed_in (owed_by owed note) notes) more))

abbrev Each : At → ℕ → List Note → Type 0
Each s conn notes = AllByRecursion (IsNote s.desk.greeting (asker_of s.node conn) (records_of s.node)) notes

each_append : (g : Greeting) (a : Option Asker) (rs : List Record) (notes more : List Note) → AllByRecursion (IsNote g a rs) notes → AllByRecursion (IsNote g a rs) more → AllByRecursion (IsNote g a rs) (notes ++ more)
each_append g a rs [] more h k = k
each_append g a rs (note ∷ notes) more h k = (h.0, each_append g a rs notes more h.1 k)

-- the node and the desk are alike in what notes rest on
pub record IsAlike (conn : ℕ) (s t : At) : Type 0 where
  pub greeting : t.desk.greeting ≡ s.desk.greeting
  pub asker : asker_of t.node conn ≡ asker_of s.node conn
  pub records : records_of t.node ≡ records_of s.node

each_alike : (conn : ℕ) (s t : At) (notes : List Note) → IsAlike conn s t → Each s conn notes → Each t conn notes
each_alike conn s t notes k h =
    subst (λ (rs : List Record). AllByRecursion (IsNote t.desk.greeting (asker_of t.node conn) rs) notes) (sym k.records)
    (subst (λ (a : Option Asker). AllByRecursion (IsNote t.desk.greeting a (records_of s.node)) notes) (sym k.asker)
    (subst (λ (g : Greeting). AllByRecursion (IsNote g (asker_of s.node conn) (records_of s.node)) notes) (sym k.greeting) h))

rising_lower : (least n : ℕ) (notes : List Note) → least ≤ n → IsRising n notes → IsRising least notes
rising_lower least n [] low h = tt
rising_lower least n (Made ask ∷ notes) low h = rising_lower least n notes low h
rising_lower least n (Answered places ask tell ∷ notes) low h = (omega (arith, low, h.0), h.1)
rising_lower least n (Happened event ∷ notes) low h = rising_lower least n notes low h

rising_append : (g : Greeting) (a : Option Asker) (rs : List Record) (least : ℕ) (notes more : List Note) → least ≤ length rs → AllByRecursion (IsNote g a rs) notes → IsRising least notes → IsRising (length rs) more → IsRising least (notes ++ more)
rising_append g a rs least [] more low each h k = rising_lower least (length rs) more low k
rising_append g a rs least (Made ask ∷ notes) more low each h k = rising_append g a rs least notes more low each.1 h k
rising_append g a rs least (Answered places ask tell ∷ notes) more low each h k = (h.0, rising_append g a rs places notes more each.0.0 each.1 h.1 k)
rising_append g a rs least (Happened event ∷ notes) more low each h k = rising_append g a rs least notes more low each.1 h k

bytes_append : (notes more : List Note) → flat_map tell_bytes (tells_in [] (notes ++ more)) ≡ flat_map tell_bytes (tells_in [] notes) ++ flat_map tell_bytes (tells_in (owed_in [] notes) more)
bytes_append notes more = ap (flat_map tell_bytes) (tells_append [] notes more) ∙ flat_map-append tell_bytes (tells_in [] notes) (tells_in (owed_in [] notes) more)

-- notes of a ring, and more of them, whose events leave what is left
told_more : (conn places : ℕ) (s t : At) (notes more : List Note) → IsToldIn conn places s.desk.greeting s.node (left_of conn s) notes → IsAlike conn s t → Each s conn more → IsRising (length (records_of s.node)) more
    → flat_map event_in more ++ left_of conn t ≡ left_of conn s → conn_id t.node conn ≡ conn_id s.node conn → IsToldIn conn places t.desk.greeting t.node (left_of conn t) (notes ++ more)
told_more conn places s t notes more h alike each rising left same = record {
  each = each_alike conn s t (notes ++ more) alike (each_append s.desk.greeting (asker_of s.node conn) (records_of s.node) notes more h.each each);
  rising = rising_append s.desk.greeting (asker_of s.node conn) (records_of s.node) places notes more h.began h.each h.rising rising;
  began = subst (λ (rs : List Record). places ≤ length rs) (sym alike.records) h.began;
  events =
      let front : List Event = inbox (take places (records_of s.node)) (conn_id s.node conn) in
      ap (λ (rs : List Record). inbox (take places rs) (conn_id t.node conn) ++ (flat_map event_in (notes ++ more) ++ left_of conn t)) alike.records
      ∙ ap (λ (c : ConnId). inbox (take places (records_of s.node)) c ++ (flat_map event_in (notes ++ more) ++ left_of conn t)) same
      ∙ ap (λ (l : List Event). front ++ (l ++ left_of conn t)) (flat_map-append event_in notes more)
      ∙ ap (λ (l : List Event). front ++ l) (append_assoc (flat_map event_in notes) (flat_map event_in more) (left_of conn t))
      ∙ ap (λ (l : List Event). front ++ (flat_map event_in notes ++ l)) left ∙ h.events
      ∙ sym (ap (λ (rs : List Record). inbox rs (conn_id t.node conn)) alike.records ∙ ap (λ (c : ConnId). inbox (records_of s.node) c) same);
}

-- a story goes on by notes, whose events leave what is left
pub story_notes : (before : Before) (conn : ℕ) (asks more : List Ask) (written : List ℕ) (s t : At) (notes : List Note) → IsStory before conn asks written s → IsAlike conn s t → Each s conn notes → IsRising (length (records_of s.node)) notes
    → flat_map ask_in notes ≡ more → flat_map event_in notes ++ left_of conn t ≡ left_of conn s → conn_id t.node conn ≡ conn_id s.node conn
    → IsCounted conn t.node → is_some (open_client t.node conn) ≡ true
    → t.desk.owed ≡ owed_in s.desk.owed notes → t.desk.out ≡ s.desk.out ++ flat_map tell_bytes (tells_in s.desk.owed notes)
    → IsStory before conn (asks ++ more) written t
story_notes before conn asks more written s t notes h alike each rising asked left same counted alive owed out =
    let old : List Note = before.notes ++ h.notes in
    let all : before.notes ++ (h.notes ++ notes) ≡ old ++ notes = sym (append_assoc before.notes h.notes notes) in
    record {
      notes = h.notes ++ notes;
      now = told_more conn before.places s t h.notes notes h.now alike each rising left same;
      asked = ap (flat_map ask_in) all ∙ flat_map-append ask_in old notes ∙ ap (λ (l : List Ask). l ++ flat_map ask_in notes) h.asked ∙ ap (λ (l : List Ask). asks ++ l) asked;
      counted = counted;
      alive = alive;
      owed = ap (owed_in []) all ∙ fold-append owed_by [] old notes ∙ ap (λ (o : List Owed). owed_in o notes) h.owed ∙ sym owed;
      told = ap (λ (l : List ℕ). written ++ l) out ∙ sym (append_assoc written s.desk.out (flat_map tell_bytes (tells_in s.desk.owed notes)))
          ∙ ap (λ (l : List ℕ). l ++ flat_map tell_bytes (tells_in s.desk.owed notes)) h.told
          ∙ ap (λ (o : List Owed). flat_map tell_bytes (tells_in [] old) ++ flat_map tell_bytes (tells_in o notes)) (sym h.owed)
          ∙ sym (bytes_append old notes) ∙ ap (λ (l : List Note). flat_map tell_bytes (tells_in [] l)) (sym all);
    }

-- ---- an ask

entry_left : (conn : ℕ) (x : NodeValue) (d : DeskValue) (by : ℕ) (op : Op) (o : Option Client) → left_of conn (at_of (with_entry x by op o) d) ≡ left_of conn (at_of x d)
entry_left conn x d by op None = refl
entry_left conn x d by op (Some c) = refl

entry_conn : (conn : ℕ) (x : NodeValue) (by : ℕ) (op : Op) (o : Option Client) → conn_id (with_entry x by op o) conn ≡ conn_id x conn
entry_conn conn x by op None = refl
entry_conn conn x by op (Some c) = refl

entry_counted : (conn : ℕ) (x : NodeValue) (by : ℕ) (op : Op) (o : Option Client) → IsCounted conn x → IsCounted conn (with_entry x by op o)
entry_counted conn x by op None h = h
entry_counted conn x by op (Some c) h = h

entry_alive : (conn : ℕ) (x : NodeValue) (by : ℕ) (op : Op) (o : Option Client) → is_some (open_client x conn) ≡ true → is_some (open_client (with_entry x by op o) conn) ≡ true
entry_alive conn x by op None h = h
entry_alive conn x by op (Some c) h = h

entry_alike : (conn : ℕ) (s : At) (owed : Owed) (op : Op) (o : Option Client) → IsAlike conn s (at_of (with_entry s.node conn op o) (owing s.desk owed))
entry_alike conn s owed op None = record { greeting = refl; asker = refl; records = refl }
entry_alike conn s owed op (Some c) = record { greeting = refl; asker = refl; records = refl }

refused_is : (conn : ℕ) (s : At) (owed : Owed) (call : Call) (why : Refusal) → goes_on (Some why) ≡ true → called_by conn s owed call (Some why) ≡ at_of s.node (told s.desk (refused_tell owed why))
refused_is conn s owed call refusal.QueueFull h = absurd cc
refused_is conn s owed call _ h = refl

-- a refusal that does not stop the client is the call's own
first_refused : (a : Option Refusal) (full : Bool) (why : Refusal) → first_of a (cond full (Some refusal.QueueFull) None) ≡ Some why → goes_on (Some why) ≡ true → a ≡ Some why
first_refused (Some w) full why e goes = e
first_refused None true why e goes = let bad : false ≡ true = ap goes_on e ∙ goes in absurd cc
first_refused None false why e goes = absurd cc

pub refused_by : (x : NodeValue) (call : Call) (o : Option Client) (why : Refusal) → is_some o ≡ true → submit_refusal_by x call o ≡ Some why → goes_on (Some why) ≡ true → call_refusal call ≡ Some why
refused_by x call None why alive e goes = absurd cc
refused_by x call (Some c) why alive e goes = first_refused (call_refusal call) (is_full x.ring.state) why e goes

first_none : (a b : Option Refusal) → first_of a b ≡ None → a ≡ None
first_none None b e = refl
first_none (Some w) b e = absurd cc

pub taken_by : (x : NodeValue) (call : Call) (o : Option Client) → is_some o ≡ true → submit_refusal_by x call o ≡ None → call_refusal call ≡ None
taken_by x call None alive e = absurd cc
taken_by x call (Some c) alive e = first_none (call_refusal call) (full_refusal x.ring) e

pub all_records : (rs : List Record) → take (length rs) rs ≡ rs
all_records [] = refl
all_records (r ∷ rs) = ap (λ (l : List Record). r ∷ l) (all_records rs)

same_alike : (conn : ℕ) (s : At) (tell : Tell) → IsAlike conn s (at_of s.node (told s.desk tell))
same_alike conn s tell = record { greeting = refl; asker = refl; records = refl }

story_told_at_once : (before : Before) (conn : ℕ) (asks : List Ask) (written : List ℕ) (s : At) (ask : Ask) (tell : Tell) → IsStory before conn asks written s
    → IsPlain s.desk.greeting (asker_of s.node conn) (records_of s.node) ask tell ⊎ IsRefused ask tell
    → IsStory before conn (asks ++ ask ∷ []) written (at_of s.node (told s.desk tell))
story_told_at_once before conn asks written s ask tell h is =
    let rs : List Record = records_of s.node in
    let over : IsPlain s.desk.greeting (asker_of s.node conn) (take (length rs) rs) ask tell ⊎ IsRefused ask tell =
    subst (λ (l : List Record). IsPlain s.desk.greeting (asker_of s.node conn) l ask tell ⊎ IsRefused ask tell) (sym (all_records rs)) is in
    story_notes before conn asks (ask ∷ []) written s (at_of s.node (told s.desk tell)) (Answered (length rs) ask tell ∷ []) h (same_alike conn s tell) ((omega arith, over), tt) (omega arith, tt) refl refl refl h.counted h.alive refl
    (ap (λ (l : List ℕ). s.desk.out ++ l) (sym (append-nil (tell_bytes tell))))

story_called : (before : Before) (conn : ℕ) (asks : List Ask) (written : List ℕ) (s : At) (ask : Ask) (call : Call) (o : Option Refusal) → call_of ask.want ≡ Some call → submit_refusal s.node conn call ≡ o → goes_on o ≡ true
    → IsStory before conn asks written s → IsStory before conn (asks ++ ask ∷ []) written (called_by conn s (owed_to ask) call o)
story_called before conn asks written s ask call None is why goes h =
    story_notes before conn asks (ask ∷ []) written s (called_by conn s (owed_to ask) call None) (Made ask ∷ []) h (entry_alike conn s (owed_to ask) (Act call) (open_client s.node conn))
    ((call, is, taken_by s.node call (open_client s.node conn) h.alive why), tt) tt refl
    (entry_left conn s.node (owing s.desk (owed_to ask)) conn (Act call) (open_client s.node conn)) (entry_conn conn s.node conn (Act call) (open_client s.node conn))
    (entry_counted conn s.node conn (Act call) (open_client s.node conn) h.counted) (entry_alive conn s.node conn (Act call) (open_client s.node conn) h.alive) refl (sym (append-nil s.desk.out))
story_called before conn asks written s ask call (Some why) is refused goes h =
    subst (λ (t : At). IsStory before conn (asks ++ ask ∷ []) written t) (sym (refused_is conn s (owed_to ask) call why goes))
    (story_told_at_once before conn asks written s ask (refused_tell (owed_to ask) why) h (inr (call, why, is, refused_by s.node call (open_client s.node conn) why h.alive refused goes, refl)))

story_by : (before : Before) (conn : ℕ) (asks : List Ask) (written : List ℕ) (s : At) (turn : Turn) (o : Option Call) → call_of turn.ask.want ≡ o → IsTurn conn s turn → takes_by conn s o ≡ true
    → IsStory before conn asks written s → IsStory before conn (asks ++ turn.ask ∷ []) written (asked_by conn s turn o)
story_by before conn asks written s turn None is named goes h = story_told_at_once before conn asks written s turn.ask (plain_answer conn s turn) h (inl (is, (turn.names, named, refl)))
story_by before conn asks written s turn (Some call) is named goes h = story_called before conn asks written s turn.ask call (submit_refusal s.node conn call) is refl goes h

pub story_asked : (before : Before) (conn : ℕ) (asks : List Ask) (more : List Turn) (written : List ℕ) (s : At) → AllTaken conn s more → IsStory before conn asks written s → IsStory before conn (asks ++ asks_of more) written (asked_all conn s more)
story_asked before conn asks [] written s taken h = subst (λ (l : List Ask). IsStory before conn l written s) (sym (append-nil asks)) h
story_asked before conn asks (turn ∷ more) written s taken h =
    subst (λ (l : List Ask). IsStory before conn l written (asked_all conn (asked conn s turn) more)) (append_assoc asks (turn.ask ∷ []) (asks_of more))
    (story_asked before conn (asks ++ turn.ask ∷ []) more written (asked conn s turn) taken.2 (story_by before conn asks written s turn (call_of turn.ask.want) refl taken.0 taken.1 h))

-- ---- events

happened_events : (events : List Event) → flat_map event_in (map Happened events) ≡ events
happened_events [] = refl
happened_events (e ∷ es) = ap (λ (l : List Event). e ∷ l) (happened_events es)

happened_asks : (events : List Event) → flat_map ask_in (map Happened events) ≡ []
happened_asks [] = refl
happened_asks (e ∷ es) = happened_asks es

happened_each : (g : Greeting) (a : Option Asker) (rs : List Record) (events : List Event) → AllByRecursion (IsNote g a rs) (map Happened events)
happened_each g a rs [] = tt
happened_each g a rs (e ∷ es) = (tt, happened_each g a rs es)

happened_rising : (n : ℕ) (events : List Event) → IsRising n (map Happened events)
happened_rising n [] = tt
happened_rising n (e ∷ es) = happened_rising n es

happened_owed : (owed : List Owed) (events : List Event) → owed_in owed (map Happened events) ≡ fold owed_after owed events
happened_owed owed [] = refl
happened_owed owed (e ∷ es) = happened_owed (owed_after owed e) es

happened_tells : (owed : List Owed) (events : List Event) → tells_in owed (map Happened events) ≡ tells owed events
happened_tells owed [] = refl
happened_tells owed (e ∷ es) = ap (λ (l : List Tell). option_to_list (event_tell (slice_get owed 0) e) ++ l) (happened_tells (owed_after owed e) es)

same_conn : (x y : NodeValue) (conn : ℕ) → y.ring ≡ x.ring → conn_id y conn ≡ conn_id x conn
same_conn x y conn e = ap (λ r. record { node = r.node; conn = conn }) e

same_records : (x y : NodeValue) → y.ring ≡ x.ring → records_of y ≡ records_of x
same_records x y e = ap (λ r. judged (delivered_entries r.state)) e

pub some_mapped : {X Y : Type 0} (f : X → Y) (o : Option X) → is_some (option_map f o) ≡ is_some o
some_mapped f None = refl
some_mapped f (Some x) = refl

-- a connection is open where it has an asker
pub alive_by : (x y : NodeValue) (conn : ℕ) → asker_of y conn ≡ asker_of x conn → is_some (open_client x conn) ≡ true → is_some (open_client y conn) ≡ true
alive_by x y conn e h = sym (some_mapped (asker_by y) (open_client y conn)) ∙ ap is_some e ∙ some_mapped (asker_by x) (open_client x conn) ∙ h

-- some of what was left was told
pub story_told : (before : Before) (conn : ℕ) (asks : List Ask) (written : List ℕ) (s t : At) → GoesOn conn s t → IsStory before conn asks written s → IsStory before conn asks written t
story_told before conn asks written s t goes h =
    subst (λ (l : List Ask). IsStory before conn l written t) (append-nil asks)
    (story_notes before conn asks [] written s t (map Happened goes.first) h (record { greeting = goes.greeting; asker = goes_asker goes; records = same_records s.node t.node (goes_taken goes).ring })
    (happened_each s.desk.greeting (asker_of s.node conn) (records_of s.node) goes.first) (happened_rising (length (records_of s.node)) goes.first) (happened_asks goes.first)
    (ap (λ (l : List Event). l ++ left_of conn t) (happened_events goes.first) ∙ sym goes.left)
    (same_conn s.node t.node conn (goes_taken goes).ring) ((goes_taken goes).counted h.counted) (alive_by s.node t.node conn (goes_asker goes) h.alive)
    (goes.owed ∙ sym (happened_owed s.desk.owed goes.first))
    (goes.out ∙ ap (λ (l : List Tell). s.desk.out ++ flat_map tell_bytes l) (sym (happened_tells s.desk.owed goes.first))))

-- notes stay as they are over more records
note_grown : (g : Greeting) (a : Option Asker) (rs more : List Record) (note : Note) → IsNote g a rs note → IsNote g a (rs ++ more) note
note_grown g a rs more (Made ask) h = h
note_grown g a rs more (Answered places ask tell) h =
    (omega (arith, h.0, length-append rs more), subst (λ (l : List Record). IsPlain g a l ask tell ⊎ IsRefused ask tell) (sym (take-append-le places rs more h.0)) h.1)
note_grown g a rs more (Happened event) h = tt

each_grown : (g : Greeting) (a : Option Asker) (rs more : List Record) (notes : List Note) → AllByRecursion (IsNote g a rs) notes → AllByRecursion (IsNote g a (rs ++ more)) notes
each_grown g a rs more [] h = tt
each_grown g a rs more (note ∷ notes) h = (note_grown g a rs more note h.0, each_grown g a rs more notes h.1)

-- a place was delivered
counted_delivered : (conn : ℕ) (x : NodeValue) → IsCounted conn x → IsCounted conn (node_after_delivery x)
counted_delivered conn x h = λ c found.
    let long : length (inbox_of (node_after_delivery x) conn) ≡ length (inbox_of x conn) + length (told_next x conn) = ap (λ (l : List Event). length l) (inbox_delivered x conn) ∙ length-append (inbox_of x conn) (told_next x conn) in
    omega (arith, long, h c found)

pub is_there : (o : Option Client) → is_some o ≡ true → (c : Client) × (o ≡ Some c)
is_there (Some c) h = (c, refl)
is_there None h = absurd cc

told_delivered : (conn places : ℕ) (x : NodeValue) (d : DeskValue) (c : Client) (notes : List Note) → open_client x conn ≡ Some c → IsCounted conn x → IsToldIn conn places d.greeting x (left_of conn (at_of x d)) notes
    → IsToldIn conn places d.greeting (node_after_delivery x) (left_of conn (at_of (node_after_delivery x) d)) notes
told_delivered conn places x d c notes found counted h =
    let rs : List Record = records_of x in
    let more : List Record = option_to_list (next_record x) in
    let news : List Event = flat_map event_in notes in
    let left : List Event = left_of conn (at_of x d) in
    let front : List Event = inbox (take places rs) (conn_id x conn) in
    record {
      each = subst (λ (l : List Record). AllByRecursion (IsNote d.greeting (asker_of x conn) l) notes) (sym (records_delivered x)) (each_grown d.greeting (asker_of x conn) rs more notes h.each);
      rising = h.rising;
      began = subst (λ (l : List Record). places ≤ length l) (sym (records_delivered x)) (omega (arith, h.began, length-append rs more));
      events = ap (λ (l : List Record). inbox (take places l) (conn_id x conn) ++ (news ++ left_of conn (at_of (node_after_delivery x) d))) (records_delivered x)
          ∙ ap (λ (l : List Record). inbox l (conn_id x conn) ++ (news ++ left_of conn (at_of (node_after_delivery x) d))) (take-append-le places rs more h.began)
          ∙ ap (λ (l : List Event). front ++ (news ++ l)) (left_delivered x conn d c found counted)
          ∙ ap (λ (l : List Event). front ++ l) (sym (append_assoc news left (told_next x conn)))
          ∙ sym (append_assoc front (news ++ left) (told_next x conn))
          ∙ ap (λ (l : List Event). l ++ told_next x conn) h.events ∙ sym (inbox_delivered x conn);
    }

pub story_delivered : (before : Before) (conn : ℕ) (asks : List Ask) (written : List ℕ) (x : NodeValue) (d : DeskValue) → IsStory before conn asks written (at_of x d) → IsStory before conn asks written (at_of (node_after_delivery x) d)
story_delivered before conn asks written x d h =
    let c = is_there (open_client x conn) h.alive in
    record {
      notes = h.notes;
      now = told_delivered conn before.places x d c.0 h.notes c.1 h.counted h.now;
      asked = h.asked;
      counted = counted_delivered conn x h.counted;
      alive = h.alive;
      owed = h.owed;
      told = h.told;
    }

-- what others do is quiet
pub rest_quiet : (conn : ℕ) (x y : NodeValue) (o : Option Client) → inbox_of y conn ≡ inbox_of x conn → rest_of y conn o ≡ rest_of x conn o
rest_quiet conn x y None e = refl
rest_quiet conn x y (Some c) e = ap (drop c.taken) e

pub inbox_quiet : (conn : ℕ) (x y : NodeValue) → IsQuiet conn x y → inbox_of y conn ≡ inbox_of x conn
inbox_quiet conn x y q = ap (λ (rs : List Record). inbox rs (conn_id y conn)) q.records ∙ ap (λ (n : ℕ). inbox (records_of x) (record { node = n; conn = conn })) q.node

asker_quiet : (conn : ℕ) (x y : NodeValue) → IsQuiet conn x y → asker_of y conn ≡ asker_of x conn
asker_quiet conn x y q =
    ap (λ (o : Option Client). option_map (asker_by y) (if_open o)) q.client
    ∙ ap (λ (n : ℕ). option_map (λ (c : Client). record { node = n; cred = c.cred }) (if_open (item x.clients conn))) q.node

told_quiet : (conn places : ℕ) (x y : NodeValue) (d : DeskValue) (notes : List Note) → IsQuiet conn x y → IsToldIn conn places d.greeting x (left_of conn (at_of x d)) notes → IsToldIn conn places d.greeting y (left_of conn (at_of y d)) notes
told_quiet conn places x y d notes q h =
    let inbox_same : inbox_of y conn ≡ inbox_of x conn = inbox_quiet conn x y q in
    let news : List Event = flat_map event_in notes in
    let front : List Event = inbox (take places (records_of x)) (conn_id x conn) in
    record {
      each = each_alike conn (at_of x d) (at_of y d) notes (record { greeting = refl; asker = asker_quiet conn x y q; records = q.records }) h.each;
      rising = h.rising;
      began = subst (λ (rs : List Record). places ≤ length rs) (sym q.records) h.began;
      events = ap (λ (rs : List Record). inbox (take places rs) (conn_id y conn) ++ (news ++ left_of conn (at_of y d))) q.records
          ∙ ap (λ (n : ℕ). inbox (take places (records_of x)) (record { node = n; conn = conn }) ++ (news ++ left_of conn (at_of y d))) q.node
          ∙ ap (λ (o : Option Client). front ++ (news ++ (option_to_list d.next ++ rest_of y conn o))) (ap if_open q.client)
          ∙ ap (λ (l : List Event). front ++ (news ++ (option_to_list d.next ++ l))) (rest_quiet conn x y (open_client x conn) inbox_same) ∙ h.events ∙ sym inbox_same;
    }

pub story_quiet : (before : Before) (conn : ℕ) (asks : List Ask) (written : List ℕ) (x y : NodeValue) (d : DeskValue) → IsQuiet conn x y → IsStory before conn asks written (at_of x d) → IsStory before conn asks written (at_of y d)
story_quiet before conn asks written x y d q h =
    let same : open_client y conn ≡ open_client x conn = ap if_open q.client in
    record {
      notes = h.notes;
      now = told_quiet conn before.places x y d h.notes q h.now;
      asked = h.asked;
      counted = λ c found. subst (λ (l : List Event). c.taken ≤ length l) (sym (inbox_quiet conn x y q)) (h.counted c (sym same ∙ found));
      alive = ap is_some same ∙ h.alive;
      owed = h.owed;
      told = h.told;
    }

-- ---- the calls alone

made_called : (conn : ℕ) (s : At) (owed : Owed) (call : Call) (o : Option Refusal) → (called_by conn s owed call o).node ≡ unless_refused o (submitted s.node conn call) s.node
made_called conn s owed call None = refl
made_called conn s owed call (Some refusal.QueueFull) = refl
made_called conn s owed call (Some _) = refl

made_asked : (conn : ℕ) (s : At) (turn : Turn) (o : Option Call) → (asked_by conn s turn o).node ≡ made_by s.node conn o
made_asked conn s turn None = refl
made_asked conn s turn (Some call) = made_called conn s (owed_to turn.ask) call (submit_refusal s.node conn call)

pub calls_alone : (conn : ℕ) (s : At) (turns : List Turn) → (asked_all conn s turns).node ≡ calls_made conn s.node (asks_of turns)
calls_alone conn s [] = refl
calls_alone conn s (turn ∷ turns) = calls_alone conn (asked conn s turn) turns ∙ ap (λ (x : NodeValue). calls_made conn x (asks_of turns)) (made_asked conn s turn (call_of turn.ask.want))
