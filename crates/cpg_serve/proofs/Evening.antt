-- So many calls are owed a verdict as have none, over a run.
use Rattle.std.proofs.Common.{◌≡◌, ◌≢◌, ◌≤◌, ◌+◌, ℕ, Bool, true, false, cond, eqb, is_some, not, List, [], ◌∷◌, ◌++◌, length, take, drop, Option, Some, None, Result, refl, sym, ap, subst, ◌∙◌, append-nil, append_assoc, length-append, arith}
use Rattle.std.specs.Prelude.{option_to_list}
use Rattle.std.specs.List.{flat_map, fold}
use Rattle.std.proofs.lemmas.Bool.{eqb-true}
use Rattle.std.proofs.lemmas.Grind.{flat_map-append}
use Rattle.std.proofs.lemmas.List.Elements.{filter-append}
use Rattle.std.proofs.lemmas.Option.{same_Some}
use Rattle.cpg_cred.specs.declared.credentials.Cred.{Cred}
use Rattle.cpg_cred.specs.declared.refusals.Refusal.{Refusal}
use Rattle.cpg_cred.specs.declared.refusals.Refusal.TheVariants as refusal
use Rattle.cpg_entry.specs.declared.calls.Call.{Call}
use Rattle.cpg_record.specs.declared.events.Event.{Event}
use Rattle.cpg_record.specs.Events.{inbox}
use Rattle.cpg_record.specs.Judging.{judged}
use Rattle.cpg_ring.specs.Worlds.{item}
use Rattle.cpg_ring.proofs.Lists.{item_with_same, item_with_other}
use Rattle.cpg_node.specs.declared.connections.Client.{Client}
use Rattle.cpg_node.specs.Nodes.{NodeValue, delivered_entries, inbox_of, open_client, if_open}
use Rattle.cpg_node.specs.Calls.{submit_refusal, node_after_delivery}
use Rattle.cpg_ask.specs.Asks.{Ask}
use Rattle.cpg_ask.specs.Spelling.{spelling}
use Rattle.cpg_serve.specs.declared.desks.Owed.{Owed}
use Rattle.cpg_serve.specs.declared.hearing.Stop.{Stop}
use Rattle.cpg_serve.specs.Telling.{DeskValue, new_desk, wrote, owed_after, is_verdict}
use Rattle.cpg_serve.specs.Asking.{At, Turn, at_of, owed_to, call_of, goes_on, called_by, asked, asked_by, asked_all, takes_by}
use Rattle.cpg_serve.specs.Hearing.{AllTaken, asks_of}
use Rattle.cpg_serve.specs.Coming.{left_of, rest_of, GoesOn}
use Rattle.cpg_serve.specs.Serving.{ServedValue, with_node, arrived, parted, IsHeard, IsToldAt, IsCaughtUp, IsWritten}
use Rattle.cpg_serve.specs.Stories.{IsQuiet, Before, StoryAt, told_next}
use Rattle.cpg_serve.specs.Runs.{Did, Arrives, Hears, Frames, Delivers, Tells, Writes, Loses, Nothing, Goes, IsKeptBy, heard_by, written_by}
use Rattle.cpg_serve.proofs.Coming.{goes_taken}
use Rattle.cpg_serve.proofs.Growing.{inbox_delivered, left_delivered}
use Rattle.cpg_serve.proofs.Noted.{refused_by, taken_by, is_there, rest_quiet, inbox_quiet}
use Rattle.cpg_serve.proofs.Kept.{story_heard}
use Rattle.cpg_serve.proofs.OneByOne.{all_leave}
use Rattle.cpg_serve.proofs.Running.{quiet_same, quiet_all, quiet_ended, is_other, item_of, item_front, heard_front, over_run}
use Rattle.cpg_serve.specs.Meeting.{verdicts, is_taken, calls_among, Counts, IsHonest, IsEven, StaysEven}
use Rattle.cpg_serve.proofs.Counting.{verdicts_append, verdict_one}

pub calls_append : (asks more : List Ask) → length (calls_among (asks ++ more)) ≡ length (calls_among asks) + length (calls_among more)
calls_append asks more = ap (λ (l : List Ask). length l) (filter-append (λ (ask : Ask). is_taken (call_of ask.want)) asks more) ∙ length-append (calls_among asks) (calls_among more)

-- ---- an ask

refused_owed : (conn : ℕ) (s : At) (owed : Owed) (call : Call) (why : Refusal) → (called_by conn s owed call (Some why)).desk.owed ≡ s.desk.owed
refused_owed conn s owed call refusal.QueueFull = refl
refused_owed conn s owed call _ = refl

pub one_call : (ask : Ask) (b : Bool) → is_taken (call_of ask.want) ≡ b → length (calls_among (ask ∷ [])) ≡ cond b 1 0
one_call ask true e = rw e refl
one_call ask false e = rw e refl

called_owed : (conn : ℕ) (s : At) (ask : Ask) (call : Call) (o : Option Refusal) → is_some (open_client s.node conn) ≡ true → call_of ask.want ≡ Some call → submit_refusal s.node conn call ≡ o → goes_on o ≡ true
    → length (called_by conn s (owed_to ask) call o).desk.owed ≡ length s.desk.owed + length (calls_among (ask ∷ []))
called_owed conn s ask call None alive is why goes =
    let taken : is_taken (call_of ask.want) ≡ true = ap is_taken is ∙ ap (λ r. not (is_some r)) (taken_by s.node call (open_client s.node conn) alive why) in
    let one : length (calls_among (ask ∷ [])) ≡ 1 = one_call ask true taken in
    length-append s.desk.owed (owed_to ask ∷ []) ∙ ap (λ (n : ℕ). length s.desk.owed + n) (sym one)
called_owed conn s ask call (Some why) alive is refused goes =
    let taken : is_taken (call_of ask.want) ≡ false = ap is_taken is ∙ ap (λ r. not (is_some r)) (refused_by s.node call (open_client s.node conn) why alive refused goes) in
    let none : length (calls_among (ask ∷ [])) ≡ 0 = one_call ask false taken in
    let same : length (called_by conn s (owed_to ask) call (Some why)).desk.owed ≡ length s.desk.owed = ap (λ (l : List Owed). length l) (refused_owed conn s (owed_to ask) call why) in
    omega (arith, none, same)

asked_owed : (conn : ℕ) (s : At) (turn : Turn) (o : Option Call) → is_some (open_client s.node conn) ≡ true → call_of turn.ask.want ≡ o → takes_by conn s o ≡ true
    → length (asked_by conn s turn o).desk.owed ≡ length s.desk.owed + length (calls_among (turn.ask ∷ []))
asked_owed conn s turn None alive is goes = let none : length (calls_among (turn.ask ∷ [])) ≡ 0 = one_call turn.ask false (ap is_taken is) in omega (arith, none)
asked_owed conn s turn (Some call) alive is goes = called_owed conn s turn.ask call (submit_refusal s.node conn call) alive is refl goes

pub quiet_one : (conn : ℕ) (s : At) (turn : Turn) → IsQuiet conn s.node (asked conn s turn).node
quiet_one conn s turn = quiet_all conn conn s (turn ∷ [])

pub alive_after : (conn : ℕ) (x y : NodeValue) → IsQuiet conn x y → is_some (open_client x conn) ≡ true → is_some (open_client y conn) ≡ true
alive_after conn x y q h = ap (λ (o : Option Client). is_some (if_open o)) q.client ∙ h

pub all_owed : (conn : ℕ) (s : At) (turns : List Turn) → is_some (open_client s.node conn) ≡ true → AllTaken conn s turns → length (asked_all conn s turns).desk.owed ≡ length s.desk.owed + length (calls_among (asks_of turns))
all_owed conn s [] alive h = omega arith
all_owed conn s (turn ∷ turns) alive h =
    let first : length (asked conn s turn).desk.owed ≡ length s.desk.owed + length (calls_among (turn.ask ∷ [])) = asked_owed conn s turn (call_of turn.ask.want) alive refl h.1 in
    let later = all_owed conn (asked conn s turn) turns (alive_after conn s.node (asked conn s turn).node (quiet_one conn s turn) alive) h.2 in
    let both : length (calls_among (turn.ask ∷ asks_of turns)) ≡ length (calls_among (turn.ask ∷ [])) + length (calls_among (asks_of turns)) = calls_append (turn.ask ∷ []) (asks_of turns) in
    omega (arith, first, later, both)

-- ---- what is quiet

pub left_quiet : (conn : ℕ) (x y : NodeValue) (d e : DeskValue) → e.next ≡ d.next → IsQuiet conn x y → left_of conn (at_of y e) ≡ left_of conn (at_of x d)
left_quiet conn x y d e next q =
    ap (λ (o : Option Event). option_to_list o ++ rest_of y conn (open_client y conn)) next
    ∙ ap (λ (o : Option Client). option_to_list d.next ++ rest_of y conn (if_open o)) q.client
    ∙ ap (λ (l : List Event). option_to_list d.next ++ l) (rest_quiet conn x y (open_client x conn) (inbox_quiet conn x y q))

even_quiet : (before : Before) (b : Counts) (conn : ℕ) (asks : List Ask) (x z : ServedValue) (h : IsEven b conn asks x) (e : DeskValue) → item z.desks conn ≡ Some e → e.owed ≡ h.0.owed → e.next ≡ h.0.next → IsQuiet conn x.node z.node → IsEven b conn asks z
even_quiet before b conn asks x z h e there owed next q =
    let a : length e.owed ≡ length h.0.owed = ap (λ (l : List Owed). length l) owed in
    let inbox_is : verdicts (inbox_of z.node conn) ≡ verdicts (inbox_of x.node conn) = ap verdicts (inbox_quiet conn x.node z.node q) in
    let c : verdicts (left_of conn (at_of z.node e)) ≡ verdicts (left_of conn (at_of x.node h.0)) = ap verdicts (left_quiet conn x.node z.node h.0 e next q) in
    (e, there, omega (arith, a, inbox_is, c, h.2))

-- ---- what is told

fold_step : (b : Bool) (owed : List Owed) (es : List Event) (n : ℕ) → n ≡ cond b 1 0 + verdicts es → n ≤ length owed
    → (verdicts es ≤ length (cond b (drop 1 owed) owed) → length (fold owed_after (cond b (drop 1 owed) owed) es) + verdicts es ≡ length (cond b (drop 1 owed) owed))
    → length (fold owed_after (cond b (drop 1 owed) owed) es) + n ≡ length owed
fold_step true [] es n e h later = absurd (omega (arith, e, h))
fold_step true (o ∷ os) es n e h later = let k = later (omega (arith, e, h)) in omega (arith, e, k)
fold_step false owed es n e h later = let k = later (omega (arith, e, h)) in omega (arith, e, k)

fold_owed : (owed : List Owed) (es : List Event) → verdicts es ≤ length owed → length (fold owed_after owed es) + verdicts es ≡ length owed
fold_owed owed [] h = omega arith
fold_owed owed (e ∷ es) h =
    fold_step (is_verdict e) owed es (verdicts (e ∷ es)) (verdicts_append (e ∷ []) es ∙ ap (λ (n : ℕ). n + verdicts es) (verdict_one e)) h (fold_owed (owed_after owed e) es)

even_told : (before : Before) (b : Counts) (conn : ℕ) (asks : List Ask) (x z : ServedValue) (h : IsEven b conn asks x) (e : DeskValue) → IsHonest b conn asks x → item z.desks conn ≡ Some e → GoesOn conn (at_of x.node h.0) (at_of z.node e) → IsEven b conn asks z
even_told before b conn asks x z h e honest there g =
    let old : List Event = left_of conn (at_of x.node h.0) in
    let new : List Event = left_of conn (at_of z.node e) in
    let parts : verdicts old ≡ verdicts g.first + verdicts new = ap verdicts g.left ∙ verdicts_append g.first new in
    let inbox_same : verdicts (inbox_of z.node conn) ≡ verdicts (inbox_of x.node conn) = ap (λ r. verdicts (inbox (judged (delivered_entries r.state)) (record { node = r.node; conn = conn }))) (goes_taken g).ring in
    let few : verdicts g.first ≤ length h.0.owed = omega (arith, h.2, honest, parts) in
    let left : length (fold owed_after h.0.owed g.first) + verdicts g.first ≡ length h.0.owed = fold_owed h.0.owed g.first few in
    let owed : length e.owed ≡ length (fold owed_after h.0.owed g.first) = ap (λ (l : List Owed). length l) g.owed in
    (e, there, omega (arith, h.2, parts, inbox_same, left, owed))

even_delivered : (before : Before) (b : Counts) (conn : ℕ) (asks : List Ask) (written : List ℕ) (x : ServedValue) → StoryAt before conn asks written x → IsEven b conn asks x → IsEven b conn asks (with_node x (node_after_delivery x.node))
even_delivered before b conn asks written x k h =
    let c = item_of (item x.node.clients conn) k.story.alive in
    let o = is_there (open_client x.node conn) k.story.alive in
    let more : List Event = told_next x.node conn in
    let a : verdicts (inbox_of (node_after_delivery x.node) conn) ≡ verdicts (inbox_of x.node conn) + verdicts more = ap verdicts (inbox_delivered x.node conn) ∙ verdicts_append (inbox_of x.node conn) more in
    let left_is : verdicts (left_of conn (at_of (node_after_delivery x.node) h.0)) ≡ verdicts (left_of conn (at_of x.node h.0)) + verdicts more =
    ap verdicts (left_delivered x.node conn h.0 o.0 o.1 k.story.counted) ∙ verdicts_append (left_of conn (at_of x.node h.0)) more in
    (h.0, h.1, omega (arith, h.2, a, left_is))

-- ---- one call

abbrev pub Brings : Before → Counts → ℕ → List Ask → List ℕ → Did → ServedValue → Type 0
Brings before b conn asks written did z = (more : List Ask) × (heard_by conn did ≡ flat_map spelling more) × StoryAt before conn (asks ++ more) (written ++ written_by conn did) z × IsEven b conn (asks ++ more) z

pub none_spelled : (more : List Ask) → [] ≡ flat_map spelling more → more ≡ []
none_spelled [] e = refl
none_spelled (ask ∷ more) e = absurd cc

-- where nothing is heard of the client
pub unheard : (before : Before) (b : Counts) (conn : ℕ) (asks : List Ask) (written : List ℕ) (x z : ServedValue) (did : Did) → Goes x did z → IsKeptBy conn did → heard_by conn did ≡ [] → StoryAt before conn asks written x → IsEven b conn asks z → Brings before b conn asks written did z
unheard before b conn asks written x z did goes kept none k even =
    let s = over_run x z (did ∷ []) (z, goes, refl) before conn asks written (kept, tt) k in
    let nothing : s.0 ≡ [] = none_spelled s.0 (sym (append-nil (heard_by conn did) ∙ none) ∙ s.1) in
    let same : List Ask → List ℕ → Type 0 = λ more bytes. StoryAt before conn (asks ++ more) (written ++ bytes) z in
    ([], none, subst (λ (w : List ℕ). same [] w) (append-nil (written_by conn did)) (subst (λ (m : List Ask). same m (written_by conn did ++ [])) nothing s.2), subst (λ (l : List Ask). IsEven b conn l z) (sym (append-nil asks)) even)

abbrev pub heard_own : (before : Before) (b : Counts) (conn : ℕ) (asks : List Ask) (written : List ℕ) (x z : ServedValue) (bytes : List ℕ) (count : ℕ) (stop : Stop) → IsHeard conn x bytes count stop z → StoryAt before conn asks written x → IsEven b conn asks x
    → (more : List Ask) × (take count bytes ≡ flat_map spelling more) × StoryAt before conn (asks ++ more) (written ++ []) z × IsEven b conn (asks ++ more) z
heard_own before b conn asks written x z bytes count stop g k h =
    let turns : List Turn = g.did.so.turns in
    let more : List Ask = asks_of turns in
    let same : g.old ≡ h.0 = same_Some g.old h.0 (sym g.there ∙ h.1) in
    let there : item z.desks conn ≡ Some g.new = ap (λ ds. item ds conn) g.others ∙ item_with_same x.desks conn g.new g.old g.there in
    let q : IsQuiet conn x.node z.node = subst (λ (n : NodeValue). IsQuiet conn x.node n) (sym (ap (λ (t : At). t.node) g.did.so.done)) (quiet_all conn conn (at_of x.node g.old) turns) in
    let next : g.new.next ≡ h.0.next = ap (λ (t : At). t.desk.next) g.did.so.done ∙ (all_leave conn (at_of x.node g.old) turns).next ∙ ap (λ (d : DeskValue). d.next) same in
    let owed : length g.new.owed ≡ length h.0.owed + length (calls_among more) =
    ap (λ (t : At). length t.desk.owed) g.did.so.done ∙ all_owed conn (at_of x.node g.old) turns g.alive g.did.so.taken ∙ ap (λ (d : DeskValue). length d.owed + length (calls_among more)) same in
    let inbox_is : verdicts (inbox_of z.node conn) ≡ verdicts (inbox_of x.node conn) = ap verdicts (inbox_quiet conn x.node z.node q) in
    let c : verdicts (left_of conn (at_of z.node g.new)) ≡ verdicts (left_of conn (at_of x.node h.0)) = ap verdicts (left_quiet conn x.node z.node h.0 g.new next q) in
    let after : StoryAt before conn (asks ++ more) written z = story_heard before conn asks written x z bytes count stop g k in (
      more,
      heard_front bytes (flat_map spelling more) count g.did.so.parts,
      subst (λ (w : List ℕ). StoryAt before conn (asks ++ more) w z) (sym (append-nil written)) after,
      (g.new, there, omega (arith, h.2, owed, inbox_is, c, calls_append asks more)),
    )

pub heard_other : (before : Before) (b : Counts) (conn by : ℕ) (asks : List Ask) (x z : ServedValue) (bytes : List ℕ) (count : ℕ) (stop : Stop) → conn ≢ by → IsHeard by x bytes count stop z → IsEven b conn asks x → IsEven b conn asks z
heard_other before b conn by asks x z bytes count stop is g h =
    even_quiet before b conn asks x z h h.0 (ap (λ ds. item ds conn) g.others ∙ item_with_other x.desks by conn g.new is ∙ h.1) refl refl
    (subst (λ (n : NodeValue). IsQuiet conn x.node n) (sym (ap (λ (t : At). t.node) g.did.so.done)) (quiet_all conn by (at_of x.node g.old) g.did.so.turns))

heard_one : (before : Before) (b : Counts) (conn by : ℕ) (asks : List Ask) (written : List ℕ) (x z : ServedValue) (bytes : List ℕ) (count : ℕ) (stop : Stop) (test : Bool) → eqb by conn ≡ test → IsHeard by x bytes count stop z → StoryAt before conn asks written x → IsEven b conn asks x
    → (more : List Ask) × (cond test (take count bytes) [] ≡ flat_map spelling more) × StoryAt before conn (asks ++ more) (written ++ []) z × IsEven b conn (asks ++ more) z
heard_one before b conn by asks written x z bytes count stop true e g k h = heard_own before b conn asks written x z bytes count stop (subst (λ (n : ℕ). IsHeard n x bytes count stop z) (eqb-true by conn e) g) k h
heard_one before b conn by asks written x z bytes count stop false e g k h =
    subst (λ (test : Bool). (more : List Ask) × (cond test (take count bytes) [] ≡ flat_map spelling more) × StoryAt before conn (asks ++ more) (written ++ []) z × IsEven b conn (asks ++ more) z) e
    (unheard before b conn asks written x z (Hears by bytes count stop) g tt (rw e refl) k (heard_other before b conn by asks x z bytes count stop (is_other by conn e) g h))

told_other : (before : Before) (b : Counts) (conn by : ℕ) (asks : List Ask) (x z : ServedValue) (result : Result Unit Refusal) (o : Option DeskValue) → conn ≢ by → IsCaughtUp by x o result z → IsEven b conn asks x → IsEven b conn asks z
told_other before b conn by asks x z result None is g h = subst (IsEven b conn asks) (sym g.1) h
told_other before b conn by asks x z result (Some old) is g h =
    even_quiet before b conn asks x z h h.0 (ap (λ ds. item ds conn) g.others ∙ item_with_other x.desks by conn g.new is ∙ h.1) refl refl
    (record { records = rw (goes_taken g.goes).ring refl; node = ap (λ r. r.node) (goes_taken g.goes).ring; client = (goes_taken g.goes).others conn is })

told_own : (before : Before) (b : Counts) (conn : ℕ) (asks : List Ask) (x z : ServedValue) (result : Result Unit Refusal) (h : IsEven b conn asks x) → IsHonest b conn asks x → IsToldAt conn x h.0 result z → IsEven b conn asks z
told_own before b conn asks x z result h honest g = even_told before b conn asks x z h g.new honest (ap (λ ds. item ds conn) g.others ∙ item_with_same x.desks conn g.new h.0 h.1) g.goes

told_one : (before : Before) (b : Counts) (conn by : ℕ) (asks : List Ask) (x z : ServedValue) (result : Result Unit Refusal) (test : Bool) → eqb by conn ≡ test → IsCaughtUp by x (item x.desks by) result z → (h : IsEven b conn asks x) → IsHonest b conn asks x → IsEven b conn asks z
told_one before b conn by asks x z result true e g h honest =
    told_own before b conn asks x z result h honest (subst (λ (o : Option DeskValue). IsCaughtUp conn x o result z) h.1 (subst (λ (n : ℕ). IsCaughtUp n x (item x.desks n) result z) (eqb-true by conn e) g))
told_one before b conn by asks x z result false e g h honest = told_other before b conn by asks x z result (item x.desks by) (is_other by conn e) g h

written_one : (before : Before) (b : Counts) (conn by : ℕ) (asks : List Ask) (x z : ServedValue) (bytes : List ℕ) (test : Bool) → eqb by conn ≡ test → IsWritten by x bytes z → IsEven b conn asks x → IsEven b conn asks z
written_one before b conn by asks x z bytes true e g h =
    let own : IsWritten conn x bytes z = subst (λ (n : ℕ). IsWritten n x bytes z) (eqb-true by conn e) g in
    let same : own.old ≡ h.0 = same_Some own.old h.0 (sym own.there ∙ h.1) in
    let new : DeskValue = wrote own.old (length bytes) in
    even_quiet before b conn asks x z h new (ap (λ (v : ServedValue). item v.desks conn) own.after ∙ item_with_same x.desks conn new own.old own.there)
    (ap (λ (d : DeskValue). d.owed) same) (ap (λ (d : DeskValue). d.next) same) (subst (λ (v : ServedValue). IsQuiet conn x.node v.node) (sym own.after) (quiet_same conn x.node))
written_one before b conn by asks x z bytes false e g h =
    even_quiet before b conn asks x z h h.0 (ap (λ (v : ServedValue). item v.desks conn) g.after ∙ item_with_other x.desks by conn (wrote g.old (length bytes)) (is_other by conn e) ∙ h.1) refl refl
    (subst (λ (v : ServedValue). IsQuiet conn x.node v.node) (sym g.after) (quiet_same conn x.node))

even_arrived : (before : Before) (b : Counts) (conn : ℕ) (asks : List Ask) (written : List ℕ) (x : ServedValue) (pid : ℕ) (cred : Cred) → StoryAt before conn asks written x → IsEven b conn asks x → IsEven b conn asks (arrived x pid cred)
even_arrived before b conn asks written x pid cred k h =
    let c = item_of (item x.node.clients conn) k.story.alive in
    even_quiet before b conn asks x (arrived x pid cred) h h.0 (item_front x.desks (new_desk x.greeting ∷ []) conn h.0 h.1 ∙ h.1) refl refl
    (record { records = refl; node = refl; client = item_front x.node.clients _ conn c.0 c.1 })

pub even_by : (before : Before) (b : Counts) (conn : ℕ) (asks : List Ask) (written : List ℕ) (x z : ServedValue) (did : Did) → Goes x did z → IsKeptBy conn did → StoryAt before conn asks written x → IsEven b conn asks x → IsHonest b conn asks x → Brings before b conn asks written did z
even_by before b conn asks written x z (Arrives pid cred) g i k h honest = unheard before b conn asks written x z (Arrives pid cred) g i refl k (subst (IsEven b conn asks) (sym g) (even_arrived before b conn asks written x pid cred k h))
even_by before b conn asks written x z (Hears by bytes count stop) g i k h honest = heard_one before b conn by asks written x z bytes count stop (eqb by conn) refl g k h
even_by before b conn asks written x z Frames g i k h honest = unheard before b conn asks written x z Frames g i refl k
    (even_quiet before b conn asks x z h h.0 (ap (λ ds. item ds conn) g.desks ∙ h.1) refl refl (record { records = g.records; node = g.number; client = ap (λ cs. item cs conn) g.clients }))
even_by before b conn asks written x z Delivers g i k h honest = unheard before b conn asks written x z Delivers g i refl k (subst (IsEven b conn asks) (sym g) (even_delivered before b conn asks written x k h))
even_by before b conn asks written x z (Tells by) g i k h honest = unheard before b conn asks written x z (Tells by) g i refl k (told_one before b conn by asks x z g.0 (eqb by conn) refl g.1 h honest)
even_by before b conn asks written x z (Writes by bytes) g i k h honest = unheard before b conn asks written x z (Writes by bytes) g i refl k (written_one before b conn by asks x z bytes (eqb by conn) refl g h)
even_by before b conn asks written x z (Loses by) g i k h honest = unheard before b conn asks written x z (Loses by) g i refl k
    (subst (IsEven b conn asks) (sym g) (even_quiet before b conn asks x (parted x by) h h.0 (item_with_other x.desks by conn (new_desk x.greeting) i ∙ h.1) refl refl (quiet_ended conn by x.node (open_client x.node by) i)))
even_by before b conn asks written x z Nothing g i k h honest = unheard before b conn asks written x z Nothing g i refl k (subst (IsEven b conn asks) (sym g) h)

-- ---- a run

pub stays_even : StaysEven
stays_even before b conn asks written x y [] run i k h honest = (
  [],
  refl,
  subst (λ (z : ServedValue). StoryAt before conn (asks ++ []) (written ++ []) z) (sym run)
      (subst (λ (w : List ℕ). StoryAt before conn (asks ++ []) w x) (sym (append-nil written)) (subst (λ (l : List Ask). StoryAt before conn l written x) (sym (append-nil asks)) k)),
  subst (λ (z : ServedValue). IsEven b conn (asks ++ []) z) (sym run) (subst (λ (l : List Ask). IsEven b conn l x) (sym (append-nil asks)) h),
)
stays_even before b conn asks written x y (did ∷ dids) run i k h honest =
    let first = even_by before b conn asks written x run.0 did run.1 i.0 k h honest.0 in
    let later = stays_even before b conn (asks ++ first.0) (written ++ written_by conn did) run.0 y dids run.2 i.1 first.2 first.3 (honest.1 first.0 first.1) in (
      first.0 ++ later.0,
      ap (λ (l : List ℕ). l ++ flat_map (heard_by conn) dids) first.1 ∙ ap (λ (l : List ℕ). flat_map spelling first.0 ++ l) later.1 ∙ sym (flat_map-append spelling first.0 later.0),
      subst (λ (l : List Ask). StoryAt before conn l (written ++ flat_map (written_by conn) (did ∷ dids)) y) (append_assoc asks first.0 later.0)
          (subst (λ (w : List ℕ). StoryAt before conn ((asks ++ first.0) ++ later.0) w y) (append_assoc written (written_by conn did) (flat_map (written_by conn) dids)) later.2),
      subst (λ (l : List Ask). IsEven b conn l y) (append_assoc asks first.0 later.0) later.3,
    )
