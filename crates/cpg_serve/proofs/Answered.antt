-- The verdicts that a client is told answer its calls, over one ring of one node after another.
use Rattle.std.proofs.Common.{◌≡◌, ◌≢◌, ◌<◌, ◌≤◌, ◌+◌, ℕ, suc, Bool, true, false, cond, eqb, List, [], ◌∷◌, ◌++◌, length, take, Option, Some, None, Result, refl, sym, ap, subst, ◌∙◌, append-nil, append_assoc, length-append, arith}
use Rattle.std.specs.Prelude.{option_to_list}
use Rattle.std.specs.List.{flat_map, AllByRecursion}
use Rattle.std.proofs.lemmas.Bool.{eqb-true}
use Rattle.std.proofs.lemmas.List.{take-append-le}
use Rattle.std.proofs.lemmas.Option.{none-some, same_Some}
use Rattle.cpg_cred.specs.declared.credentials.Cred.{Cred}
use Rattle.cpg_cred.specs.declared.refusals.Refusal.{Refusal}
use Rattle.cpg_entry.specs.declared.entries.Entry.{Entry}
use Rattle.cpg_record.specs.declared.connections.ConnId.{ConnId}
use Rattle.cpg_record.specs.declared.records.Record.{Record}
use Rattle.cpg_record.specs.Events.{inbox}
use Rattle.cpg_record.specs.Laws.{EachEntryIsJudged}
use Rattle.cpg_record.proofs.Inboxes.{inbox_grows}
use Rattle.cpg_ring.specs.Worlds.{item}
use Rattle.cpg_node.specs.Nodes.{NodeValue, conn_id, inbox_of, open_client, records_of}
use Rattle.cpg_node.specs.Calls.{next_record}
use Rattle.cpg_ask.specs.Asks.{Ask}
use Rattle.cpg_ask.specs.Spelling.{spelling}
use Rattle.cpg_serve.specs.declared.hearing.Stop.{Stop}
use Rattle.cpg_serve.specs.declared.desks.Owed.{Owed}
use Rattle.cpg_serve.specs.Telling.{DeskValue}
use Rattle.cpg_serve.specs.Coming.{left_of}
use Rattle.cpg_serve.specs.Asking.{At, at_of}
use Rattle.cpg_serve.specs.Hearing.{asks_of}
use Rattle.cpg_serve.specs.Serving.{ServedValue, IsCaughtUp, IsHeard, arrived}
use Rattle.cpg_serve.specs.Stories.{Note, ask_in, event_in, Before, IsToldIn, StoryAt, nothing_before}
use Rattle.cpg_serve.specs.Runs.{Did, Arrives, Hears, Frames, Delivers, Tells, Writes, Loses, Nothing, Goes, Run, IsKeptBy, heard_by, written_by}
use Rattle.cpg_serve.specs.Settling.{IsFrameless, IsOwnMove, MovesOn}
use Rattle.cpg_serve.specs.Carrying.{IsMade, IsOther, number_at}
use Rattle.cpg_serve.specs.Meeting.{Counts, AreCounts, IsEven, IsHonest, IsHonestRun, calls_among, no_counts, verdicts}
use Rattle.cpg_serve.specs.Orders.{conn_at, own_entries}
use Rattle.cpg_serve.specs.Rings.{Renewal, Step, Does, Moves, Renews, IsRenewal, GoesBy, Life, IsKeptOver, next_comer, places_of, count_by, count_over}
use Rattle.cpg_serve.specs.Alone.{HearsItself, IsAlone, IsAnsweredOver, LoneRingsAnswer}
use Rattle.cpg_serve.proofs.Coming.{goes_taken}
use Rattle.cpg_serve.proofs.Alone.{Adds, adds, alone_by, alone_does, alone_moves, alone_new, alone_next, alone_over, entries_in, heard_adds, heard_enters, verdicts_all, verdicts_few, who}
use Rattle.cpg_serve.proofs.Counting.{told, verdicts_append}
use Rattle.cpg_serve.proofs.Entered.{Enters, IsBy, all_own, by_other, none_own, own_both}
use Rattle.cpg_serve.proofs.Evening.{calls_append, even_by, heard_other, heard_own, none_spelled, stays_even, unheard}
use Rattle.cpg_serve.proofs.Growing.{inbox_delivered, records_delivered}
use Rattle.cpg_serve.proofs.Lives.{AreSoMany, GoesOnBy, Lasts, next_story, told_at_rest, over_steps, own_kept, own_silent, so_many}
use Rattle.cpg_serve.proofs.Matched.{all_made, answers_in_order, even_begins, even_notes}
use Rattle.cpg_serve.proofs.Noted.{all_records}
use Rattle.cpg_serve.proofs.Running.{begins, is_other, quiet_all, quiet_ended}
use Rattle.cpg_serve.proofs.There.{all_there}

-- ---- records become more

-- of the same connections
record Grown (x z : NodeValue) : Type 0 where
  pub more : List Record
  pub records : records_of z ≡ records_of x ++ more
  pub node : z.ring.node ≡ x.ring.node

grown_same : (x z : NodeValue) → records_of z ≡ records_of x → z.ring.node ≡ x.ring.node → Grown x z
grown_same x z same node = record { more = []; records = same ∙ sym (append-nil (records_of x)); node = node }

grown_then : (x y z : NodeValue) → Grown x y → Grown y z → Grown x z
grown_then x y z h k = record {
  more = h.more ++ k.more;
  records = k.records ∙ ap (λ (l : List Record). l ++ k.more) h.records ∙ append_assoc (records_of x) h.more k.more;
  node = k.node ∙ h.node;
}

grown_told : (by : ℕ) (x z : ServedValue) (result : Result Unit Refusal) (o : Option DeskValue) → IsCaughtUp by x o result z → Grown x.node z.node
grown_told by x z result None g = grown_same x.node z.node (ap (λ (v : ServedValue). records_of v.node) g.1) (ap (λ (v : ServedValue). v.node.ring.node) g.1)
grown_told by x z result (Some old) g = grown_same x.node z.node (rw (goes_taken g.goes).ring refl) (ap (λ r. r.node) (goes_taken g.goes).ring)

grown_by : (x z : ServedValue) (did : Did) → Goes x did z → Grown x.node z.node
grown_by x z (Arrives pid cred) g = grown_same x.node z.node (ap (λ (v : ServedValue). records_of v.node) g) (ap (λ (v : ServedValue). v.node.ring.node) g)
grown_by x z (Hears by bytes count stop) g =
    let q = quiet_all 0 by (at_of x.node g.old) g.did.so.turns in
    let same : z.node ≡ _ = ap (λ (t : At). t.node) g.did.so.done in
    grown_same x.node z.node (ap records_of same ∙ q.records) (ap (λ (n : NodeValue). n.ring.node) same ∙ q.node)
grown_by x z Frames g = grown_same x.node z.node g.records g.number
grown_by x z Delivers g = record {
  more = option_to_list (next_record x.node);
  records = ap (λ (v : ServedValue). records_of v.node) g ∙ records_delivered x.node;
  node = ap (λ (v : ServedValue). v.node.ring.node) g;
}
grown_by x z (Tells by) g = grown_told by x z g.0 (item x.desks by) g.1
grown_by x z (Writes by bytes) g = grown_same x.node z.node (ap (λ (v : ServedValue). records_of v.node) g.after) (ap (λ (v : ServedValue). v.node.ring.node) g.after)
grown_by x z (Loses by) g =
    let q = quiet_ended (suc by) by x.node (open_client x.node by) (λ (e : suc by ≡ by). absurd (omega (arith, e))) in
    grown_same x.node z.node (ap (λ (v : ServedValue). records_of v.node) g ∙ q.records) (ap (λ (v : ServedValue). v.node.ring.node) g ∙ q.node)
grown_by x z Nothing g = grown_same x.node z.node (ap (λ (v : ServedValue). records_of v.node) g) (ap (λ (v : ServedValue). v.node.ring.node) g)

grown_run : (x y : ServedValue) (dids : List Did) → Run x dids y → Grown x.node y.node
grown_run x y [] run = grown_same x.node y.node (ap (λ (v : ServedValue). records_of v.node) run) (ap (λ (v : ServedValue). v.node.ring.node) run)
grown_run x y (did ∷ dids) run = grown_then x.node run.0.node y.node (grown_by x run.0 did run.1) (grown_run run.0 y dids run.2)

counts_kept : (b : Counts) (before : Before) (conn : ℕ) (x z : NodeValue) → before.places ≤ length (records_of x) → Grown x z → AreCounts b before conn x → AreCounts b before conn z
counts_kept b before conn x z began g h = record {
  answered = h.answered;
  begun = h.begun ∙ sym (ap (λ (l : List Record). verdicts (inbox (take before.places l) (conn_id z conn))) g.records
      ∙ ap (λ (l : List Record). verdicts (inbox l (conn_id z conn))) (take-append-le before.places (records_of x) g.more began)
      ∙ ap (λ (n : ℕ). verdicts (inbox (take before.places (records_of x)) (record { node = n; conn = conn }))) g.node);
  calls = h.calls;
}

-- ---- where a client stands

-- So many of the ring's entries are the client's as it made calls.
pub record Stands (before : Before) (b : Counts) (conn : ℕ) (asks : List Ask) (written : List ℕ) (x : ServedValue) : Type 0 where
  pub alone : IsAlone x
  pub story : StoryAt before conn asks written x
  pub even : IsEven b conn asks x
  pub counts : AreCounts b before conn x.node
  pub own : length (own_entries (conn_at 1 conn) (entries_in x alone)) + b.answered ≡ length (calls_among asks) + b.begun

-- with some counts
abbrev pub Answering : Before → ℕ → List Ask → List ℕ → ServedValue → Type 0
Answering before conn asks written x = (b : Counts) × Stands before b conn asks written x

-- it stands so where these entries came to the ring's others, and as many of them are its own as it made calls more
standing : (before : Before) (b : Counts) (conn : ℕ) (asks more : List Ask) (written wrote : List ℕ) (x z : ServedValue) (st : Stands before b conn asks written x) (a : IsAlone z) (new : List Entry)
    → entries_in z a ≡ entries_in x st.alone ++ new → length (own_entries (conn_at 1 conn) new) ≡ length (calls_among more) → Grown x.node z.node
    → StoryAt before conn (asks ++ more) (written ++ wrote) z → IsEven b conn (asks ++ more) z → Stands before b conn (asks ++ more) (written ++ wrote) z
standing before b conn asks more written wrote x z st a new entries mine g k h = record {
  alone = a;
  story = k;
  even = h;
  counts = counts_kept b before conn x.node z.node st.story.story.now.began g st.counts;
  own =
      let all : length (own_entries (conn_at 1 conn) (entries_in z a)) ≡ length (own_entries (conn_at 1 conn) (entries_in x st.alone)) + length (own_entries (conn_at 1 conn) new) =
      ap (λ (l : List Entry). length (own_entries (conn_at 1 conn) l)) entries ∙ own_both conn (entries_in x st.alone) new in
      omega (arith, all, mine, st.own, calls_append asks more);
}

nothing_asked : (more : List Ask) → [] ≡ flat_map spelling more → length (calls_among more) ≡ 0
nothing_asked more e = ap (λ (l : List Ask). length (calls_among l)) (none_spelled more e)

-- a client has a number
not_nobody : (before : Before) (conn : ℕ) (asks : List Ask) (written : List ℕ) (x : ServedValue) → StoryAt before conn asks written x → 0 ≢ conn
not_nobody before conn asks written x k same = absurd (none-some k.desk (ap (item x.desks) same ∙ k.there))

module _ (each : EachEntryIsJudged) where
  honest : (b : Counts) (conn : ℕ) (asks : List Ask) (x : ServedValue) (a : IsAlone x) → length (own_entries (conn_at 1 conn) (entries_in x a)) + b.answered ≡ length (calls_among asks) + b.begun → IsHonest b conn asks x
  honest b conn asks x a own = let few = verdicts_few each x a conn in omega (arith, few, own)

  -- ---- one call

  does_other : (before : Before) (b : Counts) (conn : ℕ) (asks : List Ask) (written : List ℕ) (x z : ServedValue) (did : Did) → Goes x did z → IsFrameless did → IsKeptBy conn did → heard_by conn did ≡ [] → who did ≢ conn
      → Stands before b conn asks written x → GoesOnBy (λ before conn asks written x. Stands before b conn asks written x) before conn asks written (heard_by conn did) (written_by conn did) z
  does_other before b conn asks written x z did go f kept silent other st =
      let s = even_by before b conn asks written x z did go kept st.story st.even (honest b conn asks x st.alone st.own) in
      let h = adds x z did go f in
      let stays = alone_does x z did st.alone go f h in
      let mine : length (own_entries (conn_at 1 conn) h.enters.new) ≡ length (calls_among s.0) =
      none_own conn h.enters.new (by_other x.node.ring.node (who did) conn h.enters.new other h.enters.each) ∙ sym (nothing_asked s.0 (sym silent ∙ s.1)) in
      (s.0, s.1, standing before b conn asks s.0 written (written_by conn did) x z st stays.alone h.enters.new stays.entries mine (grown_by x z did go) s.2 s.3)

  heard_itself : (before : Before) (b : Counts) (conn : ℕ) (asks : List Ask) (written : List ℕ) (x z : ServedValue) (bytes : List ℕ) (count : ℕ) (stop : Stop) → IsHeard conn x bytes count stop z → Stands before b conn asks written x
      → GoesOnBy (λ before conn asks written x. Stands before b conn asks written x) before conn asks written (take count bytes) [] z
  heard_itself before b conn asks written x z bytes count stop go st =
      let s = heard_own before b conn asks written x z bytes count stop go st.story st.even in
      let h = heard_enters conn x z bytes count stop go in
      let stays = alone_does x z (Hears conn bytes count stop) st.alone go tt (heard_adds conn x z bytes count stop go) in
      let mine : length (own_entries (conn_at 1 conn) h.new) ≡ length (calls_among (asks_of go.did.so.turns)) =
      all_own conn h.new (subst (λ (n : ℕ). AllByRecursion (IsBy n conn) h.new) st.alone.lone.node h.each) ∙ h.many in
      (s.0, s.1, standing before b conn asks s.0 written [] x z st stays.alone h.new stays.entries mine (grown_by x z (Hears conn bytes count stop) go) s.2 s.3)

  heard_by_test : (before : Before) (b : Counts) (conn by : ℕ) (asks : List Ask) (written : List ℕ) (x z : ServedValue) (bytes : List ℕ) (count : ℕ) (stop : Stop) (test : Bool) → eqb by conn ≡ test → IsHeard by x bytes count stop z
      → Stands before b conn asks written x → GoesOnBy (λ before conn asks written x. Stands before b conn asks written x) before conn asks written (cond test (take count bytes) []) [] z
  heard_by_test before b conn by asks written x z bytes count stop true e go st = heard_itself before b conn asks written x z bytes count stop (subst (λ (n : ℕ). IsHeard n x bytes count stop z) (eqb-true by conn e) go) st
  heard_by_test before b conn by asks written x z bytes count stop false e go st =
      let other = is_other by conn e in
      subst (λ (test : Bool). GoesOnBy (λ before conn asks written x. Stands before b conn asks written x) before conn asks written (cond test (take count bytes) []) [] z) e
      (does_other before b conn asks written x z (Hears by bytes count stop) go tt tt (rw e refl) (λ (same : by ≡ conn). other (sym same)) st)

  does : (before : Before) (b : Counts) (conn : ℕ) (asks : List Ask) (written : List ℕ) (x z : ServedValue) (did : Did) → Goes x did z → IsFrameless did → IsKeptBy conn did → Stands before b conn asks written x
      → GoesOnBy (λ before conn asks written x. Stands before b conn asks written x) before conn asks written (heard_by conn did) (written_by conn did) z
  does before b conn asks written x z (Arrives pid cred) go f kept st = does_other before b conn asks written x z (Arrives pid cred) go f kept refl (not_nobody before conn asks written x st.story) st
  does before b conn asks written x z (Hears by bytes count stop) go f kept st = heard_by_test before b conn by asks written x z bytes count stop (eqb by conn) refl go st
  does before b conn asks written x z Frames go f kept st = absurd f
  does before b conn asks written x z Delivers go f kept st = does_other before b conn asks written x z Delivers go f kept refl (not_nobody before conn asks written x st.story) st
  does before b conn asks written x z (Tells by) go f kept st = does_other before b conn asks written x z (Tells by) go f kept refl (not_nobody before conn asks written x st.story) st
  does before b conn asks written x z (Writes by bytes) go f kept st = does_other before b conn asks written x z (Writes by bytes) go f kept refl (not_nobody before conn asks written x st.story) st
  does before b conn asks written x z (Loses by) go f kept st = does_other before b conn asks written x z (Loses by) go f kept refl (λ (same : by ≡ conn). kept (sym same)) st
  does before b conn asks written x z Nothing go f kept st = does_other before b conn asks written x z Nothing go f kept refl (not_nobody before conn asks written x st.story) st

  -- ---- a ring's own moves

  inbox_grown : (x z : NodeValue) (conn : ℕ) → Grown x z → verdicts (inbox_of x conn) ≤ verdicts (inbox_of z conn)
  inbox_grown x z conn g =
      let more = inbox_grows (records_of x) g.more (conn_id x conn) in
      let all : verdicts (inbox_of z conn) ≡ verdicts (inbox_of x conn) + verdicts more.0 =
      ap (λ (n : ℕ). verdicts (inbox (records_of z) (record { node = n; conn = conn }))) g.node
      ∙ ap (λ (l : List Record). verdicts (inbox l (conn_id x conn))) g.records ∙ ap verdicts more.1 ∙ verdicts_append (inbox_of x conn) more.0 in
      omega (arith, all)

  -- where no more verdicts than calls are there at the end, there never were
  honest_run : (b : Counts) (conn : ℕ) (asks : List Ask) (x y : ServedValue) (dids : List Did) (run : Run x dids y) → IsHonest b conn asks y → IsHonestRun b conn asks x dids y run
  honest_run b conn asks x y [] run h = tt
  honest_run b conn asks x y (did ∷ dids) run h = (
    (let few = inbox_grown x.node y.node conn (grown_run x y (did ∷ dids) run) in omega (arith, few, h)),
    λ more heard. honest_run b conn (asks ++ more) run.0 y dids run.2 (omega (arith, h, calls_append asks more)),
  )

  moves : (before : Before) (b : Counts) (conn : ℕ) (asks : List Ask) (written : List ℕ) (x z : ServedValue) → MovesOn x z → Stands before b conn asks written x
      → GoesOnBy (λ before conn asks written x. Stands before b conn asks written x) before conn asks written [] [] z
  moves before b conn asks written x z go st =
      let stays = alone_moves x z st.alone go in
      let same : length (own_entries (conn_at 1 conn) (entries_in z stays.alone)) ≡ length (own_entries (conn_at 1 conn) (entries_in x st.alone)) =
      ap (λ (l : List Entry). length (own_entries (conn_at 1 conn) l)) (stays.entries ∙ append-nil (entries_in x st.alone)) in
      let end : IsHonest b conn asks z = honest b conn asks z stays.alone (omega (arith, same, st.own)) in
      let s = stays_even before b conn asks written x z go.0.0 go.0.2 (own_kept conn go.0.0 go.0.1) st.story st.even (honest_run b conn asks x z go.0.0 go.0.2 end) in
      let silent : [] ≡ flat_map spelling s.0 = sym (own_silent conn go.0.0 go.0.1).0 ∙ s.1 in
      let story : StoryAt before conn (asks ++ s.0) (written ++ []) z = subst (λ (w : List ℕ). StoryAt before conn (asks ++ s.0) (written ++ w) z) (own_silent conn go.0.0 go.0.1).1 s.2 in
      (s.0, silent, standing before b conn asks s.0 written [] x z st stays.alone [] stays.entries (sym (nothing_asked s.0 silent)) (grown_run x z go.0.0 go.0.2) story s.3)

  -- ---- the next ring

  -- at rest no call is owed a verdict
  none_owed : (before : Before) (b : Counts) (conn : ℕ) (asks : List Ask) (written : List ℕ) (r : Renewal) → IsRenewal r → (st : Stands before b conn asks written r.ended) → length st.story.desk.owed ≡ 0
  none_owed before b conn asks written r is st =
      let same : st.even.0 ≡ st.story.desk = same_Some st.even.0 st.story.desk (sym st.even.1 ∙ st.story.there) in
      let left : verdicts (left_of conn (at_of r.ended.node st.even.0)) ≡ 0 = ap verdicts (told_at_rest conn r st.even.0 is st.story.story.alive st.even.1) in
      let all = verdicts_all each r.ended st.alone conn is.0.0 in
      let none : length st.even.0.owed ≡ 0 = omega (arith, st.even.2, left, all, st.own) in
      ap (λ (d : DeskValue). length d.owed) (sym same) ∙ none

  renews : (before : Before) (b : Counts) (conn : ℕ) (asks : List Ask) (written : List ℕ) (r : Renewal) → IsRenewal r → (st : Stands before b conn asks written r.ended)
      → Stands (record { notes = before.notes ++ st.story.story.notes; places = places_of r }) (record { answered = told (before.notes ++ st.story.story.notes); begun = verdicts (inbox_of r.next.node (number_at r.numbers conn)) }) (number_at r.numbers conn) asks written r.next
  renews before b conn asks written r is st =
      let next = next_story before conn asks written r is st.story in
      let number : ℕ = number_at r.numbers conn in
      let all : List Note = before.notes ++ st.story.story.notes in
      let rs : List Record = records_of r.next.node in
      let alone : IsAlone r.next = alone_next r is in
      let none = none_owed before b conn asks written r is st in
      let answered : told all ≡ length (calls_among asks) = let e = even_notes before b conn asks written r.ended st.story st.counts st.even in omega (arith, e, none) in
      let owed : length next.story.desk.owed ≡ 0 = ap (λ (l : List Owed). length l) next.owed ∙ none in
      let left : verdicts (left_of number (at_of r.next.node next.story.desk)) ≡ 0 = ap verdicts next.left in
      let own = verdicts_all each r.next alone number is.1.2.node.begun.still in
      record {
        alone = alone;
        story = next.story;
        even = (next.story.desk, next.story.there, omega (arith, owed, left, answered));
        counts = record {
          answered = refl;
          begun = ap (λ (l : List Record). verdicts (inbox l (conn_id r.next.node number))) (sym (all_records rs));
          calls = all_made before b conn asks written r.ended st.story st.counts;
        };
        own = omega (arith, own, answered);
      }

  -- ---- a life

  lasts : Lasts Answering HearsItself
  lasts = record {
    does = λ before conn asks written x y did go f kept st. let s = does before st.0 conn asks written x y did go f kept st.1 in (s.0, s.1, (st.0, s.2));
    moves = λ before conn asks written x y go st. let s = moves before st.0 conn asks written x y go st.1 in (s.0, s.1, (st.0, s.2));
    renews = λ before conn asks written r is st.
        (st.1.story.story.notes, (next_story before conn asks written r is st.1.story).told, (_, renews before st.0 conn asks written r is st.1));
  }

  answered_over : (before : Before) (conn : ℕ) (asks : List Ask) (written : List ℕ) (x y : ServedValue) (steps : List Step) → Life x steps y → AllByRecursion HearsItself steps → IsKeptOver conn steps → Answering before conn asks written x
      → IsAnsweredOver before conn asks written steps y
  answered_over before conn asks written x y steps life f kept st =
      let s = over_steps Answering HearsItself lasts before conn asks written x y steps life f kept st in
      ((s.0, s.1, s.2, s.3, s.4.1.story), answers_in_order _ s.4.0 _ _ _ y s.4.1.story s.4.1.counts s.4.1.even)

  -- ---- a client that comes

  later_steps : (first after : List Step) → AllByRecursion HearsItself (first ++ after) → AllByRecursion HearsItself after
  later_steps [] after h = h
  later_steps (step ∷ first) after h = later_steps first after h.1

  comes : (count : ℕ) (x y : ServedValue) (first after : List Step) (pid : ℕ) (cred : Cred) → AreSoMany count x → IsAlone x → AllByRecursion HearsItself (first ++ Does (Arrives pid cred) ∷ after) → Life x (first ++ Does (Arrives pid cred) ∷ after) y
      → (z : ServedValue) × AreSoMany (count_over count first) z × IsAlone z × Life (arrived z pid cred) after y
  comes count x y [] after pid cred many a f life = (x, many, a, subst (λ (z : ServedValue). Life z after y) life.1 life.2)
  comes count x y (step ∷ first) after pid cred many a f life = comes (count_by count step) life.0 y first after pid cred (so_many count x life.0 step life.1 many) (alone_by x life.0 step life.1 f.0 a) f.1 life.2

  unknown : (conn : ℕ) (x : NodeValue) (es : List Entry) → length x.clients < conn → AllByRecursion (IsMade x) es → AllByRecursion (IsOther conn) es
  unknown conn x [] past h = tt
  unknown conn x (e ∷ es) past h = ((λ (same : e.conn ≡ conn). absurd (omega (arith, past, h.0.known.1, same))), unknown conn x es past h.1)

  stands_first : (pid : ℕ) (cred : Cred) (z : ServedValue) → length z.desks ≡ length z.node.clients → IsAlone z → Answering nothing_before (suc (length z.desks)) [] [] (arrived z pid cred)
  stands_first pid cred z many a =
      let conn : ℕ = suc (length z.desks) in
      let h = adds z (arrived z pid cred) (Arrives pid cred) refl tt in
      let stays = alone_does z (arrived z pid cred) (Arrives pid cred) a refl tt h in
      let old : length (own_entries (conn_at 1 conn) (entries_in z a)) ≡ 0 = none_own conn (entries_in z a) (unknown conn z.node (entries_in z a) (omega (arith, many)) a.own.made) in
      let new : length (own_entries (conn_at 1 conn) h.enters.new) ≡ 0 = none_own conn h.enters.new (by_other z.node.ring.node 0 conn h.enters.new (λ (same : 0 ≡ conn). absurd (omega (arith, same))) h.enters.each) in (
        no_counts,
        record {
          alone = stays.alone;
          story = begins pid cred z many;
          even = even_begins pid cred z many;
          counts = record { answered = refl; begun = refl; calls = refl };
          own =
              let all : length (own_entries (conn_at 1 conn) (entries_in (arrived z pid cred) stays.alone)) ≡ length (own_entries (conn_at 1 conn) (entries_in z a)) + length (own_entries (conn_at 1 conn) h.enters.new) =
              ap (λ (l : List Entry). length (own_entries (conn_at 1 conn) l)) stays.entries ∙ own_both conn (entries_in z a) h.enters.new in
              omega (arith, all, old, new);
        },
      )

  pub lone_rings_answer : LoneRingsAnswer
  lone_rings_answer = record {
    begins = alone_new;
    stays = λ x y steps a f life. alone_over x y steps life f a;
    rest = all_there;
    answers = λ x y steps many a f life first after pid cred e kept.
        let cut : AllByRecursion HearsItself (first ++ Does (Arrives pid cred) ∷ after) = subst (AllByRecursion HearsItself) e f in
        let c = comes (length x.desks) x y first after pid cred (record { desks = refl; clients = many }) a cut (subst (λ (l : List Step). Life x l y) e life) in
        let st : Answering nothing_before (next_comer x first) [] [] (arrived c.0 pid cred) = subst (λ (n : ℕ). Answering nothing_before (suc n) [] [] (arrived c.0 pid cred)) c.1.desks (stands_first pid cred c.0 c.1.clients c.2) in
        answered_over nothing_before (next_comer x first) [] [] (arrived c.0 pid cred) y after c.3 (later_steps first (Does (Arrives pid cred) ∷ after) cut).1 kept st;
  }
