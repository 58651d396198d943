-- The story of a client over one ring after another.
use Rattle.std.proofs.Common.{◌≡◌, ◌≤◌, ◌+◌, ℕ, zero, suc, Bool, true, false, is_some, List, [], ◌∷◌, ◌++◌, length, take, Option, Some, None, refl, sym, ap, subst, ◌∙◌, append-nil, append_assoc, arith, if◌then◌else◌}
use Rattle.std.specs.List.{flat_map, slice_get, AllByRecursion}
use Rattle.std.proofs.lemmas.Grind.{flat_map-append}
use Rattle.std.proofs.lemmas.Option.{none-some}
use Rattle.cpg_cred.specs.declared.credentials.Cred.{Cred}
use Rattle.cpg_record.specs.declared.events.Event.{Event}
use Rattle.cpg_record.specs.declared.records.Record.{Record}
use Rattle.cpg_record.specs.Events.{inbox}
use Rattle.cpg_ring.specs.Worlds.{item}
use Rattle.cpg_node.specs.declared.connections.Client.{Client}
use Rattle.cpg_node.specs.Nodes.{conn_id, if_open, inbox_of, open_client, records_of}
use Rattle.cpg_ask.specs.Asks.{Ask}
use Rattle.cpg_ask.specs.Spelling.{spelling}
use Rattle.cpg_ask.specs.Tells.{tell_bytes}
use Rattle.cpg_ask.specs.declared.greetings.Greeting.{Greeting}
use Rattle.cpg_serve.specs.declared.desks.Owed.{Owed}
use Rattle.cpg_serve.specs.Telling.{DeskValue}
use Rattle.cpg_serve.specs.Asking.{at_of}
use Rattle.cpg_serve.specs.Coming.{left_of}
use Rattle.cpg_serve.specs.Serving.{ServedValue, arrived}
use Rattle.cpg_serve.specs.Stories.{Note, ask_in, owed_in, tells_in, Before, IsToldIn, StoryAt, nothing_before}
use Rattle.cpg_serve.specs.Runs.{Did, Arrives, Hears, Frames, Delivers, Tells, Writes, Loses, Nothing, Goes, Run, IsGone, IsKeptBy, arrives, heard_by, written_by}
use Rattle.cpg_serve.specs.Settling.{IsOwnMove, MovesOn}
use Rattle.cpg_serve.specs.Carrying.{anew, greeted, number_at, number_in, numbered}
use Rattle.cpg_serve.specs.Rings.{Renewal, Step, Does, Moves, Renews, IsRenewal, GoesBy, Life, number_by, number_over, IsKeptOver, heard_in, heard_over, written_in, written_over, renewals, places_of, AreToldIn, before_next, IsToldOver, AllThatIsToldInLife, count_by, count_over, next_comer, AllThatNewcomersAreToldInLife, NothingAfterTheEndInLife, EachLifeTells, LivesTell}
use Rattle.cpg_serve.proofs.Coming.{open_is}
use Rattle.cpg_serve.proofs.Gone.{gone_by, nothing_after}
use Rattle.cpg_serve.proofs.Moved.{as_many}
use Rattle.cpg_serve.proofs.Newcomers.{Grows, grows}
use Rattle.cpg_serve.proofs.Noted.{all_records, is_there, some_mapped}
use Rattle.cpg_serve.proofs.Over.{each_goes_over}
use Rattle.cpg_serve.proofs.Running.{begins, one_call, over_run, within}

-- ---- a ring that moves by itself

pub own_kept : (conn : ℕ) (dids : List Did) → AllByRecursion IsOwnMove dids → AllByRecursion (IsKeptBy conn) dids
own_kept conn [] h = tt
own_kept conn (Frames ∷ dids) h = (tt, own_kept conn dids h.1)
own_kept conn (Delivers ∷ dids) h = (tt, own_kept conn dids h.1)
own_kept conn (Tells by ∷ dids) h = (tt, own_kept conn dids h.1)
own_kept conn (_ ∷ dids) h = absurd h.0

-- nothing is heard of anybody, and nothing is written
pub own_silent : (conn : ℕ) (dids : List Did) → AllByRecursion IsOwnMove dids → (flat_map (heard_by conn) dids ≡ []) × (flat_map (written_by conn) dids ≡ [])
own_silent conn [] h = (refl, refl)
own_silent conn (Frames ∷ dids) h = own_silent conn dids h.1
own_silent conn (Delivers ∷ dids) h = own_silent conn dids h.1
own_silent conn (Tells by ∷ dids) h = own_silent conn dids h.1
own_silent conn (_ ∷ dids) h = absurd h.0

then_grow : (x y z : ServedValue) → Grows 0 x y → Grows 0 y z → Grows 0 x z
then_grow x y z g h = record { desks = omega (arith, g.desks, h.desks); clients = omega (arith, g.clients, h.clients) }

-- as many clients and desks as before
pub own_grows : (x y : ServedValue) (dids : List Did) → AllByRecursion IsOwnMove dids → Run x dids y → Grows 0 x y
own_grows x y [] h run = subst (Grows 0 x) (sym run) (record { desks = omega arith; clients = omega arith })
own_grows x y (Frames ∷ dids) h run = then_grow x run.0 y (grows x run.0 Frames run.1) (own_grows run.0 y dids h.1 run.2)
own_grows x y (Delivers ∷ dids) h run = then_grow x run.0 y (grows x run.0 Delivers run.1) (own_grows run.0 y dids h.1 run.2)
own_grows x y (Tells by ∷ dids) h run = then_grow x run.0 y (grows x run.0 (Tells by) run.1) (own_grows run.0 y dids h.1 run.2)
own_grows x y (_ ∷ dids) h run = absurd h.0

-- ---- the next ring

-- The ring told the client all, and its story goes on at the next one, where nothing is left to tell it.
pub record GoesToNext (before : Before) (conn : ℕ) (asks : List Ask) (written : List ℕ) (r : Renewal) (k : StoryAt before conn asks written r.ended) : Type 0 where
  pub told : IsToldIn conn before.places r.ended.greeting r.ended.node [] k.story.notes
  pub story : StoryAt (record { notes = before.notes ++ k.story.notes; places = places_of r }) (number_at r.numbers conn) asks written r.next
  pub owed : story.desk.owed ≡ k.desk.owed
  pub left : left_of (number_at r.numbers conn) (at_of r.next.node story.desk) ≡ []

-- at rest it was told all
pub told_at_rest : (conn : ℕ) (r : Renewal) (d : DeskValue) → IsRenewal r → is_some (open_client r.ended.node conn) ≡ true → item r.ended.desks conn ≡ Some d → left_of conn (at_of r.ended.node d) ≡ []
told_at_rest conn r d is alive there =
    let c = is_there (open_client r.ended.node conn) alive in
    let low = within r.ended.node.clients conn c.0 (open_is (item r.ended.node.clients conn) c.0 c.1).0 in
    is.0.1 conn (omega (arith, low, is.1.2.node.few)) d there

pub next_story : (before : Before) (conn : ℕ) (asks : List Ask) (written : List ℕ) (r : Renewal) → IsRenewal r → (k : StoryAt before conn asks written r.ended) → GoesToNext before conn asks written r k
next_story before conn asks written r is k =
    let c = is_there (open_client r.ended.node conn) k.story.alive in
    let renewed = is.1.2 in
    let told : (d : DeskValue) → item r.ended.desks conn ≡ Some d → left_of conn (at_of r.ended.node d) ≡ [] = λ d there. told_at_rest conn r d is k.story.alive there in
    let over = each_goes_over is.1.0 is.1.1 r.numbers r.ended r.next conn c.0 k.desk renewed told c.1 k.there in
    let number : ℕ = number_at r.numbers conn in
    let past : List Note = before.notes ++ k.story.notes in
    let rs : List Record = records_of r.next.node in
    record {
      told = subst (λ (l : List Event). IsToldIn conn before.places r.ended.greeting r.ended.node l k.story.notes) (told k.desk k.there)
          (subst (λ (g : Greeting). IsToldIn conn before.places g r.ended.node (left_of conn (at_of r.ended.node k.desk)) k.story.notes) k.greeting k.story.now);
      story = record {
        desk = greeted r.next.greeting k.desk;
        there = over.desk;
        greeting = refl;
        story = record {
          notes = [];
          now = record {
            each = tt;
            rising = tt;
            began = omega arith;
            events = ap (λ (l : List Record). inbox l (conn_id r.next.node number) ++ left_of number (at_of r.next.node (greeted r.next.greeting k.desk))) (all_records rs)
                ∙ ap (λ (l : List Event). inbox_of r.next.node number ++ l) over.told ∙ append-nil (inbox_of r.next.node number);
          };
          asked = ap (flat_map ask_in) (append-nil past) ∙ k.story.asked;
          owed = ap (owed_in []) (append-nil past) ∙ k.story.owed;
          counted = renewed.node.counted number;
          alive = sym (some_mapped anew (open_client r.next.node number)) ∙ ap is_some over.client;
          told = k.story.told ∙ ap (λ (l : List Note). flat_map tell_bytes (tells_in [] l)) (sym (append-nil past));
        };
      };
      owed = refl;
      left = over.told;
    }

-- ---- one step after another

-- what is said of a client along its life
abbrev pub Said : Type 1
Said = Before → ℕ → List Ask → List ℕ → ServedValue → Type 0

-- it goes on, where this was heard of the client and that was written to it
abbrev pub GoesOnBy : Said → Before → ℕ → List Ask → List ℕ → List ℕ → List ℕ → ServedValue → Type 0
GoesOnBy P before conn asks written heard wrote y = (more : List Ask) × (heard ≡ flat_map spelling more) × P before conn (asks ++ more) (written ++ wrote) y

-- Each step of that kind leaves it so.
pub record Lasts (P : Said) (Q : Step → Type 0) : Type 0 where
  pub does : (before : Before) (conn : ℕ) (asks : List Ask) (written : List ℕ) (x y : ServedValue) (did : Did) → Goes x did y → Q (Does did) → IsKeptBy conn did → P before conn asks written x
      → GoesOnBy P before conn asks written (heard_by conn did) (written_by conn did) y
  pub moves : (before : Before) (conn : ℕ) (asks : List Ask) (written : List ℕ) (x y : ServedValue) → MovesOn x y → P before conn asks written x → GoesOnBy P before conn asks written [] [] y
  pub renews : (before : Before) (conn : ℕ) (asks : List Ask) (written : List ℕ) (r : Renewal) → IsRenewal r → P before conn asks written r.ended
      → (notes : List Note) × IsToldIn conn before.places r.ended.greeting r.ended.node [] notes × P (record { notes = before.notes ++ notes; places = places_of r }) (number_at r.numbers conn) asks written r.next

-- what was heard and written of late comes behind what was before
joined : (P : Said) (before : Before) (conn : ℕ) (asks more later : List Ask) (written wrote last : List ℕ) (y : ServedValue) → P before conn ((asks ++ more) ++ later) ((written ++ wrote) ++ last) y → P before conn (asks ++ (more ++ later)) (written ++ (wrote ++ last)) y
joined P before conn asks more later written wrote last y k =
    subst (λ (l : List Ask). P before conn l (written ++ (wrote ++ last)) y) (append_assoc asks more later)
    (subst (λ (w : List ℕ). P before conn ((asks ++ more) ++ later) w y) (append_assoc written wrote last) k)

heard_both : (heard later : List ℕ) (more rest : List Ask) → heard ≡ flat_map spelling more → later ≡ flat_map spelling rest → heard ++ later ≡ flat_map spelling (more ++ rest)
heard_both heard later more rest h k = ap (λ (l : List ℕ). l ++ later) h ∙ ap (λ (l : List ℕ). flat_map spelling more ++ l) k ∙ sym (flat_map-append spelling more rest)

-- what is said of it after all of them
abbrev pub IsSaidOver : Said → Before → ℕ → List Ask → List ℕ → List Step → ServedValue → Type 0
IsSaidOver P before conn asks written steps y = (more : List Ask) × (past : List (List Note)) × (heard_over conn steps ≡ flat_map spelling more) × AreToldIn conn before.places (renewals steps) past
    × P (before_next before (renewals steps) past) (number_over conn steps) (asks ++ more) (written ++ written_over conn steps) y

pub over_steps : (P : Said) (Q : Step → Type 0) → Lasts P Q → (before : Before) (conn : ℕ) (asks : List Ask) (written : List ℕ) (x y : ServedValue) (steps : List Step) → Life x steps y → AllByRecursion Q steps → IsKeptOver conn steps
    → P before conn asks written x → IsSaidOver P before conn asks written steps y
over_steps P Q lasts before conn asks written x y [] life q kept k = (
  [],
  [],
  refl,
  tt,
  subst (λ (z : ServedValue). P before conn (asks ++ []) (written ++ []) z) (sym life)
      (subst (λ (w : List ℕ). P before conn (asks ++ []) w x) (sym (append-nil written)) (subst (λ (l : List Ask). P before conn l written x) (sym (append-nil asks)) k)),
)
over_steps P Q lasts before conn asks written x y (Does did ∷ steps) life q kept k =
    let first = lasts.does before conn asks written x life.0 did life.1 q.0 kept.0 k in
    let later = over_steps P Q lasts before conn (asks ++ first.0) (written ++ written_by conn did) life.0 y steps life.2 q.1 kept.1 first.2 in (
      first.0 ++ later.0,
      later.1,
      heard_both (heard_by conn did) (heard_over conn steps) first.0 later.0 first.1 later.2,
      later.3,
      joined P (before_next before (renewals steps) later.1) (number_over conn steps) asks first.0 later.0 written (written_by conn did) (written_over conn steps) y later.4,
    )
over_steps P Q lasts before conn asks written x y (Moves ∷ steps) life q kept k =
    let first = lasts.moves before conn asks written x life.0 life.1 k in
    let later = over_steps P Q lasts before conn (asks ++ first.0) (written ++ []) life.0 y steps life.2 q.1 kept.1 first.2 in (
      first.0 ++ later.0,
      later.1,
      heard_both [] (heard_over conn steps) first.0 later.0 first.1 later.2,
      later.3,
      joined P (before_next before (renewals steps) later.1) (number_over conn steps) asks first.0 later.0 written [] (written_over conn steps) y later.4,
    )
over_steps P Q lasts before conn asks written x y (Renews r ∷ steps) life q kept k =
    let number : ℕ = number_at r.numbers conn in
    let first = lasts.moves before conn asks written x r.ended life.1.0 k in
    let told = lasts.renews before conn (asks ++ first.0) (written ++ []) r life.1.1 first.2 in
    let next : Before = record { notes = before.notes ++ told.0; places = places_of r } in
    let story : P next number (asks ++ first.0) (written ++ []) life.0 = subst (λ (z : ServedValue). P next number (asks ++ first.0) (written ++ []) z) (sym life.1.2) told.2 in
    let later = over_steps P Q lasts next number (asks ++ first.0) (written ++ []) life.0 y steps life.2 q.1 kept.1 story in (
      first.0 ++ later.0,
      told.0 ∷ later.1,
      heard_both [] (heard_over number steps) first.0 later.0 first.1 later.2,
      (told.1, later.3),
      joined P (before_next next (renewals steps) later.1) (number_over number steps) asks first.0 later.0 written [] (written_over number steps) y later.4,
    )

-- ---- a client that stays

-- what a ring's own moves bring to a story
moved_story : (before : Before) (conn : ℕ) (asks : List Ask) (written : List ℕ) (x y : ServedValue) → MovesOn x y → StoryAt before conn asks written x → GoesOnBy StoryAt before conn asks written [] [] y
moved_story before conn asks written x y moves k =
    let s = over_run x y moves.0.0 moves.0.2 before conn asks written (own_kept conn moves.0.0 moves.0.1) k in
    (s.0, sym (own_silent conn moves.0.0 moves.0.1).0 ∙ s.1, subst (λ (w : List ℕ). StoryAt before conn (asks ++ s.0) (written ++ w) y) (own_silent conn moves.0.0 moves.0.1).1 s.2)

stories_last : Lasts StoryAt (λ step. Unit {0})
stories_last = record {
  does = λ before conn asks written x y did go any kept k. one_call before conn asks written x y did go kept k;
  moves = moved_story;
  renews = λ before conn asks written r is k. let next = next_story before conn asks written r is k in (k.story.notes, next.told, next.story);
}

any_steps : (steps : List Step) → AllByRecursion (λ (step : Step). Unit {0}) steps
any_steps [] = tt
any_steps (step ∷ steps) = (tt, any_steps steps)

over_life : (before : Before) (conn : ℕ) (asks : List Ask) (written : List ℕ) (x y : ServedValue) (steps : List Step) → Life x steps y → IsKeptOver conn steps → StoryAt before conn asks written x → IsToldOver before conn asks written steps y
over_life before conn asks written x y steps life kept k = over_steps StoryAt (λ step. Unit {0}) stories_last before conn asks written x y steps life (any_steps steps) kept k

-- ---- a client that comes

-- as many desks as connections, and so many of them
pub record AreSoMany (count : ℕ) (x : ServedValue) : Type 0 where
  pub desks : length x.desks ≡ count
  pub clients : length x.desks ≡ length x.node.clients

grown : (n count : ℕ) (x y : ServedValue) → Grows n x y → AreSoMany count x → AreSoMany (count + n) y
grown n count x y g h = record { desks = omega (arith, g.desks, h.desks); clients = omega (arith, g.desks, g.clients, h.clients) }

pub so_many : (count : ℕ) (x y : ServedValue) (step : Step) → GoesBy x step y → AreSoMany count x → AreSoMany (count_by count step) y
so_many count x y (Does did) go h = grown (arrives did) count x y (grows x y did go) h
so_many count x y Moves go h = subst (λ (n : ℕ). AreSoMany n y) (omega arith) (grown 0 count x y (own_grows x y go.0.0 go.0.1 go.0.2) h)
so_many count x y (Renews r) go h =
    let ended : AreSoMany (count + 0) r.ended = grown 0 count x r.ended (own_grows x r.ended go.0.0.0 go.0.0.1 go.0.0.2) h in
    let renewed = go.1.1.2 in
    let many : length r.next.desks ≡ length r.next.node.clients = as_many go.1.1.0 go.1.1.1 r.numbers r.ended.node r.next.node r.ended.desks r.next.desks r.next.greeting ended.clients renewed.node renewed.desks in
    subst (AreSoMany (length r.next.desks)) (sym go.2) (record { desks = refl; clients = many })

-- a life is cut where a client comes
comes : (count : ℕ) (x y : ServedValue) (first after : List Step) (pid : ℕ) (cred : Cred) → AreSoMany count x → Life x (first ++ Does (Arrives pid cred) ∷ after) y
    → (z : ServedValue) × AreSoMany (count_over count first) z × Life (arrived z pid cred) after y
comes count x y [] after pid cred many life = (x, many, subst (λ (z : ServedValue). Life z after y) life.1 life.2)
comes count x y (step ∷ first) after pid cred many life = comes (count_by count step) life.0 y first after pid cred (so_many count x life.0 step life.1 many) life.2

newcomers_in_life : (x y : ServedValue) (steps : List Step) → length x.desks ≡ length x.node.clients → Life x steps y → AllThatNewcomersAreToldInLife x steps y
newcomers_in_life x y steps many life = λ first after pid cred e kept.
    let c = comes (length x.desks) x y first after pid cred (record { desks = refl; clients = many }) (subst (λ (l : List Step). Life x l y) e life) in
    let story : StoryAt nothing_before (next_comer x first) [] [] (arrived c.0 pid cred) = subst (λ (n : ℕ). StoryAt nothing_before (suc n) [] [] (arrived c.0 pid cred)) c.1.desks (begins pid cred c.0 c.1.clients) in
    over_life nothing_before (next_comer x first) [] [] (arrived c.0 pid cred) y after c.2 kept story

-- ---- a client that is gone

-- a connection that ended has no number
ended_number : (n : ℕ) (cs : List Client) (i : ℕ) → if_open (slice_get cs i) ≡ None → number_in (slice_get (numbered n cs) i) ≡ 0
ended_number n [] i e = refl
ended_number n (c ∷ cs) zero e = by_end c.ended e
  where
    by_end : (b : Bool) → (if b then None else Some c) ≡ None → number_in (slice_get (if b then 0 ∷ numbered n cs else suc n ∷ numbered (suc n) cs) zero) ≡ 0
    by_end true e = refl
    by_end false e = absurd (none-some c (sym e))
ended_number n (c ∷ cs) (suc i) e = by_end c.ended (ended_number n cs i e) (ended_number (suc n) cs i e)
  where
    by_end : (b : Bool) → number_in (slice_get (numbered n cs) i) ≡ 0 → number_in (slice_get (numbered (suc n) cs) i) ≡ 0 → number_in (slice_get (if b then 0 ∷ numbered n cs else suc n ∷ numbered (suc n) cs) (suc i)) ≡ 0
    by_end true h k = h
    by_end false h k = k

no_number : (conn : ℕ) (r : Renewal) → IsRenewal r → IsGone conn r.ended → number_at r.numbers conn ≡ 0
no_number zero r is h = refl
no_number (suc i) r is h = ap (λ (l : List ℕ). number_in (slice_get l i)) is.1.2.node.renumbers ∙ ended_number 1 r.ended.node.clients i h.ended

gone_nobody : (x : ServedValue) → IsGone 0 x
gone_nobody x = record { ended = refl; known = omega arith; empty = λ d there. absurd (none-some d there) }

-- what one step leaves of it
record Leaves (conn : ℕ) (step : Step) (y : ServedValue) : Type 0 where
  pub gone : IsGone (number_by conn step) y
  pub heard : heard_in conn step ≡ []
  pub written : written_in conn step ≡ []

gone_in : (conn : ℕ) (x y : ServedValue) (step : Step) → GoesBy x step y → IsGone conn x → Leaves conn step y
gone_in conn x y (Does did) go h = let g = gone_by conn x y did go h in record { gone = g.0; heard = g.1; written = g.2 }
gone_in conn x y Moves go h = record { gone = (nothing_after x y go.0.0 go.0.2 conn h).0; heard = refl; written = refl }
gone_in conn x y (Renews r) go h =
    let ended : IsGone conn r.ended = (nothing_after x r.ended go.0.0.0 go.0.0.2 conn h).0 in
    record { gone = subst (λ (n : ℕ). IsGone n y) (sym (no_number conn r go.1 ended)) (gone_nobody y); heard = refl; written = refl }

gone_over : (conn : ℕ) (x y : ServedValue) (steps : List Step) → Life x steps y → IsGone conn x → IsGone (number_over conn steps) y × (heard_over conn steps ≡ []) × (written_over conn steps ≡ [])
gone_over conn x y [] life h = (subst (IsGone conn) (sym life) h, refl, refl)
gone_over conn x y (step ∷ steps) life h =
    let first = gone_in conn x life.0 step life.1 h in
    let later = gone_over (number_by conn step) life.0 y steps life.2 first.gone in
    (later.0, ap (λ (l : List ℕ). l ++ heard_over (number_by conn step) steps) first.heard ∙ later.1, ap (λ (l : List ℕ). l ++ written_over (number_by conn step) steps) first.written ∙ later.2)

pub lives_tell : LivesTell
lives_tell x y steps many life = record {
  told = λ before conn asks written kept k. over_life before conn asks written x y steps life kept k;
  newcomers = newcomers_in_life x y steps many life;
  after = λ conn h. gone_over conn x y steps life h;
}
