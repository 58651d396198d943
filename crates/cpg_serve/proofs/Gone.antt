-- A client that is gone stays so.
use Rattle.std.proofs.Common.{◌≡◌, ◌≢◌, ◌≤◌, ℕ, zero, suc, true, false, Bool, cond, eqb, is_some, List, [], ◌∷◌, ◌++◌, length, set, take, Option, Some, None, Result, refl, sym, ap, subst, ◌∙◌, append-nil, length-append, arith}
use Rattle.std.specs.Prelude.{option_to_list}
use Rattle.std.specs.List.{flat_map, fold, slice_get}
use Rattle.std.proofs.lemmas.Bool.{eqb-true}
use Rattle.std.proofs.lemmas.Option.{none-some, same_Some}
use Rattle.cpg_cred.specs.declared.refusals.Refusal.{Refusal}
use Rattle.cpg_ring.specs.Worlds.{item, with_item}
use Rattle.cpg_ring.proofs.Lists.{item_with_same, item_with_other, length-with_item}
use Rattle.cpg_record.specs.declared.events.Event.{Event}
use Rattle.cpg_node.specs.declared.connections.Client.{Client}
use Rattle.cpg_node.specs.Nodes.{NodeValue, open_client, if_open, asker_by}
use Rattle.cpg_node.specs.Calls.{ended_by}
use Rattle.cpg_serve.specs.declared.hearing.Stop.{Stop}
use Rattle.cpg_cred.specs.declared.credentials.Cred.{Cred}
use Rattle.cpg_ask.specs.declared.greetings.Greeting.{Greeting}
use Rattle.cpg_ask.specs.Tells.{tell_bytes}
use Rattle.cpg_serve.specs.declared.desks.Owed.{Owed}
use Rattle.cpg_serve.specs.Telling.{DeskValue, new_desk, wrote, tells, owed_after}
use Rattle.cpg_serve.specs.Asking.{At, at_of}
use Rattle.cpg_serve.specs.Coming.{GoesOn, left_of, rest_of}
use Rattle.cpg_serve.specs.Serving.{ServedValue, arrived, parted, IsHeard, IsToldAt, IsCaughtUp, IsWritten}
use Rattle.cpg_serve.specs.Runs.{Did, Arrives, Hears, Frames, Delivers, Tells, Writes, Loses, Nothing, Run, Goes, IsGone, heard_by, written_by, LostIsGone, NothingAfterTheEnd}
use Rattle.cpg_serve.proofs.Coming.{goes_asker, goes_count, goes_taken, open_is}
use Rattle.cpg_serve.proofs.OneByOne.{all_leave, ended_count}
use Rattle.cpg_serve.proofs.Noted.{some_mapped, is_there}
use Rattle.cpg_serve.proofs.Running.{is_other, within, front}

abbrev desk_of : Greeting → List Owed → Option Event → List ℕ → DeskValue
desk_of g owed next out = record { greeting = g; owed = owed; next = next; out = out }

-- a desk is one of those, or the last
own_last : (ds : List DeskValue) (e d : DeskValue) (n : ℕ) → (item ds n ≡ Some d → d ≡ e) → item (ds ++ e ∷ []) n ≡ Some d → d ≡ e
own_last ds e d zero h k = absurd (none-some d k)
own_last ds e d (suc i) h k = by_place ds i h k
  where
    by_place : (l : List DeskValue) (j : ℕ) → (slice_get l j ≡ Some d → d ≡ e) → slice_get (l ++ e ∷ []) j ≡ Some d → d ≡ e
    by_place [] zero f g = sym (same_Some e d g)
    by_place [] (suc j) f g = absurd (none-some d g)
    by_place (x ∷ l) zero f g = f g
    by_place (x ∷ l) (suc j) f g = by_place l j f g

-- what was put at a place is there, if anything is
own_put : (ds : List DeskValue) (n : ℕ) (e d : DeskValue) → item (with_item ds n e) n ≡ Some d → d ≡ e
own_put ds zero e d k = absurd (none-some d k)
own_put ds (suc i) e d k = by_place ds i k
  where
    by_place : (l : List DeskValue) (j : ℕ) → slice_get (set l j e) j ≡ Some d → d ≡ e
    by_place [] j g = absurd (none-some d g)
    by_place (x ∷ l) zero g = sym (same_Some e d g)
    by_place (x ∷ l) (suc j) g = by_place l j g

-- ---- one call

-- the client stays gone where its desk and its connection are as they were
gone_stays : (conn : ℕ) (x y : ServedValue) → IsGone conn x → y.greeting ≡ x.greeting → item y.node.clients conn ≡ item x.node.clients conn → length x.node.clients ≤ length y.node.clients
    → item y.desks conn ≡ item x.desks conn → IsGone conn y
gone_stays conn x y h greeting client more desk = record {
  ended = ap if_open client ∙ h.ended;
  known = omega (arith, h.known, more);
  empty = λ d there. h.empty d (sym desk ∙ there) ∙ ap new_desk (sym greeting);
}

gone_arrived : (conn : ℕ) (x : ServedValue) (pid : ℕ) (cred : Cred) → IsGone conn x → IsGone conn (arrived x pid cred)
gone_arrived conn x pid cred h = record {
  ended = ap if_open (front x.node.clients _ conn h.known) ∙ h.ended;
  known = omega (arith, h.known, length-append x.node.clients (record { pid = pid; cred = cred; ended = false; taken = 0 } ∷ []));
  empty = λ d there. own_last x.desks (new_desk x.greeting) d conn (h.empty d) there;
}

-- a client that is heard is not gone
gone_not_heard : (conn : ℕ) (x y : ServedValue) (bytes : List ℕ) (count : ℕ) (stop : Stop) → IsHeard conn x bytes count stop y → IsGone conn x → ⊥
gone_not_heard conn x y bytes count stop k h = let bad : false ≡ true = sym (ap is_some h.ended) ∙ k.alive in absurd cc

gone_heard : (conn by : ℕ) (x y : ServedValue) (bytes : List ℕ) (count : ℕ) (stop : Stop) (b : Bool) → eqb by conn ≡ b → IsHeard by x bytes count stop y → IsGone conn x → IsGone conn y × (cond b (take count bytes) [] ≡ [])
gone_heard conn by x y bytes count stop true e k h = absurd (gone_not_heard conn x y bytes count stop (subst (λ (n : ℕ). IsHeard n x bytes count stop y) (eqb-true by conn e) k) h)
gone_heard conn by x y bytes count stop false e k h =
    let same : y.node.clients ≡ x.node.clients = ap (λ (t : At). t.node.clients) k.did.so.done ∙ (all_leave by (at_of x.node k.old) k.did.so.turns).clients in (
      gone_stays conn x y h k.greeting (ap (λ cs. item cs conn) same) (omega (arith, ap (λ (cs : List Client). length cs) same))
          (ap (λ ds. item ds conn) k.others ∙ item_with_other x.desks by conn k.new (is_other by conn e)),
      refl,
    )

-- nothing is left to tell
nothing_in : {X : Type 0} (xs ys : List X) → [] ≡ xs ++ ys → (xs ≡ []) × (ys ≡ [])
nothing_in [] ys e = (refl, sym e)
nothing_in (x ∷ xs) ys e = absurd cc

none_in : (o : Option Event) (rest : List Event) → option_to_list o ++ rest ≡ [] → o ≡ None
none_in None rest e = refl
none_in (Some event) rest e = absurd cc

none_of : (o : Option Client) → is_some o ≡ false → o ≡ None
none_of None e = refl
none_of (Some c) e = absurd cc

rest_none : (x : NodeValue) (conn : ℕ) (o : Option Client) → o ≡ None → rest_of x conn o ≡ []
rest_none x conn o e = ap (rest_of x conn) e

desk_is : (d : DeskValue) (g : Greeting) → d.greeting ≡ g → d.owed ≡ [] → d.next ≡ None → d.out ≡ [] → d ≡ new_desk g
desk_is d g a b c e =
    ap (λ x. desk_of x d.owed d.next d.out) a ∙ ap (λ x. desk_of g x d.next d.out) b ∙ ap (λ x. desk_of g [] x d.out) c ∙ ap (λ x. desk_of g [] None x) e

-- what goes on from an empty desk of a connection that ended
told_nothing : (conn : ℕ) (s t : At) → open_client s.node conn ≡ None → s.desk ≡ new_desk s.desk.greeting → GoesOn conn s t → (t.desk ≡ new_desk s.desk.greeting) × (open_client t.node conn ≡ None)
told_nothing conn s t ended empty k =
    let nothing : left_of conn s ≡ [] = ap (λ (d : DeskValue). option_to_list d.next ++ rest_of s.node conn (open_client s.node conn)) empty ∙ rest_none s.node conn (open_client s.node conn) ended in
    let parts = nothing_in k.first (left_of conn t) (sym nothing ∙ k.left) in
    let next : t.desk.next ≡ None = none_in t.desk.next (rest_of t.node conn (open_client t.node conn)) parts.1 in
    let owed : t.desk.owed ≡ [] = k.owed ∙ ap (λ (es : List Event). fold owed_after s.desk.owed es) parts.0 ∙ ap (λ (d : DeskValue). d.owed) empty in
    let out : t.desk.out ≡ [] = k.out ∙ ap (λ (es : List Event). s.desk.out ++ flat_map tell_bytes (tells s.desk.owed es)) parts.0 ∙ append-nil s.desk.out ∙ ap (λ (d : DeskValue). d.out) empty in
    let closed : open_client t.node conn ≡ None =
    none_of (open_client t.node conn) (sym (some_mapped (asker_by t.node) (open_client t.node conn)) ∙ ap is_some (goes_asker k) ∙ some_mapped (asker_by s.node) (open_client s.node conn) ∙ ap is_some ended) in
    (desk_is t.desk s.desk.greeting k.greeting owed next out, closed)

gone_told_own : (conn : ℕ) (x y : ServedValue) (result : Result Unit Refusal) → IsToldAt conn x (new_desk x.greeting) result y → IsGone conn x → IsGone conn y
gone_told_own conn x y result k h =
    let t = told_nothing conn (at_of x.node (new_desk x.greeting)) (at_of y.node k.new) h.ended refl k.goes in
    record {
      ended = t.1;
      known = omega (arith, h.known, goes_count k.goes);
      empty = λ d there. own_put x.desks conn k.new d (sym (ap (λ ds. item ds conn) k.others) ∙ there) ∙ t.0 ∙ ap new_desk (sym k.greeting);
    }

gone_told_same : (conn : ℕ) (x y : ServedValue) (result : Result Unit Refusal) (o : Option DeskValue) → item x.desks conn ≡ o → IsCaughtUp conn x o result y → IsGone conn x → IsGone conn y
gone_told_same conn x y result None e k h = subst (IsGone conn) (sym k.1) h
gone_told_same conn x y result (Some old) e k h = gone_told_own conn x y result (subst (λ (d : DeskValue). IsToldAt conn x d result y) (h.empty old e) k) h

gone_told_other : (conn by : ℕ) (x y : ServedValue) (result : Result Unit Refusal) (o : Option DeskValue) → conn ≢ by → IsCaughtUp by x o result y → IsGone conn x → IsGone conn y
gone_told_other conn by x y result None is k h = subst (IsGone conn) (sym k.1) h
gone_told_other conn by x y result (Some old) is k h =
    gone_stays conn x y h k.greeting ((goes_taken k.goes).others conn is) (omega (arith, goes_count k.goes)) (ap (λ ds. item ds conn) k.others ∙ item_with_other x.desks by conn k.new is)

gone_told : (conn by : ℕ) (x y : ServedValue) (result : Result Unit Refusal) (b : Bool) → eqb by conn ≡ b → IsCaughtUp by x (item x.desks by) result y → IsGone conn x → IsGone conn y
gone_told conn by x y result true e k h =
    gone_told_same conn x y result (item x.desks conn) refl (subst (λ (n : ℕ). IsCaughtUp n x (item x.desks n) result y) (eqb-true by conn e) k) h
gone_told conn by x y result false e k h = gone_told_other conn by x y result (item x.desks by) (is_other by conn e) k h

gone_written : (conn by : ℕ) (x y : ServedValue) (bytes : List ℕ) (b : Bool) → eqb by conn ≡ b → IsWritten by x bytes y → IsGone conn x → IsGone conn y × (cond b bytes [] ≡ [])
gone_written conn by x y bytes true e k h =
    let own : IsWritten conn x bytes y = subst (λ (n : ℕ). IsWritten n x bytes y) (eqb-true by conn e) k in
    let old : own.old ≡ new_desk x.greeting = h.empty own.old own.there in
    let none : bytes ≡ [] = (nothing_in bytes (wrote own.old (length bytes)).out (sym (ap (λ (d : DeskValue). d.out) old) ∙ own.front)).0 in
    let new : wrote own.old (length bytes) ≡ new_desk x.greeting = ap (λ (d : DeskValue). wrote d (length bytes)) old ∙ ap (λ (l : List ℕ). wrote (new_desk x.greeting) (length l)) none in (
      subst (IsGone conn) (sym own.after) (record {
        ended = h.ended;
        known = h.known;
        empty = λ d there. own_put x.desks conn (wrote own.old (length bytes)) d there ∙ new;
      }),
      none,
    )
gone_written conn by x y bytes false e k h = (
  subst (IsGone conn) (sym k.after) (record {
    ended = h.ended;
    known = h.known;
    empty = λ d there. h.empty d (sym (item_with_other x.desks by conn (wrote k.old (length bytes)) (is_other by conn e)) ∙ there);
  }),
  refl,
)

ended_other : (conn by : ℕ) (x : NodeValue) (o : Option Client) → conn ≢ by → item (ended_by x by o).clients conn ≡ item x.clients conn
ended_other conn by x None is = refl
ended_other conn by x (Some c) is = item_with_other x.clients by conn (record c { ended = true }) is

gone_lost : (conn by : ℕ) (x : ServedValue) (b : Bool) → eqb by conn ≡ b → IsGone conn x → IsGone conn (parted x by)
gone_lost conn by x true e h =
    let same : by ≡ conn = eqb-true by conn e in
    subst (λ (n : ℕ). IsGone conn (parted x n)) (sym same) (record {
      ended = ap (λ (o : Option Client). open_client (ended_by x.node conn o) conn) h.ended ∙ h.ended;
      known = subst (λ (o : Option Client). conn ≤ length (ended_by x.node conn o).clients) (sym h.ended) h.known;
      empty = λ d there. own_put x.desks conn (new_desk x.greeting) d there;
    })
gone_lost conn by x false e h =
    let count : length (parted x by).node.clients ≡ length x.node.clients = ended_count x.node by (open_client x.node by) in
    gone_stays conn x (parted x by) h refl (ended_other conn by x.node (open_client x.node by) (is_other by conn e)) (omega (arith, count)) (item_with_other x.desks by conn (new_desk x.greeting) (is_other by conn e))

-- what one call leaves of a client that is gone
abbrev pub Leaves : ℕ → Did → ServedValue → Type 0
Leaves conn did y = IsGone conn y × (heard_by conn did ≡ []) × (written_by conn did ≡ [])

pub gone_by : (conn : ℕ) (x y : ServedValue) (did : Did) → Goes x did y → IsGone conn x → Leaves conn did y
gone_by conn x y (Arrives pid cred) k h = (subst (IsGone conn) (sym k) (gone_arrived conn x pid cred h), refl, refl)
gone_by conn x y (Hears by bytes count stop) k h = let g = gone_heard conn by x y bytes count stop (eqb by conn) refl k h in (g.0, g.1, refl)
gone_by conn x y Frames k h = (gone_stays conn x y h k.greeting (ap (λ cs. item cs conn) k.clients) (omega (arith, ap (λ (cs : List Client). length cs) k.clients)) (ap (λ ds. item ds conn) k.desks), refl, refl)
gone_by conn x y Delivers k h = (subst (IsGone conn) (sym k) (record { ended = h.ended; known = h.known; empty = h.empty }), refl, refl)
gone_by conn x y (Tells by) k h = (gone_told conn by x y k.0 (eqb by conn) refl k.1 h, refl, refl)
gone_by conn x y (Writes by bytes) k h = let g = gone_written conn by x y bytes (eqb by conn) refl k h in (g.0, refl, g.1)
gone_by conn x y (Loses by) k h = (subst (IsGone conn) (sym k) (gone_lost conn by x (eqb by conn) refl h), refl, refl)
gone_by conn x y Nothing k h = (subst (IsGone conn) (sym k) h, refl, refl)

-- ---- a run

over : (conn : ℕ) (x y : ServedValue) (dids : List Did) → Run x dids y → IsGone conn x → IsGone conn y × (flat_map (heard_by conn) dids ≡ []) × (flat_map (written_by conn) dids ≡ [])
over conn x y [] k h = (subst (IsGone conn) (sym k) h, refl, refl)
over conn x y (did ∷ dids) k h =
    let first = gone_by conn x k.0 did k.1 h in
    let later = over conn k.0 y dids k.2 first.0 in
    (later.0, ap (λ (l : List ℕ). l ++ flat_map (heard_by conn) dids) first.1 ∙ later.1, ap (λ (l : List ℕ). l ++ flat_map (written_by conn) dids) first.2 ∙ later.2)

pub nothing_after : NothingAfterTheEnd
nothing_after x y dids k = λ conn h. over conn x y dids k h

-- ---- a client that is lost

ended_is : (x : NodeValue) (conn : ℕ) (c : Client) → open_client x conn ≡ Some c → open_client (ended_by x conn (Some c)) conn ≡ None
ended_is x conn c e =
    let at = open_is (item x.clients conn) c e in
    ap if_open (item_with_same x.clients conn (record c { ended = true }) c at.0)

pub lost_is_gone : LostIsGone
lost_is_gone before conn asks written x k =
    let c = is_there (open_client x.node conn) k.story.alive in
    let at = open_is (item x.node.clients conn) c.0 c.1 in
    let known : conn ≤ length x.node.clients = within x.node.clients conn c.0 at.0 in
    record {
      ended = ap (λ (o : Option Client). open_client (ended_by x.node conn o) conn) c.1 ∙ ended_is x.node conn c.0 c.1;
      known = subst (λ (o : Option Client). conn ≤ length (ended_by x.node conn o).clients) (sym c.1) (omega (arith, known, length-with_item x.node.clients conn (record c.0 { ended = true })));
      empty = λ d there. own_put x.desks conn (new_desk x.greeting) d there;
    }
