-- What is told in the end stays, however far it was told.
use Rattle.std.proofs.Common.{◌≡◌, ◌≢◌, ◌≤◌, ◌+◌, ℕ, zero, suc, Bool, true, false, cond, is_some, List, [], ◌∷◌, ◌++◌, map, length, drop, set, Option, Some, None, refl, sym, ap, subst, ◌∙◌, append_assoc, append-nil, arith}
use Rattle.std.specs.Prelude.{option_to_list, option_map}
use Rattle.std.specs.List.{flat_map, fold, slice_get}
use Rattle.std.proofs.lemmas.Grind.{flat_map-append}
use Rattle.std.proofs.lemmas.List.Sums.{fold-append}
use Rattle.std.proofs.lemmas.Option.{none-some, same_Some, slice_get_within}
use Rattle.cpg_ring.specs.Worlds.{item, with_item}
use Rattle.cpg_ring.proofs.Lists.{item_with_same, item_with_other}
use Rattle.cpg_record.specs.declared.events.Event.{Event}
use Rattle.cpg_node.specs.declared.connections.Client.{Client}
use Rattle.cpg_node.specs.Nodes.{NodeValue, inbox_of, open_client, if_open, asker_by}
use Rattle.cpg_node.specs.Calls.{next_event, took, node_after_take, counted, with_client}
use Rattle.cpg_ask.specs.Tells.{Tell, tell_bytes}
use Rattle.cpg_ask.proofs.Mapped.{length_mapped}
use Rattle.cpg_serve.specs.declared.desks.Owed.{Owed}
use Rattle.cpg_serve.specs.Answering.{asker_of}
use Rattle.cpg_serve.specs.Telling.{DeskValue, tells, event_tell, owed_after, bytes_of, spelled}
use Rattle.cpg_serve.specs.Asking.{At, at_of, IsAt}
use Rattle.cpg_serve.specs.Coming.{rest_of, left_of, IsCounted, GoesOn, next_by, next_of, fetched, takes}
use Rattle.cpg_serve.specs.Carrying.{HasTaken, anew}

-- ---- spelling the event that was taken

flat_option : (o : Option Tell) (more : List Tell) → flat_map tell_bytes (option_to_list o ++ more) ≡ bytes_of o ++ flat_map tell_bytes more
flat_option None more = refl
flat_option (Some tell) more = refl

-- ---- taking the next event

drop_at_item : {X : Type 0} (xs : List X) (i : ℕ) (y : X) → slice_get xs i ≡ Some y → drop i xs ≡ y ∷ drop (suc i) xs
drop_at_item [] i y e = absurd (none-some y e)
drop_at_item (x ∷ xs) zero y e = let same : x ≡ y = cc in ap (λ h. h ∷ xs) same
drop_at_item (x ∷ xs) (suc i) y e = drop_at_item xs i y e

drop_past : {X : Type 0} (xs : List X) (i : ℕ) → slice_get xs i ≡ None → drop i xs ≡ []
drop_past [] zero e = refl
drop_past [] (suc i) e = refl
drop_past (x ∷ xs) zero e = absurd cc
drop_past (x ∷ xs) (suc i) e = drop_past xs i e

-- an open connection is in the list, and did not end
pub open_is : (o : Option Client) (c : Client) → if_open o ≡ Some c → (o ≡ Some c) × (c.ended ≡ false)
open_is None c e = absurd (none-some c e)
open_is (Some k) c e =
    let P : Bool → Type 0 = λ b. k.ended ≡ b → cond b None (Some k) ≡ Some c → (Some k ≡ Some c) × (c.ended ≡ false) in
    let cases : (b : Bool) → P b = λ b. elim b as P [
      | true ↦ λ is e. absurd (none-some c e)
      | false ↦ λ is e. (e, subst (λ (m : Client). m.ended ≡ false) (same_Some k c e) is)
    ] in
    cases k.ended refl e

if_open_of : (c : Client) → c.ended ≡ false → if_open (Some c) ≡ Some c
if_open_of c e = rw e refl

-- what is left after the next event was taken
took_left : (x : NodeValue) (conn : ℕ) (c : Client) (next : Option Event) → open_client x conn ≡ Some c → next_event x conn c ≡ next
    → option_to_list next ++ rest_of (counted x conn c next) conn (open_client (counted x conn c next) conn) ≡ drop c.taken (inbox_of x conn)
took_left x conn c None found is = ap (rest_of x conn) found
took_left x conn c (Some event) found is =
    let at = open_is (item x.clients conn) c found in
    let more : Client = record c { taken = suc c.taken } in
    let there : item (with_item x.clients conn more) conn ≡ Some more = item_with_same x.clients conn more c at.0 in
    let opened : if_open (item (with_item x.clients conn more) conn) ≡ Some more = ap if_open there ∙ if_open_of more at.1 in
    ap (λ (o : Option Client). event ∷ rest_of (with_client x conn more) conn o) opened ∙ sym (drop_at_item (inbox_of x conn) c.taken event is)

fetched_by : (conn : ℕ) (x : NodeValue) (o : Option Client) → open_client x conn ≡ o
    → option_to_list (next_by x conn o) ++ rest_of (node_after_take x conn o) conn (open_client (node_after_take x conn o) conn) ≡ rest_of x conn o
fetched_by conn x None e = ap (rest_of x conn) e
fetched_by conn x (Some c) e = took_left x conn c (next_event x conn c) e refl

pub fetched_left : (conn : ℕ) (s : At) → s.desk.next ≡ None → left_of conn (fetched conn s) ≡ left_of conn s
fetched_left conn s e = fetched_by conn s.node (open_client s.node conn) refl ∙ rw e refl

-- nothing is left where no event comes
none_by : (conn : ℕ) (x : NodeValue) (o : Option Client) → next_by x conn o ≡ None → rest_of x conn o ≡ []
none_by conn x None e = refl
none_by conn x (Some c) e = drop_past (inbox_of x conn) c.taken e

pub none_left : (conn : ℕ) (s : At) → s.desk.next ≡ None → next_of s.node conn ≡ None → left_of conn s ≡ []
none_left conn s e next = rw e (none_by conn s.node (open_client s.node conn) next)

-- ---- one event is told

pub spelled_next : (d : DeskValue) (next : Option Event) → d.next ≡ next → (spelled d next).next ≡ None
spelled_next d None e = e
spelled_next d (Some event) e = refl

pub told_one : (conn : ℕ) (x : NodeValue) (d : DeskValue) (next : Option Event) → d.next ≡ next → is_some next ≡ true
    → length (left_of conn (at_of x d)) ≡ suc (length (left_of conn (at_of x (spelled d next))))
told_one conn x d None e some = absurd cc
told_one conn x d (Some event) e some = rw e refl

-- ---- the same, of a node and a desk that are told by equations

pub at_same : (x : NodeValue) (d : DeskValue) (s : At) → IsAt x d s → at_of x d ≡ s
at_same x d s h = ap (λ (y : NodeValue). at_of y d) h.0 ∙ ap (λ (e : DeskValue). at_of s.node e) h.1

is_none : (o : Option Event) → is_some o ≡ false → o ≡ None
is_none None e = refl
is_none (Some event) e = absurd cc

pub fetched_none : (conn : ℕ) (x y : NodeValue) (d e : DeskValue) → d.next ≡ None → is_some (next_of x conn) ≡ false → IsAt y e (fetched conn (at_of x d))
    → (e.next ≡ None) × (left_of conn (at_of y e) ≡ [])
fetched_none conn x y d e empty over h =
    let none : next_of x conn ≡ None = is_none (next_of x conn) over in
    (ap (λ (k : DeskValue). k.next) h.1 ∙ none, ap (left_of conn) (at_same y e (fetched conn (at_of x d)) h) ∙ fetched_left conn (at_of x d) empty ∙ none_left conn (at_of x d) empty none)

pub spelled_one : (conn : ℕ) (x y : NodeValue) (d e f : DeskValue) → d.next ≡ None → is_some (next_of x conn) ≡ true → IsAt y e (fetched conn (at_of x d)) → f ≡ spelled e e.next
    → (f.next ≡ None) × (length (left_of conn (at_of x d)) ≡ suc (length (left_of conn (at_of y f))))
spelled_one conn x y d e f empty some h is =
    let next : e.next ≡ next_of x conn = ap (λ (k : DeskValue). k.next) h.1 in
    let there : is_some e.next ≡ true = ap is_some next ∙ some in (
      ap (λ (k : DeskValue). k.next) is ∙ spelled_next e e.next refl,
      ap (λ (l : List Event). length l) (sym (fetched_left conn (at_of x d) empty) ∙ ap (left_of conn) (sym (at_same y e (fetched conn (at_of x d)) h)))
          ∙ told_one conn y e e.next refl there
          ∙ ap (λ (k : DeskValue). suc (length (left_of conn (at_of y k)))) (sym is),
    )

-- ---- the same connections as before, but for what they took

set_anew : (cs : List Client) (i : ℕ) (c k : Client) → slice_get cs i ≡ Some c → anew k ≡ anew c → map anew (set cs i k) ≡ map anew cs
set_anew [] i c k at same = absurd (none-some c at)
set_anew (d ∷ cs) zero c k at same = ap (λ (a : Client). a ∷ map anew cs) (same ∙ ap anew (sym (same_Some d c at)))
set_anew (d ∷ cs) (suc i) c k at same = ap (λ (l : List Client). anew d ∷ l) (set_anew cs i c k at same)

with_anew : (cs : List Client) (conn : ℕ) (c k : Client) → item cs conn ≡ Some c → anew k ≡ anew c → map anew (with_item cs conn k) ≡ map anew cs
with_anew cs zero c k at same = refl
with_anew cs (suc i) c k at same = set_anew cs i c k at same

pub counted_counted : (x : NodeValue) (conn : ℕ) (c : Client) (next : Option Event) → open_client x conn ≡ Some c → next_event x conn c ≡ next → IsCounted conn x → IsCounted conn (counted x conn c next)
counted_counted x conn c None found is h = h
counted_counted x conn c (Some event) found is h = λ d at_d.
    let at = open_is (item x.clients conn) c found in
    let more : Client = record c { taken = suc c.taken } in
    let there : item (with_item x.clients conn more) conn ≡ Some more = item_with_same x.clients conn more c at.0 in
    let opened : if_open (item (with_item x.clients conn more) conn) ≡ Some more = ap if_open there ∙ if_open_of more at.1 in
    let same : more ≡ d = same_Some more d (sym opened ∙ at_d) in
    let within : suc c.taken ≤ length (inbox_of x conn) = slice_get_within (inbox_of x conn) c.taken event is in
    subst (λ (k : Client). k.taken ≤ length (inbox_of x conn)) same within

asker_counted : (x : NodeValue) (conn : ℕ) (c : Client) (next : Option Event) → open_client x conn ≡ Some c → asker_of (counted x conn c next) conn ≡ asker_of x conn
asker_counted x conn c None found = refl
asker_counted x conn c (Some event) found =
    let at = open_is (item x.clients conn) c found in
    let more : Client = record c { taken = suc c.taken } in
    let there : item (with_item x.clients conn more) conn ≡ Some more = item_with_same x.clients conn more c at.0 in
    ap (λ (o : Option Client). option_map (asker_by x) (if_open o)) there ∙ ap (option_map (asker_by x)) (if_open_of more at.1) ∙ sym (ap (option_map (asker_by x)) found)

asker_by_take : (x : NodeValue) (conn : ℕ) (o : Option Client) → open_client x conn ≡ o → asker_of (node_after_take x conn o) conn ≡ asker_of x conn
asker_by_take x conn None e = refl
asker_by_take x conn (Some c) e = asker_counted x conn c (next_event x conn c) e

-- ---- taking, once and more often

pub taken_none : (conn : ℕ) (x : NodeValue) → HasTaken conn x x
taken_none conn x = record { ring = refl; list = refl; clients = refl; counted = λ h. h; others = λ other apart. refl }

pub taken_then : (conn : ℕ) (x y z : NodeValue) → HasTaken conn x y → HasTaken conn y z → HasTaken conn x z
taken_then conn x y z h k = record {
  ring = k.ring ∙ h.ring;
  list = k.list ∙ h.list;
  clients = k.clients ∙ h.clients;
  counted = λ c. k.counted (h.counted c);
  others = λ other apart. k.others other apart ∙ h.others other apart;
}

took_by : (conn : ℕ) (x : NodeValue) (c : Client) (next : Option Event) → open_client x conn ≡ Some c → next_event x conn c ≡ next → HasTaken conn x (counted x conn c next)
took_by conn x c None e is = taken_none conn x
took_by conn x c (Some event) e is = record {
  ring = refl;
  list = refl;
  clients = with_anew x.clients conn c (record c { taken = suc c.taken }) (open_is (item x.clients conn) c e).0 refl;
  counted = counted_counted x conn c (Some event) e is;
  others = λ other apart. item_with_other x.clients conn other (record c { taken = suc c.taken }) apart;
}

took_one : (conn : ℕ) (x : NodeValue) (o : Option Client) → open_client x conn ≡ o → HasTaken conn x (node_after_take x conn o)
took_one conn x None e = taken_none conn x
took_one conn x (Some c) e = took_by conn x c (next_event x conn c) e refl

pub took_is : (conn : ℕ) (x y : NodeValue) → y ≡ took x conn → HasTaken conn x y
took_is conn x y is = subst (HasTaken conn x) (sym is) (took_one conn x (open_client x conn) refl)

takes_all : (more conn : ℕ) (x : NodeValue) → HasTaken conn x (takes more conn x)
takes_all zero conn x = taken_none conn x
takes_all (suc more) conn x = taken_then conn x (took x conn) (takes more conn (took x conn)) (took_is conn x (took x conn) refl) (takes_all more conn (took x conn))

takes_then : (some more conn : ℕ) (x : NodeValue) → takes (some + more) conn x ≡ takes more conn (takes some conn x)
takes_then zero more conn x = let e : zero + more ≡ more = omega arith in ap (λ n. takes n conn x) e
takes_then (suc some) more conn x = let e : suc some + more ≡ suc (some + more) = omega arith in ap (λ n. takes n conn x) e ∙ takes_then some more conn (took x conn)

asker_takes : (more conn : ℕ) (x : NodeValue) → asker_of (takes more conn x) conn ≡ asker_of x conn
asker_takes zero conn x = refl
asker_takes (suc more) conn x = asker_takes more conn (took x conn) ∙ asker_by_take x conn (open_client x conn) refl

-- ---- the client goes on as before

tells_then : (owed : List Owed) (events more : List Event) → tells owed (events ++ more) ≡ tells owed events ++ tells (fold owed_after owed events) more
tells_then owed [] more = refl
tells_then owed (e ∷ es) more =
    ap (λ (l : List Tell). option_to_list (event_tell (slice_get owed 0) e) ++ l) (tells_then (owed_after owed e) es more)
    ∙ sym (append_assoc (option_to_list (event_tell (slice_get owed 0) e)) (tells (owed_after owed e) es) (tells (fold owed_after (owed_after owed e) es) more))

pub goes_taken : {conn : ℕ} {s t : At} → GoesOn conn s t → HasTaken conn s.node t.node
goes_taken {conn} {s} {t} h = subst (HasTaken conn s.node) (sym h.node) (takes_all h.taken conn s.node)

pub goes_asker : {conn : ℕ} {s t : At} → GoesOn conn s t → asker_of t.node conn ≡ asker_of s.node conn
goes_asker {conn} {s} {t} h = ap (λ (x : NodeValue). asker_of x conn) h.node ∙ asker_takes h.taken conn s.node

pub goes_count : {conn : ℕ} {s t : At} → GoesOn conn s t → length t.node.clients ≡ length s.node.clients
goes_count {conn} {s} {t} h = sym (length_mapped anew t.node.clients) ∙ ap (λ (l : List Client). length l) (goes_taken h).clients ∙ length_mapped anew s.node.clients

pub goes_same : (conn : ℕ) (s : At) → GoesOn conn s s
goes_same conn s = record { taken = 0; node = refl; first = []; left = refl; owed = refl; out = sym (append-nil s.desk.out); greeting = refl }

pub goes_then : (conn : ℕ) (s t u : At) → GoesOn conn s t → GoesOn conn t u → GoesOn conn s u
goes_then conn s t u h k =
    let one : List ℕ = flat_map tell_bytes (tells s.desk.owed h.first) in
    let two : List ℕ = flat_map tell_bytes (tells t.desk.owed k.first) in
    record {
      taken = h.taken + k.taken;
      node = k.node ∙ ap (takes k.taken conn) h.node ∙ sym (takes_then h.taken k.taken conn s.node);
      first = h.first ++ k.first;
      left = h.left ∙ ap (λ (l : List Event). h.first ++ l) k.left ∙ sym (append_assoc h.first k.first (left_of conn u));
      owed = k.owed ∙ ap (λ (o : List Owed). fold owed_after o k.first) h.owed ∙ sym (fold-append owed_after s.desk.owed h.first k.first);
      out = k.out ∙ ap (λ (l : List ℕ). l ++ two) h.out ∙ append_assoc s.desk.out one two
          ∙ ap (λ (o : List Owed). s.desk.out ++ (one ++ flat_map tell_bytes (tells o k.first))) h.owed
          ∙ ap (λ (l : List ℕ). s.desk.out ++ l) (sym (ap (flat_map tell_bytes) (tells_then s.desk.owed h.first k.first) ∙ flat_map-append tell_bytes (tells s.desk.owed h.first) (tells (fold owed_after s.desk.owed h.first) k.first)));
      greeting = k.greeting ∙ h.greeting;
    }

goes_by : (conn : ℕ) (x : NodeValue) (d : DeskValue) (next : Option Event) → d.next ≡ next → GoesOn conn (at_of x d) (at_of x (spelled d next))
goes_by conn x d None e = goes_same conn (at_of x d)
goes_by conn x d (Some event) e = record {
  taken = 0;
  node = refl;
  first = event ∷ [];
  left = rw e refl;
  owed = refl;
  out = ap (λ (l : List ℕ). d.out ++ l) (sym (flat_option (event_tell (slice_get d.owed 0) event) [] ∙ append-nil (bytes_of (event_tell (slice_get d.owed 0) event))));
  greeting = refl;
}

pub goes_spelled : (conn : ℕ) (x : NodeValue) (d e : DeskValue) → e ≡ spelled d d.next → GoesOn conn (at_of x d) (at_of x e)
goes_spelled conn x d e is = subst (λ (k : DeskValue). GoesOn conn (at_of x d) (at_of x k)) (sym is) (goes_by conn x d d.next refl)

goes_took : (conn : ℕ) (s : At) → s.desk.next ≡ None → GoesOn conn s (fetched conn s)
goes_took conn s e = record {
  taken = suc zero;
  node = refl;
  first = [];
  left = sym (fetched_left conn s e);
  owed = refl;
  out = sym (append-nil s.desk.out);
  greeting = refl;
}

pub goes_fetched : (conn : ℕ) (x y : NodeValue) (d e : DeskValue) → d.next ≡ None → IsAt y e (fetched conn (at_of x d)) → GoesOn conn (at_of x d) (at_of y e)
goes_fetched conn x y d e empty h = subst (λ (t : At). GoesOn conn (at_of x d) t) (sym (at_same y e (fetched conn (at_of x d)) h)) (goes_took conn (at_of x d) empty)

pub goes_both : (conn : ℕ) (x y : NodeValue) (d e f : DeskValue) → d.next ≡ None → IsAt y e (fetched conn (at_of x d)) → f ≡ spelled e e.next → GoesOn conn (at_of x d) (at_of y f)
goes_both conn x y d e f empty h is = goes_then conn (at_of x d) (at_of y e) (at_of y f) (goes_fetched conn x y d e empty h) (goes_spelled conn y e f is)

pub spelled_empty : (d e : DeskValue) → e ≡ spelled d d.next → e.next ≡ None
spelled_empty d e is = ap (λ (k : DeskValue). k.next) is ∙ spelled_next d d.next refl
