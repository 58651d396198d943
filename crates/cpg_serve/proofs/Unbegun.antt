-- Why the next ring does not begin, whole.
use Rattle.std.proofs.Common.{◌≡◌, ◌⊎◌, ◌<◌, ◌≤◌, ◌+◌, ℕ, zero, suc, Bool, true, false, not, List, [], ◌∷◌, ◌++◌, map, length, take, min, Option, Some, None, option_map, Ok, Err, Result, IfErr, refl, sym, ap, subst, ◌∙◌, inl, inr, ⊎_elim, arith, if◌then◌else◌}
use Rattle.std.specs.List.{AllByRecursion, slice_get}
use Rattle.std.proofs.Math.Seq.{take-length}
use Rattle.std.proofs.lemmas.Option.{none-some, slice_get-map}
use Rattle.cpg_cred.specs.Listed.{Listed}
use Rattle.cpg_cred.specs.declared.refusals.Refusal.{Refusal}
use Rattle.cpg_cred.specs.declared.refusals.Refusal.TheVariants as refusal
use Rattle.cpg_cred.specs.declared.refusals.Refused.{Refused}
use Rattle.cpg_entry.specs.declared.entries.Entry.{Entry}
use Rattle.cpg_entry.specs.declared.ranges.TheConstants.{MOST_CONNECTIONS}
use Rattle.cpg_record.specs.declared.records.Record.{Record}
use Rattle.cpg_record.specs.Membership.{Membership, memberships}
use Rattle.cpg_ring.specs.Answers.{IsAnswer}
use Rattle.cpg_ring.specs.Rings.{RingNode}
use Rattle.cpg_ring.specs.Worlds.{item}
use Rattle.cpg_ring.specs.declared.settings.Settings.{Settings}
use Rattle.cpg_node.specs.declared.connections.Client.{Client}
use Rattle.cpg_node.specs.Answers.{IsNodeMade, IsUnmade}
use Rattle.cpg_node.specs.Nodes.{NodeValue, if_open, new_value, open_client, records_of}
use Rattle.cpg_node.specs.Calls.{connect_refusal}
use Rattle.cpg_ask.proofs.Mapped.{length_mapped}
use Rattle.cpg_serve.specs.Renewing.{Root, all_inserts, held_by, seat_entry}
use Rattle.cpg_serve.specs.Carrying.{AreLetIn, AreOfOne, HasPut, HaveConnected, HaveJoined, IsBegun, IsFirst, IsRoot, anew, living, number_at, number_in, numbered, renumbered, table_of, tables_in}
use Rattle.cpg_serve.specs.Serving.{ServedValue}
use Rattle.cpg_serve.specs.Settling.{WhyMoving}
use Rattle.cpg_serve.specs.Refusals.{HasName, IsHeld, IsNamed, IsSeated, WhyNotBegun, WhyNotConnected, WhyNotFirst, WhyNotJoined, WhyNotPut, WhyNotRenewed, WhyShort, entry_count, rule_count}
use Rattle.cpg_serve.proofs.Begun.{connected_count}
use Rattle.cpg_serve.proofs.Coming.{open_is}
use Rattle.cpg_serve.proofs.Owned.{open_anew, open_back}
use Rattle.cpg_serve.proofs.Refused.{put_grows, root_part_why}
use Rattle.cpg_serve.proofs.Whole.{IsOpen, all_numbered, all_open, begun_ring, first_begun, first_open, is_root, open_still, root}

-- ---- the first node

pub node_why : (s : Settings) (list : Listed) (why : Refused Listed) → s.nodes ≡ 1 → IsNodeMade s 1 list (Err why) → (why.refusal ≡ refusal.Memory) ⊎ ((why.refusal ≡ refusal.Range) × ¬ AreOfOne s)
node_why s list why one h = by_why why.refusal h.1
  where
    by_why : (w : Refusal) → IsUnmade s 1 w → (w ≡ refusal.Memory) ⊎ ((w ≡ refusal.Range) × ¬ AreOfOne s)
    by_why refusal.Memory h = inl refl
    by_why refusal.Range h = inr (refl, λ of. h (of.1, omega (arith, one)))
    by_why w h = absurd h

-- the daemon's own connection is always let in
pub first_why : (s : Settings) (n : ℕ) (list : Listed) (x : NodeValue) (P : ℕ → Type 0) (why : Refusal) → x ≡ new_value s n list → IsAnswer (connect_refusal x (record { uid = 0; gid = 0 })) P (Err why) → WhyNotFirst s why
first_why s n list x P why is answer = inl (by_why why (subst (λ (z : NodeValue). IsAnswer (connect_refusal z (record { uid = 0; gid = 0 })) P (Err why)) is answer))
  where
    by_why : (w : Refusal) → IsAnswer None P (Err w) → w ≡ refusal.Memory
    by_why refusal.Memory answer = refl
    by_why w answer = absurd (none-some w answer)

pub range_why : (s : Settings) (list : Listed) (x : NodeValue) (why : Refusal) → (why ≡ refusal.Memory) ⊎ ((why ≡ refusal.Range) × ¬ AreOfOne s) → WhyNotBegun s list x why
range_why s list x why h = ⊎_elim
    (λ (e : why ≡ refusal.Memory). subst (WhyNotBegun s list x) (sym e) tt)
    (λ (k : (why ≡ refusal.Range) × ¬ AreOfOne s). subst (WhyNotBegun s list x) (sym k.0) k.1)
    h

pub memory_why : (s : Settings) (list : Listed) (x : NodeValue) (why : Refusal) → why ≡ refusal.Memory → WhyNotBegun s list x why
memory_why s list x why e = subst (WhyNotBegun s list x) (sym e) tt

pub many_why : (s : Settings) (list : Listed) (x first : NodeValue) (count : ℕ) → IsFirst s list first → count ≡ length x.clients → MOST_CONNECTIONS < count → WhyNotBegun s list x refusal.ConnectionsFull
many_why s list x first count h is many = (h.0, inr (omega (arith, is, many)))

pub not_at_rest : (s : Settings) (list : Listed) (x y : ServedValue) (why : Refusal) → WhyMoving x.node.ring y.node.ring why → WhyNotRenewed s list x y why
not_at_rest s list x y why h = inl h

-- ---- its parts

pub connects_why : (s : Settings) (list : Listed) (x first : NodeValue) (why : Refusal) → IsFirst s list first → WhyNotConnected first x.clients why → WhyNotBegun s list x why
connects_why s list x first why h k = ⊎_elim
    (λ (e : why ≡ refusal.Memory). memory_why s list x why e)
    (λ (q : ((why ≡ refusal.Access) × ¬ AreLetIn first.list x.clients) ⊎ ((why ≡ refusal.ConnectionsFull) × (MOST_CONNECTIONS < length first.clients + length (living x.clients)))). ⊎_elim
    (λ (p : (why ≡ refusal.Access) × ¬ AreLetIn first.list x.clients).
    subst (WhyNotBegun s list x) (sym p.0) (h.0, subst (λ (l : Listed). ¬ AreLetIn l x.clients) (ap (λ (y : NodeValue). y.list) h.1) p.1))
    (λ (p : (why ≡ refusal.ConnectionsFull) × (MOST_CONNECTIONS < length first.clients + length (living x.clients))).
    let one : length first.clients ≡ 1 = ap (λ (y : NodeValue). length y.clients) h.1 in
    subst (WhyNotBegun s list x) (sym p.0) (h.0, inl (omega (arith, one, p.1))))
    q)
    k

-- the place at which a client is among those that are open
record IsAmong (numbers : List ℕ) (alive : List Client) (n i : ℕ) (c : Client) : Type 0 where
  pub place : ℕ
  pub number : number_in (slice_get numbers i) ≡ n + suc place
  pub client : slice_get alive place ≡ Some c

is_among : (n : ℕ) (cs : List Client) (i : ℕ) (c : Client) → if_open (slice_get cs i) ≡ Some c → IsAmong (numbered n cs) (living cs) n i c
is_among n [] i c e = absurd (none-some c e)
is_among n (k ∷ cs) zero c e = by_end k.ended e
  where
    by_end : (b : Bool) → (if b then None else Some k) ≡ Some c → IsAmong (if b then 0 ∷ numbered n cs else suc n ∷ numbered (suc n) cs) (if not b then k ∷ living cs else living cs) n zero c
    by_end true e = absurd (none-some c e)
    by_end false e = record { place = 0; number = omega arith; client = e }
is_among n (k ∷ cs) (suc i) c e = by_end k.ended (is_among n cs i c e) (is_among (suc n) cs i c e)
  where
    by_end : (b : Bool) → IsAmong (numbered n cs) (living cs) n i c → IsAmong (numbered (suc n) cs) (living cs) (suc n) i c → IsAmong (if b then 0 ∷ numbered n cs else suc n ∷ numbered (suc n) cs) (if not b then k ∷ living cs else living cs) n (suc i) c
    by_end true h l = record { place = h.place; number = h.number; client = h.client }
    by_end false h l = record { place = suc l.place; number = omega (arith, l.number); client = l.client }

-- it is open at the next ring's node, too
still_open : (s : Settings) (list : Listed) (cs : List Client) (y : NodeValue) (conn : ℕ) (c : Client) → IsOpen s list cs y → if_open (item cs conn) ≡ Some c → option_map anew (open_client y (number_at (numbered 1 cs) conn)) ≡ Some (anew c)
still_open s list cs y zero c h e = absurd (none-some c e)
still_open s list cs y (suc i) c h e =
    let at = is_among 1 cs i c e in
    let alive : c.ended ≡ false = (open_is (slice_get cs i) c e).1 in
    let number : number_at (numbered 1 cs) (suc i) ≡ suc (suc at.place) = at.number ∙ omega arith in
    let client : option_map anew (slice_get y.clients (suc at.place)) ≡ Some (anew c) =
    sym (slice_get-map anew y.clients (suc at.place)) ∙ ap (λ (l : List Client). slice_get l (suc at.place)) h.clients ∙ slice_get-map anew (living cs) at.place ∙ ap (option_map anew) at.client in
    ap (λ n. option_map anew (open_client y n)) number ∙ open_anew (slice_get y.clients (suc at.place)) c alive client

seated_back : (s : Settings) (list : Listed) (x y : NodeValue) (numbers : List ℕ) (m : Membership) → numbers ≡ numbered 1 x.clients → IsOpen s list x.clients y → IsHeld x m → IsSeated numbers y m
seated_back s list x y numbers m is h held =
    let d = open_back (open_client y (number_at numbers m.member.conn)) held.0 (ap (λ (l : List ℕ). option_map anew (open_client y (number_at l m.member.conn))) is ∙ still_open s list x.clients y m.member.conn held.0 h held.1) in
    (d.0, d.1, d.2 ∙ held.2, h.number ∙ sym held.3)

all_back : (s : Settings) (list : Listed) (x y : NodeValue) (numbers : List ℕ) (all : List Membership) → numbers ≡ numbered 1 x.clients → IsOpen s list x.clients y → AllByRecursion (IsHeld x) all → AllByRecursion (IsSeated numbers y) all
all_back s list x y numbers [] is h held = tt
all_back s list x y numbers (m ∷ all) is h held = (seated_back s list x y numbers m is h held.0, all_back s list x y numbers all is h held.1)

short_why : (s : Settings) (list : Listed) (x : NodeValue) (count : ℕ) (why : Refusal) → AreOfOne s → count ≤ entry_count (records_of x) → WhyShort s count why → WhyNotBegun s list x why
short_why s list x count why one few h = ⊎_elim
    (λ (e : why ≡ refusal.Memory). memory_why s list x why e)
    (λ (k : (why ≡ refusal.RingEnd) × (min s.places s.hops < count)). subst (WhyNotBegun s list x) (sym k.0) (one, omega (arith, k.1, few)))
    h

pub joins_not : (s : Settings) (list : Listed) (x first y : NodeValue) (numbers now : List ℕ) (why : Refusal) → IsFirst s list first → HaveConnected x.clients numbers first y → now ≡ numbers
    → ((es : List Entry) → IsBegun y es → WhyNotJoined now y (length es) (memberships (records_of x)) why) → WhyNotBegun s list x why
joins_not s list x first y numbers now why h k is w =
    let opened = all_open s list x.clients numbers first y (first_open s list first h) k in
    let nums : now ≡ numbered 1 x.clients = is ∙ all_numbered s list x.clients numbers first y (first_open s list first h) k in
    let all : List Membership = memberships (records_of x) in
    ⊎_elim
    (λ (p : (why ≡ refusal.NoConnection) × ¬ AllByRecursion (IsSeated now y) all). subst (WhyNotBegun s list x) (sym p.0) (h.0, λ held. p.1 (all_back s list x y now all nums opened held)))
    (λ (q : ((why ≡ refusal.BadName) × ¬ AllByRecursion HasName all) ⊎ WhyShort y.ring.settings (0 + length all) why). ⊎_elim
    (λ (p : (why ≡ refusal.BadName) × ¬ AllByRecursion HasName all). subst (WhyNotBegun s list x) (sym p.0) (h.0, inl p.1))
    (λ (p : WhyShort y.ring.settings (0 + length all) why). short_why s list x (0 + length all) why h.0 (omega arith) (subst (λ (r : Settings). WhyShort r (0 + length all) why) opened.settings p))
    q)
    (w [] (begun_ring first y [] k.ring (first_begun s list first h)))

puts_by : (s : Settings) (list : Listed) (x : NodeValue) (count : ℕ) (why : Refusal) → AreOfOne s → count ≤ entry_count (records_of x) → WhyNotPut s (tables_in (records_of x)) count why → WhyNotBegun s list x why
puts_by s list x count why one few h = ⊎_elim
    (λ (p : (why ≡ refusal.BadName) × ¬ AllByRecursion IsNamed (tables_in (records_of x))). subst (WhyNotBegun s list x) (sym p.0) (one, inr p.1))
    (λ (p : WhyShort s count why). short_why s list x count why one few p)
    h

pub puts_not : (s : Settings) (list : Listed) (x first y z : NodeValue) (numbers now : List ℕ) (why : Refusal) → IsFirst s list first → HaveConnected x.clients numbers first y → HaveJoined now (memberships (records_of x)) y z
    → ((r : Root) (es : List Entry) → r.conn ≡ 1 → IsRoot r z → IsBegun z es → WhyNotPut z.ring.settings (tables_in (records_of x)) (suc (length es + rule_count (records_of x) (tables_in (records_of x)))) why) → WhyNotBegun s list x why
puts_not s list x first y z numbers now why h k joined w =
    let opened = open_still s list x.clients y z joined.alike joined.clients (all_open s list x.clients numbers first y (first_open s list first h) k) in
    let es : List Entry = map seat_entry joined.seats in
    let count : length es ≡ length (memberships (records_of x)) =
    length_mapped seat_entry joined.seats ∙ sym (length_mapped held_by joined.seats) ∙ ap (λ (l : List Membership). length l) joined.held ∙ length_mapped (renumbered now) (memberships (records_of x)) in
    puts_by s list x (suc (length es + rule_count (records_of x) (tables_in (records_of x)))) why h.0 (omega (arith, count))
    (subst (λ (t : Settings). WhyNotPut t (tables_in (records_of x)) (suc (length es + rule_count (records_of x) (tables_in (records_of x)))) why) opened.settings
    (w root es refl (is_root s list x.clients z opened) (joined.begun [] (begun_ring first y [] k.ring (first_begun s list first h)))))

pub all_connected : (x : NodeValue) (last : ℕ) (numbers : List ℕ) (y z : NodeValue) → last ≡ length x.clients → HaveConnected (take last x.clients) numbers y z → HaveConnected x.clients numbers y z
all_connected x last numbers y z is h = subst (λ (cs : List Client). HaveConnected cs numbers y z) (ap (λ n. take n x.clients) is ∙ take-length x.clients) h

-- ---- the tables' groups, as they were gathered

pub groups_not : (records seen : List Record) (now groups : List (List ℕ)) (x : NodeValue) (es : List Entry) (why : Refusal) → now ≡ groups → groups ≡ tables_in seen → seen ≡ records
    → WhyNotPut x.ring.settings now (length es + rule_count records now) why → WhyNotPut x.ring.settings (tables_in records) (suc (length es + rule_count records (tables_in records))) why
groups_not records seen now groups x es why a b c h =
    put_grows x.ring.settings x.ring.settings (tables_in records) (length es + rule_count records (tables_in records)) (suc (length es + rule_count records (tables_in records))) why refl (omega arith)
    (subst (λ (gs : List (List ℕ)). WhyNotPut x.ring.settings gs (length es + rule_count records gs) why) (a ∙ b ∙ ap tables_in c) h)

pub root_not : (r : Root) (records seen : List Record) (now groups : List (List ℕ)) (x z : NodeValue) (es : List Entry) (result : Result (Unit {0}) Refusal) → now ≡ groups → groups ≡ tables_in seen → seen ≡ records → r.conn ≡ 1
    → HasPut r (all_inserts r (map (table_of records) now)) x z → IsRoot r x → IsBegun x es
    → ((fs : List Entry) (c : Client) → open_client z 1 ≡ Some c → IsBegun z fs → IfErr result (λ why. WhyShort z.ring.settings (suc (length fs)) why))
    → IfErr result (λ why. WhyNotPut x.ring.settings (tables_in records) (suc (length es + rule_count records (tables_in records))) why)
root_not r records seen now groups x z es result a b c own put is begun k =
    root_part_why r records (tables_in records) x z es result own (subst (λ (gs : List (List ℕ)). HasPut r (all_inserts r (map (table_of records) gs)) x z) (a ∙ b ∙ ap tables_in c) put) is begun k
