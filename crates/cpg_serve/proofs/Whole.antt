-- The node of the next ring, once all is done.
use Rattle.std.proofs.Common.{◌≡◌, ◌≤◌, ◌<◌, ◌+◌, ◌-◌, ◌^◌, ◌⊎◌, inl, inr, min, ℕ, zero, suc, Bool, true, false, List, [], ◌∷◌, ◌++◌, map, length, take, drop, get_or, Option, Some, None, refl, sym, ap, subst, ◌∙◌, arith, ⊎_elim, not, if◌then◌else◌}
use Rattle.std.specs.List.{AllByRecursion, slice_get}
use Rattle.std.specs.FinMap.{get-empty}
use Rattle.std.specs.Ordering.{nat_cmp}
use Rattle.std.specs.Prelude.{option_map}
use Rattle.std.proofs.lemmas.Bool.{cases_lt}
use Rattle.std.proofs.Math.Seq.{take-length}
use Rattle.std.proofs.lemmas.Option.{none-some, same_Some, slice_get-map, slice_get_cases}
use Rattle.cpg_cred.specs.declared.credentials.Cred.{Cred}
use Rattle.cpg_cred.specs.Listed.{Listed}
use Rattle.cpg_entry.specs.declared.calls.Op.TheVariants.{Gone}
use Rattle.cpg_entry.specs.declared.entries.Entry.{Entry}
use Rattle.cpg_entry.specs.declared.ranges.TheConstants.{MOST_CONNECTIONS}
use Rattle.cpg_record.specs.declared.records.Record.{Record}
use Rattle.cpg_record.specs.Judging.{judged}
use Rattle.cpg_record.specs.Membership.{Membership, memberships}
use Rattle.cpg_ring.specs.declared.settings.Settings.{Settings}
use Rattle.cpg_ring.specs.Moves.{first_token, next_entry}
use Rattle.cpg_ring.specs.Rings.{RingNode}
use Rattle.cpg_ring.specs.Worlds.{item, with_item}
use Rattle.cpg_ring.proofs.Lists.{length-with_item}
use Rattle.cpg_node.specs.declared.connections.Client.{Client}
use Rattle.cpg_node.specs.Nodes.{NodeValue, delivered_entries, entry_by, if_open, inbox_of, new_value, open_client, records_of}
use Rattle.cpg_node.specs.Calls.{connected}
use Rattle.cpg_ask.proofs.Mapped.{length_mapped}
use Rattle.cpg_serve.specs.Coming.{rest_of}
use Rattle.cpg_serve.specs.Renewing.{Root, Seat, all_inserts, held_by, renewal, seat_entry}
use Rattle.cpg_serve.specs.Settling.{IsAlike, IsLone, IsStill}
use Rattle.cpg_serve.specs.Carrying.{AreCounted, AreItsOwn, AreLetIn, AreOfOne, HasNumber, HasParted, HasPut, HasPutAll, HaveConnected, HaveGiven, HaveJoined, IsBegun, IsFirst, IsFresh, IsMade, IsNext, IsRoot, KeepsAll, anew, living, next_entries, numbered, own_client, renumbered, rest_for, root_end, table_of, tables_in}
use Rattle.cpg_serve.proofs.Begun.{root_still}
use Rattle.cpg_serve.proofs.Carried.{next_keeps_all}
use Rattle.cpg_serve.proofs.Coming.{open_is}
use Rattle.cpg_serve.proofs.Lone.{delivered_is, lone_new}
use Rattle.cpg_serve.proofs.Owned.{all_both, follows_end, follows_on, made_by, made_on, made_still, own_on, own_still}
use Rattle.cpg_serve.proofs.Running.{within}
use Rattle.cpg_serve.proofs.Turns.{none_next}

-- the daemon's own connection, open
abbrev own_open : Client
own_open = record { pid = 0; cred = record { uid = 0; gid = 0 }; ended = false; taken = 0 }

abbrev pub root : Root
root = record { node = 1; conn = 1; pid = 0 }

pub first_begun : (s : Settings) (list : Listed) (x : NodeValue) → IsFirst s list x → IsBegun x []
first_begun s list x h = subst (λ (z : NodeValue). IsBegun z []) (sym h.1) (record {
  still = (refl, ap (option_map (λ (e : Entry). 1)) (get-empty nat_cmp 1));
  token = first_token s;
  hop = omega arith;
  lone = lone_new s h.0.0;
})

pub begun_ring : (x y : NodeValue) (es : List Entry) → y.ring ≡ x.ring → IsBegun x es → IsBegun y es
begun_ring x y es is b = record {
  still = (ap (λ (r : RingNode). r.state.waiting) is ∙ b.still.0, ap (λ (r : RingNode). option_map (λ (e : Entry). suc r.state.delivered) (next_entry r.state)) is ∙ b.still.1);
  token = b.token;
  hop = b.hop;
  lone = subst (λ (r : RingNode). IsLone r b.token es) (sym is) b.lone;
}

-- a client that is the daemon's own, but for what it took
own_by : (c : Client) → anew c ≡ own_open → if_open (Some c) ≡ Some (record { pid = 0; cred = record { uid = 0; gid = 0 }; ended = false; taken = c.taken })
own_by c e =
    let pid : c.pid ≡ 0 = ap (λ (k : Client). k.pid) e in
    let cred : c.cred ≡ record { uid = 0; gid = 0 } = ap (λ (k : Client). k.cred) e in
    let end : c.ended ≡ false = ap (λ (k : Client). k.ended) e in
    ap (λ (b : Bool). if b then None else Some c) end ∙ ap Some (whole pid cred end)
  where
    whole : c.pid ≡ 0 → c.cred ≡ record { uid = 0; gid = 0 } → c.ended ≡ false → c ≡ record { pid = 0; cred = record { uid = 0; gid = 0 }; ended = false; taken = c.taken }
    whole p r e = ap (λ (n : ℕ). record { pid = n; cred = c.cred; ended = c.ended; taken = c.taken }) p
        ∙ ap (λ (k : Cred). record { pid = 0; cred = k; ended = c.ended; taken = c.taken }) r
        ∙ ap (λ (b : Bool). record { pid = 0; cred = record { uid = 0; gid = 0 }; ended = b; taken = c.taken }) e

head_is : (a b : Client) (xs ys : List Client) → a ∷ xs ≡ b ∷ ys → a ≡ b
head_is a b xs ys e = same_Some a b (ap (λ (l : List Client). slice_get l 0) e)

tail_is : (a b : Client) (xs ys : List Client) → a ∷ xs ≡ b ∷ ys → xs ≡ ys
tail_is a b xs ys e = ap (λ (l : List Client). drop 1 l) e

root_open : (cs rest : List Client) → map anew cs ≡ own_open ∷ rest → (taken : ℕ) × (if_open (item cs 1) ≡ Some (record { pid = 0; cred = record { uid = 0; gid = 0 }; ended = false; taken = taken }))
root_open [] rest e = absurd cc
root_open (c ∷ cs) rest e = (c.taken, own_by c (head_is (anew c) own_open (map anew cs) rest e))

root_ended : (cs rest : List Client) (taken : ℕ) → map anew cs ≡ own_open ∷ rest → map anew (with_item cs 1 (record { pid = 0; cred = record { uid = 0; gid = 0 }; ended = true; taken = taken })) ≡ own_client ∷ rest
root_ended [] rest taken e = absurd cc
root_ended (c ∷ cs) rest taken e = ap (λ (l : List Client). own_client ∷ l) (tail_is (anew c) own_open (map anew cs) rest e)

few_living : (cs : List Client) → length (living cs) ≤ length cs
few_living [] = omega arith
few_living (c ∷ cs) = by_end c.ended (few_living cs)
  where
    by_end : (b : Bool) → length (living cs) ≤ length cs → length (if not b then c ∷ living cs else living cs) ≤ suc (length cs)
    by_end true h = omega (arith, h)
    by_end false h = omega (arith, h)

-- whoever has no number there was given all
none_more : (x y : NodeValue) (most : ℕ) → map anew y.clients ≡ own_client ∷ map anew (living x.clients) → length y.clients ≤ MOST_CONNECTIONS → (suc (length x.clients) ≤ most) ⊎ (MOST_CONNECTIONS ≤ most) → ((conn : ℕ) → conn ≤ most → rest_for y conn ≡ []) → (conn : ℕ) → rest_for y conn ≡ []
none_more x y most clients few ends given conn = ⊎_elim
    (λ (past : most < conn). ap (λ (o : Option Client). rest_of y conn (if_open o)) (absent (item y.clients conn) refl past))
    (λ (low : conn ≤ most). given conn low)
    (cases_lt most conn)
  where
    count : length y.clients ≤ suc (length x.clients)
    count = let l = few_living x.clients in omega (arith, l, sym (length_mapped anew y.clients) ∙ ap (λ (l : List Client). length l) clients ∙ ap suc (length_mapped anew (living x.clients)))

    absent : (o : Option Client) → item y.clients conn ≡ o → most < conn → o ≡ None
    absent None e past = refl
    absent (Some c) e past =
        let l = within y.clients conn c e in
        absurd (⊎_elim (λ (a : suc (length x.clients) ≤ most). omega (arith, a, l, past, count)) (λ (a : MOST_CONNECTIONS ≤ most). omega (arith, a, few, l, past)) ends)

ends_at : (count last most : ℕ) → last ≡ count → most ≡ min (last + 1) (2 ^ 16 - 1) → (suc count ≤ most) ⊎ (MOST_CONNECTIONS ≤ most)
ends_at count last most is e = ⊎_elim
    (λ (few : last < MOST_CONNECTIONS). inl (omega (arith, few, is, e)))
    (λ (full : MOST_CONNECTIONS ≤ last). inr (omega (arith, full, e)))
    (cases_lt last MOST_CONNECTIONS)

-- a ring in which the daemon's own connection is open, and those beside it
pub record IsOpen (s : Settings) (list : Listed) (cs : List Client) (x : NodeValue) : Type 0 where
  pub settings : x.ring.settings ≡ s
  pub number : x.ring.node ≡ 1
  pub lets_in : x.list ≡ list
  pub clients : map anew x.clients ≡ own_open ∷ map anew (living cs)
  pub fresh : AllByRecursion IsFresh x.clients
  pub few : length x.clients ≤ MOST_CONNECTIONS

-- the same once the daemon's own connection ended
record IsClosed (s : Settings) (list : Listed) (cs : List Client) (x : NodeValue) : Type 0 where
  pub settings : x.ring.settings ≡ s
  pub lets_in : x.list ≡ list
  pub clients : map anew x.clients ≡ own_client ∷ map anew (living cs)
  pub counted : AreCounted x
  pub few : length x.clients ≤ MOST_CONNECTIONS

pub first_open : (s : Settings) (list : Listed) (x : NodeValue) → IsFirst s list x → IsOpen s list [] x
first_open s list x h = subst (IsOpen s list []) (sym h.1) (record { settings = refl; number = refl; lets_in = refl; clients = refl; fresh = (refl, tt); few = omega arith })

pub all_open : (s : Settings) (list : Listed) (cs : List Client) (numbers : List ℕ) (x y : NodeValue) → IsOpen s list [] x → HaveConnected cs numbers x y → IsOpen s list cs y
all_open s list cs numbers x y h k = record {
  settings = ap (λ (r : RingNode). r.settings) k.ring ∙ h.settings;
  number = ap (λ (r : RingNode). r.node) k.ring ∙ h.number;
  lets_in = k.list ∙ h.lets_in;
  clients = k.alive ∙ ap (λ (l : List Client). l ++ map anew (living cs)) h.clients;
  fresh = k.fresh h.fresh;
  few = k.few h.few;
}

pub all_numbered : (s : Settings) (list : Listed) (cs : List Client) (numbers : List ℕ) (x y : NodeValue) → IsOpen s list [] x → HaveConnected cs numbers x y → numbers ≡ numbered 1 cs
all_numbered s list cs numbers x y h k = k.given ∙ ap (λ n. numbered n cs) (sym (length_mapped anew x.clients) ∙ ap (λ (l : List Client). length l) h.clients)

pub open_still : (s : Settings) (list : Listed) (cs : List Client) (x y : NodeValue) → IsAlike x y → y.clients ≡ x.clients → IsOpen s list cs x → IsOpen s list cs y
open_still s list cs x y alike same h = record {
  settings = alike.settings ∙ h.settings;
  number = alike.number ∙ h.number;
  lets_in = alike.list ∙ h.lets_in;
  clients = ap (λ (l : List Client). map anew l) same ∙ h.clients;
  fresh = subst (AllByRecursion IsFresh) (sym same) h.fresh;
  few = subst (λ (l : List Client). length l ≤ MOST_CONNECTIONS) (sym same) h.few;
}

pub is_root : (s : Settings) (list : Listed) (cs : List Client) (x : NodeValue) → IsOpen s list cs x → IsRoot root x
is_root s list cs x h = (sym h.number, root_open x.clients (map anew (living cs)) h.clients)

ended_entry : (taken : ℕ) (es : List Entry) (x : NodeValue) → x.ring.node ≡ 1 → es ++ entry_by x 1 (record { pid = 0; cred = record { uid = 0; gid = 0 }; ended = false; taken = taken }) Gone ∷ [] ≡ es ++ root_end root ∷ []
ended_entry taken es x is = ap (λ (n : ℕ). es ++ record { node = n; conn = 1; pid = 0; cred = record { uid = 0; gid = 0 }; op = Gone } ∷ []) is

-- the daemon's own connection, with what it took
abbrev own_at : (ended : Bool) → ℕ → Client
own_at ended taken = record { pid = 0; cred = record { uid = 0; gid = 0 }; ended = ended; taken = taken }

fresh_ended : (cs : List Client) (taken : ℕ) → if_open (item cs 1) ≡ Some (own_at false taken) → AllByRecursion IsFresh cs → AllByRecursion IsFresh (with_item cs 1 (own_at true taken))
fresh_ended [] taken e h = absurd (none-some (own_at false taken) e)
fresh_ended (c ∷ cs) taken e h =
    let same : c ≡ own_at false taken = same_Some c (own_at false taken) (open_is (Some c) (own_at false taken) e).0 in
    (sym (ap (λ (k : Client). k.taken) same) ∙ h.0, h.1)

fresh_at : (cs : List Client) (i : ℕ) (c : Client) → slice_get cs i ≡ Some c → AllByRecursion IsFresh cs → IsFresh c
fresh_at [] i c e h = absurd (none-some c e)
fresh_at (d ∷ cs) zero c e h = subst IsFresh (same_Some d c e) h.0
fresh_at (d ∷ cs) (suc i) c e h = fresh_at cs i c e h.1

fresh_counted : (x : NodeValue) → AllByRecursion IsFresh x.clients → AreCounted x
fresh_counted x h = λ conn c found. by_place conn c (open_is (item x.clients conn) c found).0
  where
    by_place : (conn : ℕ) (c : Client) → item x.clients conn ≡ Some c → c.taken ≤ length (inbox_of x conn)
    by_place zero c e = absurd (none-some c e)
    by_place (suc i) c e = let none = fresh_at x.clients i c e h in omega (arith, none)

root_gone : (s : Settings) (list : Listed) (cs : List Client) (es : List Entry) (x y : NodeValue) → IsOpen s list cs x → HasParted 1 x y → IsBegun x es → IsClosed s list cs y × IsBegun y (es ++ root_end root ∷ [])
root_gone s list cs es x y h k b = by_root (is_root s list cs x h).1
  where
    by_root : ((taken : ℕ) × (open_client x 1 ≡ Some (own_at false taken))) → IsClosed s list cs y × IsBegun y (es ++ root_end root ∷ [])
    by_root r =
        let clients : y.clients ≡ with_item x.clients 1 (own_at true r.0) = k.clients (own_at false r.0) r.1 in (
          record {
            settings = k.alike.settings ∙ h.settings;
            lets_in = k.alike.list ∙ h.lets_in;
            clients = ap (λ (l : List Client). map anew l) clients ∙ root_ended x.clients (map anew (living cs)) r.0 h.clients;
            counted = fresh_counted y (subst (AllByRecursion IsFresh) (sym clients) (fresh_ended x.clients r.0 r.1 h.fresh));
            few = omega (arith, h.few, ap (λ (l : List Client). length l) clients, length-with_item x.clients 1 (own_at true r.0));
          },
          subst (IsBegun y) (ended_entry r.0 es x h.number) (k.begun es (own_at false r.0) r.1 b),
        )

tables_put : (s : Settings) (list : Listed) (cs : List Client) (rs : List Record) (seats : List Seat) (x y : NodeValue) → IsOpen s list cs x → HasPutAll rs x y → IsBegun x (map seat_entry seats) → IsClosed s list cs y × IsBegun y (next_entries seats root rs)
tables_put s list cs rs seats x y h k b = by_put k.0 (k.1 root refl) k.2
  where
    by_put : (z : NodeValue) → HasPut root (all_inserts root (map (table_of rs) (tables_in rs))) x z → HasParted 1 z y → IsClosed s list cs y × IsBegun y (next_entries seats root rs)
    by_put z put parted = root_gone s list cs (map seat_entry seats ++ all_inserts root (map (table_of rs) (tables_in rs))) z y
        (open_still s list cs x z put.alike put.clients h) parted (put.begun (map seat_entry seats) (is_root s list cs x h) b)

-- ---- the entries with which the next ring begins

living_alive : (cs : List Client) (i : ℕ) (c : Client) → slice_get (living cs) i ≡ Some c → c.ended ≡ false
living_alive [] i c e = absurd (none-some c e)
living_alive (k ∷ cs) i c e = by_end k.ended refl i e (λ j f. living_alive cs j c f)
  where
    by_end : (b : Bool) → k.ended ≡ b → (i : ℕ) → slice_get (if not b then k ∷ living cs else living cs) i ≡ Some c → ((j : ℕ) → slice_get (living cs) j ≡ Some c → c.ended ≡ false) → c.ended ≡ false
    by_end true is i e later = later i e
    by_end false is zero e later = subst (λ (m : Client). m.ended ≡ false) (same_Some k c e) is
    by_end false is (suc i) e later = later i e

open_alive : (cs : List Client) (i : ℕ) (c : Client) → slice_get (own_open ∷ living cs) i ≡ Some c → c.ended ≡ false
open_alive cs zero c e = subst (λ (m : Client). m.ended ≡ false) (same_Some own_open c e) refl
open_alive cs (suc i) c e = living_alive cs i c e

-- all connections are open before the daemon's own ends
none_closed : (s : Settings) (list : Listed) (cs : List Client) (x : NodeValue) (conn : ℕ) → IsOpen s list cs x → 1 ≤ conn → conn ≤ length x.clients → open_client x conn ≡ None → ⊥
none_closed s list cs x zero h some low closed = omega (arith, some)
none_closed s list cs x (suc i) h some low closed = ⊎_elim
    (λ (there : (c : Client) × (i < length x.clients) × (slice_get x.clients i ≡ Some c) × (get_or x.clients i c ≡ c)). by_client there.0 there.2 (slice_get (own_open ∷ living cs) i) refl
    (ap (option_map anew) (sym there.2) ∙ sym (slice_get-map anew x.clients i) ∙ ap (λ (l : List Client). slice_get l i) h.clients ∙ slice_get-map anew (own_open ∷ living cs) i))
    (λ (past : (length x.clients ≤ i) × (slice_get x.clients i ≡ None)). omega (arith, past.0, low))
    (slice_get_cases x.clients i).1
  where
    by_client : (c : Client) → slice_get x.clients i ≡ Some c → (o : Option Client) → slice_get (own_open ∷ living cs) i ≡ o → Some (anew c) ≡ option_map anew o → ⊥
    by_client c there None is same = none-some (anew c) (sym same)
    by_client c there (Some k) is same =
        let alive : c.ended ≡ false = ap (λ (m : Client). m.ended) (same_Some (anew c) (anew k) same) ∙ open_alive cs i k is in
        none-some c (sym closed ∙ ap if_open there ∙ ap (λ b. if b then None else Some c) alive)

root_own : (s : Settings) (list : Listed) (cs : List Client) (es : List Entry) (x y : NodeValue) → IsOpen s list cs x → HasParted 1 x y → AreItsOwn x es → AreItsOwn y (es ++ root_end root ∷ [])
root_own s list cs es x y h k own = by_root (is_root s list cs x h).1
  where
    by_root : ((taken : ℕ) × (open_client x 1 ≡ Some (own_at false taken))) → AreItsOwn y (es ++ root_end root ∷ [])
    by_root r =
        let end : List Entry = entry_by x 1 (own_at false r.0) Gone ∷ [] in
        let f = follows_end 1 x y (own_at false r.0) r.1 (k.clients (own_at false r.0) r.1) k.alike.number in
        subst (AreItsOwn y) (ended_entry r.0 es x h.number) (own_on x y es end f (made_on x y end end f (made_by x 1 (own_at false r.0) Gone r.1 tt, tt)) own)

-- the next ring's own connections made them
next_own : (s : Settings) (list : Listed) (cs : List Client) (rs : List Record) (seats : List Seat) (x y : NodeValue) → IsOpen s list cs x → HasPutAll rs x y → AllByRecursion (IsMade x) (map seat_entry seats) → AreItsOwn y (next_entries seats root rs)
next_own s list cs rs seats x y h k made = by_put k.0 (k.1 root refl) k.2
  where
    puts : List Entry
    puts = all_inserts root (map (table_of rs) (tables_in rs))

    by_put : (z : NodeValue) → HasPut root puts x z → HasParted 1 z y → AreItsOwn y (next_entries seats root rs)
    by_put z put parted =
        let opened = open_still s list cs x z put.alike put.clients h in
        let all = all_both (IsMade x) (map seat_entry seats) puts made (put.made (is_root s list cs x h)) in
        root_own s list cs (map seat_entry seats ++ puts) z y opened parted
        (record { made = made_still x z (map seat_entry seats ++ puts) put.alike put.clients all; ended = λ conn some low closed. absurd (none_closed s list cs z conn opened some low closed) })

-- ---- the node of the next ring

keeps_of : (es : List Entry) (cs : List Client) (seats : List Seat) (y : NodeValue) → AllByRecursion (HasNumber (numbered 1 cs)) (memberships (judged es)) → map held_by seats ≡ map (renumbered (numbered 1 cs)) (memberships (judged es))
    → IsBegun y (next_entries seats root (judged es)) → KeepsAll cs (judged es) (records_of y)
keeps_of es cs seats y has held b =
    subst (KeepsAll cs (judged es)) (sym (ap judged (delivered_is y.ring b.token (next_entries seats root (judged es)) b.lone (none_next y b.still.1)))) (next_keeps_all es cs root seats refl has held)

next_of_parts : (s : Settings) (list : Listed) (x y : NodeValue) (numbers : List ℕ) (seats : List Seat) → AreOfOne s → length x.clients ≤ MOST_CONNECTIONS → AreLetIn list x.clients → numbers ≡ numbered 1 x.clients → AllByRecursion (HasNumber (numbered 1 x.clients)) (memberships (records_of x))
    → map held_by seats ≡ map (renumbered (numbered 1 x.clients)) (memberships (records_of x)) → IsClosed s list x.clients y → IsBegun y (next_entries seats root (records_of x))
    → AreItsOwn y (next_entries seats root (records_of x)) → ((conn : ℕ) → rest_for y conn ≡ []) → IsNext s list numbers x y
next_of_parts s list x y numbers seats one few in_it nums has held closed begun own given = record {
  of_one = one;
  let_in = in_it;
  settings = closed.settings;
  lets_in = closed.lets_in;
  entries = next_entries seats root (records_of x);
  begun = begun;
  own = own;
  keeps = keeps_of (delivered_entries x.ring.state) x.clients seats y has held begun;
  renumbers = nums;
  clients = closed.clients;
  few = few;
  counted = closed.counted;
  given = given;
}

closed_still : (s : Settings) (list : Listed) (cs : List Client) (most : ℕ) (x y : NodeValue) → HaveGiven most x y → IsClosed s list cs x → IsClosed s list cs y
closed_still s list cs most x y h k = record {
  settings = ap (λ (r : RingNode). r.settings) h.ring ∙ k.settings;
  lets_in = h.list ∙ k.lets_in;
  clients = h.clients ∙ k.clients;
  counted = h.counted k.counted;
  few = omega (arith, k.few, sym (length_mapped anew y.clients) ∙ ap (λ (l : List Client). length l) h.clients ∙ length_mapped anew x.clients);
}

pub seated_by : (numbers : List ℕ) (now all : List Membership) (rs seen : List Record) (x y : NodeValue) → now ≡ all → all ≡ memberships seen → seen ≡ rs → HaveJoined numbers now x y → HaveJoined numbers (memberships rs) x y
seated_by numbers now all rs seen x y h k l joined = subst (λ (m : List Membership). HaveJoined numbers m x y) (h ∙ k ∙ ap memberships l) joined

pub tables_by : (now groups : List (List ℕ)) (rs seen : List Record) (x z y : NodeValue) → now ≡ groups → groups ≡ tables_in seen → seen ≡ rs → ((r : Root) → r.conn ≡ 1 → HasPut r (all_inserts r (map (table_of rs) now)) x z) → HasParted 1 z y → HasPutAll rs x y
tables_by now groups rs seen x z y h k l puts parted =
    (z, (λ r own. subst (λ (gs : List (List ℕ)). HasPut r (all_inserts r (map (table_of rs) gs)) x z) (h ∙ k ∙ ap tables_in l) (puts r own)), parted)

pub next_is : (s : Settings) (list : Listed) (x y0 y1 y2 y4 y5 : NodeValue) (last most : ℕ) (numbers seen : List ℕ) → IsFirst s list y0 → last ≤ MOST_CONNECTIONS → last ≡ length x.clients → HaveConnected (take last x.clients) numbers y0 y1
    → seen ≡ numbers → HaveJoined seen (memberships (records_of x)) y1 y2 → HasPutAll (records_of x) y2 y4 → HaveGiven most y4 y5 → most ≡ min (last + 1) (2 ^ 16 - 1) → IsNext s list numbers x y5
next_is s list x y0 y1 y2 y4 y5 last most numbers seen first few is conn same joins tables given ends =
    by_connected (subst (λ (cs : List Client). HaveConnected cs numbers y0 y1) (ap (λ n. take n x.clients) is ∙ take-length x.clients) conn)
  where
    joined : HaveJoined numbers (memberships (records_of x)) y1 y2
    joined = subst (λ (l : List ℕ). HaveJoined l (memberships (records_of x)) y1 y2) same joins

    by_numbers : AreLetIn list x.clients → numbers ≡ numbered 1 x.clients → IsClosed s list x.clients y4 × IsBegun y4 (next_entries joined.seats root (records_of x)) → AreItsOwn y4 (next_entries joined.seats root (records_of x)) → IsNext s list numbers x y5
    by_numbers in_it nums closed own = next_of_parts s list x y5 numbers joined.seats first.0 (omega (arith, few, is)) in_it nums (subst (λ (l : List ℕ). AllByRecursion (HasNumber l) (memberships (records_of x))) nums joined.numbered)
        (joined.held ∙ ap (λ (l : List ℕ). map (renumbered l) (memberships (records_of x))) nums) (closed_still s list x.clients most y4 y5 given closed.0)
        (begun_ring y4 y5 (next_entries joined.seats root (records_of x)) given.ring closed.1)
        (own_still y4 y5 (next_entries joined.seats root (records_of x)) (follows_on y4 y5 given.clients (ap (λ (r : RingNode). r.node) given.ring)) own)
        (none_more x y5 most (given.clients ∙ closed.0.clients) (closed_still s list x.clients most y4 y5 given closed.0).few (ends_at (length x.clients) last most is ends) given.given)

    by_connected : HaveConnected x.clients numbers y0 y1 → IsNext s list numbers x y5
    by_connected h =
        let opened : IsOpen s list x.clients y2 = open_still s list x.clients y1 y2 joined.alike joined.clients (all_open s list x.clients numbers y0 y1 (first_open s list y0 first) h) in
        by_numbers (subst (λ (l : Listed). AreLetIn l x.clients) (first_open s list y0 first).lets_in h.let_in) (all_numbered s list x.clients numbers y0 y1 (first_open s list y0 first) h)
        (tables_put s list x.clients (records_of x) joined.seats y2 y4 opened tables (joined.begun [] (begun_ring y0 y1 [] h.ring (first_begun s list y0 first))))
        (next_own s list x.clients (records_of x) joined.seats y2 y4 opened tables (made_still y1 y2 (map seat_entry joined.seats) joined.alike joined.clients joined.made))
