-- A ring of one node that hears only itself, at rest: each member is an open connection's process, and each group has a name.
use Rattle.std.proofs.Common.{◌≡◌, ◌≢◌, ◌⊎◌, ◌<◌, ◌≤◌, ℕ, Bool, true, false, not, ◌&&◌, eqb, eq-eqb, List, [], ◌∷◌, ◌++◌, length, Option, Some, None, refl, sym, ap, subst, ◌∙◌, ⊎_elim, append-nil, true≢false, if◌then◌else◌}
use Rattle.std.specs.List.{AllByRecursion, filter, fold}
use Rattle.std.proofs.lemmas.List.Sums.{fold-append}
use Rattle.std.proofs.lemmas.Option.{none-some}
use Rattle.cpg_cred.specs.Listed.{Listed}
use Rattle.cpg_cred.specs.declared.refusals.Refusal.{Refusal}
use Rattle.cpg_cred.specs.declared.refusals.Refusal.TheVariants as refusal
use Rattle.cpg_entry.specs.Names.{is_name}
use Rattle.cpg_entry.specs.declared.calls.Call.TheVariants.{Insert, Join}
use Rattle.cpg_entry.specs.declared.calls.Op.{Op}
use Rattle.cpg_entry.specs.declared.calls.Op.TheVariants.{Act, Gone}
use Rattle.cpg_entry.specs.declared.entries.Entry.{Entry}
use Rattle.cpg_entry.specs.declared.frames.Token.{Token}
use Rattle.cpg_record.specs.declared.connections.ConnId.{ConnId}
use Rattle.cpg_record.specs.declared.records.Record.{Record}
use Rattle.cpg_record.specs.Connections.{conn_in, conn_of, is_conn, member_of}
use Rattle.cpg_record.specs.Judging.{judged, record_of, with_judgement}
use Rattle.cpg_record.specs.Membership.{Membership, ends, is_allowed, is_end, memberships, taken, taken_by_join}
use Rattle.cpg_record.specs.Verdicts.{op_verdict, verdict}
use Rattle.cpg_record.proofs.Growing.{memberships_push, stays}
use Rattle.cpg_ring.specs.Rings.{RingNode}
use Rattle.cpg_ring.specs.declared.settings.Settings.{Settings}
use Rattle.cpg_node.specs.declared.connections.Client.{Client}
use Rattle.cpg_node.specs.Nodes.{NodeValue, open_client, records_of}
use Rattle.cpg_node.specs.Calls.{name_refusal}
use Rattle.cpg_serve.specs.Serving.{ServedValue}
use Rattle.cpg_serve.specs.Settling.{IsStill, IsUsedUp, MovesOn, WhyMoving}
use Rattle.cpg_serve.specs.Carrying.{AreItsOwn, EndsIn, IsMade, IsOther, IsTaken, inserted_into, is_among, tabled, tables_in, with_names}
use Rattle.cpg_serve.specs.Refusals.{HasName, IsHeld, IsNamed, WhyNotBegun}
use Rattle.cpg_serve.specs.Alone.{AreThere, IsAlone, LacksNone}
use Rattle.cpg_serve.proofs.Alone.{alone_moves}
use Rattle.cpg_serve.proofs.Lone.{delivered_is}
use Rattle.cpg_serve.proofs.Owned.{all_both}
use Rattle.cpg_serve.proofs.Turns.{none_next}

-- ---- what holds of all memberships

kept_all : (P : Membership → Type 0) (test : Membership → Bool) (ms : List Membership) → AllByRecursion P ms → AllByRecursion P (filter test ms)
kept_all P test [] h = tt
kept_all P test (m ∷ ms) h = by_test (test m) (kept_all P test ms h.1)
  where
    by_test : (b : Bool) → AllByRecursion P (filter test ms) → AllByRecursion P (if b then m ∷ filter test ms else filter test ms)
    by_test true later = (h.0, later)
    by_test false later = later

-- it holds of the membership that the entry takes, if it is a join
abbrev OfJoin : (Membership → Type 0) → Entry → Type 0
OfJoin P e = (g : List ℕ) → e.op ≡ Act (Join g) → P (record { group = g; member = member_of e })

one_more : (P : Membership → Type 0) (rs : List Record) (e : Entry) → AllByRecursion P (memberships rs) → OfJoin P e → AllByRecursion P (memberships (rs ++ record_of rs e ∷ []))
one_more P rs e h join =
    subst (AllByRecursion P) (sym (memberships_push rs (record_of rs e)))
    (all_both P (filter (stays (record_of rs e)) (memberships rs)) (taken (record_of rs e)) (kept_all P (stays (record_of rs e)) (memberships rs) h) (by_op (is_allowed (verdict rs e)) e.op refl))
  where
    by_op : (b : Bool) (op : Op) → e.op ≡ op → AllByRecursion P (if b then taken_by_join e op else [])
    by_op true (Act (Join g)) is = (join g is, tt)
    by_op true _ is = tt
    by_op false op is = tt

all_joins : (P : Membership → Type 0) (rs : List Record) (es : List Entry) → AllByRecursion P (memberships rs) → AllByRecursion (OfJoin P) es → AllByRecursion P (memberships (fold with_judgement rs es))
all_joins P rs [] h k = h
all_joins P rs (e ∷ es) h k = all_joins P (rs ++ record_of rs e ∷ []) es (one_more P rs e h k.0) k.1

-- ---- connections that ended

-- the member is another connection's
abbrev IsApart : ℕ → Membership → Type 0
IsApart conn m = m.member.conn ≢ conn

abbrev IsAt : ℕ → Membership → Type 0
IsAt node m = m.member.node ≡ node

gone_ends : (rs : List Record) (e : Entry) (c : ConnId) → e.op ≡ Gone → ends c (record_of rs e) ≡ is_conn c (conn_of e)
gone_ends rs e c is = ap (λ (op : Op). is_allowed (op_verdict rs e op) && is_end op && is_conn c (conn_of e)) is

gone_takes : (rs : List Record) (e : Entry) → e.op ≡ Gone → taken (record_of rs e) ≡ []
gone_takes rs e is = ap (λ (op : Op). if is_allowed (op_verdict rs e op) then taken_by_join e op else []) is

left_apart : (rs : List Record) (e : Entry) (ms : List Membership) → e.op ≡ Gone → AllByRecursion (IsAt e.node) ms → AllByRecursion (IsApart e.conn) (filter (stays (record_of rs e)) ms)
left_apart rs e [] is h = tt
left_apart rs e (m ∷ ms) is h = by_end (ends (conn_in m.member) (record_of rs e)) refl (left_apart rs e ms is h.1)
  where
    own : m.member.conn ≡ e.conn → is_conn (conn_in m.member) (conn_of e) ≡ true
    own same = ap (λ (b : Bool). b && eqb m.member.conn e.conn) (eq-eqb m.member.node e.node h.0) ∙ eq-eqb m.member.conn e.conn same

    by_end : (b : Bool) → ends (conn_in m.member) (record_of rs e) ≡ b → AllByRecursion (IsApart e.conn) (filter (stays (record_of rs e)) ms)
        → AllByRecursion (IsApart e.conn) (if not b then m ∷ filter (stays (record_of rs e)) ms else filter (stays (record_of rs e)) ms)
    by_end true ended later = later
    by_end false ended later = ((λ (same : m.member.conn ≡ e.conn). absurd (true≢false (sym (own same) ∙ sym (gone_ends rs e (conn_in m.member) is) ∙ ended))), later)

-- after its end, and entries of others, nobody is a member by that connection
ended_apart : (rs : List Record) (e : Entry) → e.op ≡ Gone → AllByRecursion (IsAt e.node) (memberships rs) → AllByRecursion (IsApart e.conn) (memberships (rs ++ record_of rs e ∷ []))
ended_apart rs e is h =
    subst (AllByRecursion (IsApart e.conn)) (sym (memberships_push rs (record_of rs e)))
    (all_both (IsApart e.conn) (filter (stays (record_of rs e)) (memberships rs)) (taken (record_of rs e)) (left_apart rs e (memberships rs) is h)
    (subst (AllByRecursion (IsApart e.conn)) (sym (gone_takes rs e is)) tt))

others_join : (conn : ℕ) (es : List Entry) → AllByRecursion (IsOther conn) es → AllByRecursion (OfJoin (IsApart conn)) es
others_join conn [] h = tt
others_join conn (e ∷ es) h = ((λ g is. h.0), others_join conn es h.1)

-- all entries are the node's
nodes_join : (x : NodeValue) (es : List Entry) → AllByRecursion (IsMade x) es → AllByRecursion (OfJoin (IsAt x.ring.node)) es
nodes_join x [] h = tt
nodes_join x (e ∷ es) h = ((λ g is. h.0.node), nodes_join x es h.1)

all_parts : {X : Type 0} (P : X → Type 0) (xs ys : List X) → AllByRecursion P (xs ++ ys) → AllByRecursion P xs × AllByRecursion P ys
all_parts P [] ys h = (tt, h)
all_parts P (x ∷ xs) ys h = let later = all_parts P xs ys h.1 in ((h.0, later.0), later.1)

none_of_ended : (x : NodeValue) (es : List Entry) (conn : ℕ) → AllByRecursion (IsMade x) es → EndsIn es conn → AllByRecursion (IsApart conn) (memberships (judged es))
none_of_ended x es conn made h =
    let rs : List Record = judged h.before in
    let parts = all_parts (IsMade x) h.before (h.end ∷ h.after) (subst (AllByRecursion (IsMade x)) h.cut made) in
    let here : AllByRecursion (IsAt x.ring.node) (memberships rs) = all_joins (IsAt x.ring.node) [] h.before tt (nodes_join x h.before parts.0) in
    let gone : AllByRecursion (IsApart h.end.conn) (memberships (rs ++ record_of rs h.end ∷ [])) =
    ended_apart rs h.end h.gone (subst (λ (n : ℕ). AllByRecursion (IsAt n) (memberships rs)) (sym parts.1.0.node) here) in
    subst (λ (l : List Record). AllByRecursion (IsApart conn) (memberships l)) (sym (ap judged h.cut ∙ fold-append with_judgement [] h.before (h.end ∷ h.after)))
    (all_joins (IsApart conn) (rs ++ record_of rs h.end ∷ []) h.after (subst (λ (n : ℕ). AllByRecursion (IsApart n) (memberships (rs ++ record_of rs h.end ∷ []))) h.own gone) (others_join conn h.after h.others))

-- ---- members

named : (g : List ℕ) → name_refusal g ≡ None → IsNamed g
named g e = by_name (is_name g) refl e
  where
    by_name : (b : Bool) → is_name g ≡ b → (if b then None else Some refusal.BadName) ≡ None → is_name g ≡ true
    by_name true is e = is
    by_name false is e = absurd (none-some refusal.BadName (sym e))

-- The member is one of the node's connections, and its process where that is open, in a group with a name.
record IsKnown (x : NodeValue) (m : Membership) : Type 0 where
  pub node : m.member.node ≡ x.ring.node
  pub known : (1 ≤ m.member.conn) × (m.member.conn ≤ length x.clients)
  pub process : (c : Client) → open_client x m.member.conn ≡ Some c → c.pid ≡ m.member.pid
  pub name : HasName m

known_joins : (x : NodeValue) (es : List Entry) → AllByRecursion (IsMade x) es → AllByRecursion (OfJoin (IsKnown x)) es
known_joins x [] h = tt
known_joins x (e ∷ es) h = ((λ g is. record { node = h.0.node; known = h.0.known; process = h.0.process; name = named g (subst IsTaken is h.0.taken) }), known_joins x es h.1)

all_held : (x : NodeValue) (ms : List Membership) → x.ring.node ≡ 1 → AllByRecursion (IsKnown x) ms → ((conn : ℕ) → 1 ≤ conn → conn ≤ length x.clients → open_client x conn ≡ None → AllByRecursion (IsApart conn) ms) → AllByRecursion (IsHeld x) ms
all_held x [] one h apart = tt
all_held x (m ∷ ms) one h apart = (by_open (open_client x m.member.conn) refl, all_held x ms one h.1 (λ conn some low closed. (apart conn some low closed).1))
  where
    by_open : (o : Option Client) → open_client x m.member.conn ≡ o → IsHeld x m
    by_open (Some c) e = (c, e, h.0.process c e, h.0.node ∙ one)
    by_open None e = absurd ((apart m.member.conn h.0.known.0 h.0.known.1 e).0 refl)

all_names : (x : NodeValue) (ms : List Membership) → AllByRecursion (IsKnown x) ms → AllByRecursion HasName ms
all_names x [] h = tt
all_names x (m ∷ ms) h = (h.0.name, all_names x ms h.1)

-- ---- tables

names_more : (names more : List (List ℕ)) → AllByRecursion IsNamed names → AllByRecursion IsNamed more → AllByRecursion IsNamed (with_names names more)
names_more names [] h k = h
names_more names (g ∷ more) h k = by_among (is_among names g) (names_more names more h k.1) (names_more (names ++ g ∷ []) more (all_both IsNamed names (g ∷ []) h (k.0, tt)) k.1)
  where
    by_among : (b : Bool) → AllByRecursion IsNamed (with_names names more) → AllByRecursion IsNamed (with_names (names ++ g ∷ []) more) → AllByRecursion IsNamed (if b then with_names names more else with_names (names ++ g ∷ []) more)
    by_among true old new = old
    by_among false old new = new

all_tables : (x : NodeValue) (rs : List Record) (es : List Entry) → AllByRecursion IsNamed (tables_in rs) → AllByRecursion (IsMade x) es → AllByRecursion IsNamed (tables_in (fold with_judgement rs es))
all_tables x rs [] h k = h
all_tables x rs (e ∷ es) h k =
    all_tables x (rs ++ record_of rs e ∷ []) es
    (subst (AllByRecursion IsNamed) (sym (fold-append (λ (l : List (List ℕ)) (r : Record). with_names l (tabled r)) [] rs (record_of rs e ∷ [])))
    (names_more (tables_in rs) (tabled (record_of rs e)) h (by_op (is_allowed (verdict rs e)) e.op k.0.taken))) k.1
  where
    by_op : (b : Bool) (op : Op) → IsTaken op → AllByRecursion IsNamed (if b then inserted_into op else [])
    by_op true (Act (Insert g index rule)) fits = (named g fits, tt)
    by_op true _ fits = tt
    by_op false op fits = tt

-- ---- at rest

pub all_there : (x : ServedValue) → IsAlone x → IsStill x.node → AreThere x.node
all_there x a still =
    let own : AreItsOwn x.node a.placed = subst (AreItsOwn x.node) (ap (λ (l : List Entry). a.placed ++ l) still.0 ∙ append-nil a.placed) a.own in
    let records : records_of x.node ≡ judged a.placed = ap judged (delivered_is x.node.ring a.token a.placed a.lone (none_next x.node still.1)) in
    let known : AllByRecursion (IsKnown x.node) (memberships (judged a.placed)) = all_joins (IsKnown x.node) [] a.placed tt (known_joins x.node a.placed own.made) in
    record {
      members = subst (λ (l : List Record). AllByRecursion (IsHeld x.node) (memberships l)) (sym records)
          (all_held x.node (memberships (judged a.placed)) a.lone.node known (λ conn some low closed. none_of_ended x.node a.placed conn own.made (own.ended conn some low closed)));
      names = subst (λ (l : List Record). AllByRecursion HasName (memberships l)) (sym records) (all_names x.node (memberships (judged a.placed)) known);
      tables = subst (λ (l : List Record). AllByRecursion IsNamed (tables_in l)) (sym records) (all_tables x.node [] a.placed tt own.made);
    }

-- ---- why the next ring does not begin

memory_lacks_none : LacksNone refusal.Memory
memory_lacks_none = ((λ (e : refusal.Memory ≡ refusal.NoConnection). absurd cc), (λ (e : refusal.Memory ≡ refusal.BadName). absurd cc))

end_lacks_none : LacksNone refusal.RingEnd
end_lacks_none = ((λ (e : refusal.RingEnd ≡ refusal.NoConnection). absurd cc), (λ (e : refusal.RingEnd ≡ refusal.BadName). absurd cc))

pub moving_lacks_none : (x y : RingNode) (why : Refusal) → WhyMoving x y why → LacksNone why
moving_lacks_none x y why h = ⊎_elim
    (λ (is : why ≡ refusal.Memory). subst LacksNone (sym is) memory_lacks_none)
    (λ (end : (why ≡ refusal.RingEnd) × (0 < length y.state.waiting) × ((t : Token) × (y.state.last_token ≡ Some t) × IsUsedUp x y t)). subst LacksNone (sym end.0) end_lacks_none)
    h

pub begun_lacks_none : (s : Settings) (list : Listed) (x y : ServedValue) (why : Refusal) → IsAlone x → MovesOn x y → IsStill y.node → WhyNotBegun s list y.node why → LacksNone why
begun_lacks_none s list x y why a go still h =
    let all : AreThere y.node = all_there y (alone_moves x y a go).alone still in (
      (λ (e : why ≡ refusal.NoConnection). (subst (WhyNotBegun s list y.node) e h).1 all.members),
      (λ (e : why ≡ refusal.BadName). ⊎_elim (λ (no : ¬ AllByRecursion HasName (memberships (records_of y.node))). no all.names) (λ (no : ¬ AllByRecursion IsNamed (tables_in (records_of y.node))). no all.tables) (subst (WhyNotBegun s list y.node) e h).1),
    )
