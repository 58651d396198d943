-- A listing shows exactly the processes of the connections that are in the group.
use Rattle.std.proofs.Common.{◌≡◌, ◌≢◌, ℕ, zero, suc, Bool, true, false, not, cond, List, [], ◌∷◌, ◌++◌, map, Ok, Contains, refl, sym, ap, ◌∙◌, subst, ⊎_elim, arith}
use Rattle.std.specs.Prelude.{◌↔◌}
use Rattle.std.specs.Str.{bytes_eq}
use Rattle.std.specs.List.{filter, list_any}
use Rattle.std.proofs.lemmas.Slice.Eq.{bytes_eq-Decides}
use Rattle.std.proofs.lemmas.List.Elements.{Contains-append_left, Contains-append_right, Contains-append_cases}
use Rattle.cpg_cred.specs.declared.bases.By.{By}
use Rattle.cpg_rules.specs.declared.decisions.Decision.{Decision}
use Rattle.cpg_rules.specs.declared.decisions.Decision.TheVariants as decision
use Rattle.cpg_rules.specs.declared.rules.Asker.{Asker}
use Rattle.cpg_rules.specs.declared.rules.Effect.TheVariants.{Allow}
use Rattle.cpg_rules.specs.declared.rules.Right.TheVariants as right
use Rattle.cpg_entry.specs.declared.entries.Entry.{Entry}
use Rattle.cpg_entry.specs.declared.calls.Op.{Op}
use Rattle.cpg_entry.specs.declared.calls.Op.TheVariants.{Act, Gone}
use Rattle.cpg_entry.specs.declared.calls.Call.TheVariants.{Join, Leave, Send, Insert, Remove}
use Rattle.cpg_record.specs.declared.connections.ConnId.{ConnId}
use Rattle.cpg_record.specs.declared.memberships.Member.{Member}
use Rattle.cpg_record.specs.declared.records.Record.{Record}
use Rattle.cpg_record.specs.Connections.{conn_of, conn_in, member_of}
use Rattle.cpg_record.specs.Laws.{InGroup}
use Rattle.cpg_record.specs.Listings.{processes, shown, list_decision}
use Rattle.cpg_record.specs.Membership.{is_allowed, ends, Membership, memberships, taken, taken_by_join, members}
use Rattle.cpg_record.specs.RuleTables.{rules_of}
use Rattle.cpg_record.specs.Showing.{HasProcess, HasMember, MayList, ListingsShowMembers, GroupsWithMembersAreNamed}
use Rattle.cpg_record.proofs.Kept.{Contains-behind, Contains-filter, Contains-from_filter}
use Rattle.cpg_record.proofs.Lasting.{lasting}
use Rattle.cpg_record.proofs.Why.{decided_so, decides_so, DecidedSo}

-- ---- elements of a mapped list

Contains-map : {X Y : Type 0} (f : X → Y) (xs : List X) (x : X) → Contains xs x → Contains (map f xs) (f x)
Contains-map f [] x (k, below, at) = absurd (omega arith)
Contains-map f (y ∷ xs) x (zero, below, at) = (0, omega arith, ap f at)
Contains-map f (y ∷ xs) x (suc k, below, at) = Contains-behind (f y) (map f xs) (f x) (Contains-map f xs x (k, omega arith, at))

Contains-from_map : {X Y : Type 0} (f : X → Y) (xs : List X) (y : Y) → Contains (map f xs) y → (x : X) × Contains xs x × (f x ≡ y)
Contains-from_map f [] y (k, below, at) = absurd (omega arith)
Contains-from_map f (x ∷ xs) y (zero, below, at) = (x, (0, omega arith, refl), at)
Contains-from_map f (x ∷ xs) y (suc k, below, at) =
    let later = Contains-from_map f xs y (k, omega arith, at) in
    (later.0, Contains-behind x xs later.0 later.1, later.2)

-- ---- memberships, each with the join that took it

-- the connection is in the group by a join that makes it that member
abbrev JoinedAs : List Record → Membership → Type 0
JoinedAs rs s = (i : InGroup rs (conn_in s.member) s.group) × (member_of i.join.entry ≡ s.member)

alone : {X : Type 0} (x y : X) → Contains (x ∷ []) y → x ≡ y
alone x y (zero, below, at) = at
alone x y (suc k, below, at) = absurd (omega arith)

nothing : {X : Type 0} (y : X) → Contains [] y → ⊥
nothing y (k, below, at) = omega arith

-- what a membership of a record says of it
record TakenBy (e : Entry) (v : Bool) (op : Op) (s : Membership) : Type 0 where
  allowed : v ≡ true
  joins : op ≡ Act (Join s.group)
  is : member_of e ≡ s.member

taken_so : (e : Entry) (v : Bool) (op : Op) (s : Membership) → Contains (cond v (taken_by_join e op) []) s → TakenBy e v op s
taken_so e false op s h = absurd (nothing s h)
taken_so e true (Act (Join g)) s h =
    let same = alone (record { group = g; member = member_of e }) s h in
    record { allowed = refl; joins = ap (λ (t : Membership). Act (Join t.group)) same; is = ap (λ (t : Membership). t.member) same }
taken_so e true (Act Leave) s h = absurd (nothing s h)
taken_so e true (Act (Send message)) s h = absurd (nothing s h)
taken_so e true (Act (Insert g index rule)) s h = absurd (nothing s h)
taken_so e true (Act (Remove g id)) s h = absurd (nothing s h)
taken_so e true Gone s h = absurd (nothing s h)

no_end : (b : Bool) → not b ≡ true → b ≡ false
no_end true h = absurd (cc)
no_end false h = refl

membership_joined : (rs : List Record) (s : Membership) → Contains (memberships rs) s → JoinedAs rs s
membership_joined [] s h = absurd (nothing s h)
membership_joined (r ∷ later) s h = ⊎_elim own (λ there. further (membership_joined later s there)) (Contains-append_cases (lasting r later) (memberships later) s h)
  where
    own : Contains (lasting r later) s → JoinedAs (r ∷ later) s
    own here =
        let kept = Contains-from_filter (λ (membership : Membership). not (list_any (ends (conn_in membership.member)) later)) (taken r) s here in
        let t = taken_so r.entry (is_allowed r.verdict) r.entry.op s kept.1 in
        (record { before = []; join = r; after = later; stands = refl; by = ap conn_in (sym t.is); joins = t.joins; allowed = t.allowed; lasts = no_end (list_any (ends (conn_in s.member)) later) kept.0 }, t.is)

    further : JoinedAs later s → JoinedAs (r ∷ later) s
    further j =
        (record { before = r ∷ j.0.before; join = j.0.join; after = j.0.after; stands = ap (λ xs. r ∷ xs) j.0.stands; by = j.0.by; joins = j.0.joins; allowed = j.0.allowed; lasts = j.0.lasts }, j.1)

-- the membership that a join takes
abbrev membership_by : Entry → List ℕ → Membership
membership_by e g = record { group = g; member = member_of e }

own_membership : (e : Entry) (v : Bool) (op : Op) (g : List ℕ) (later : List Record) → v ≡ true → op ≡ Act (Join g) → list_any (ends (conn_of e)) later ≡ false →
    Contains (filter (λ (membership : Membership). not (list_any (ends (conn_in membership.member)) later)) (cond v (taken_by_join e op) [])) (membership_by e g)
own_membership e v op g later allowed joins lasts =
    rw (allowed, joins) (Contains-filter (λ (membership : Membership). not (list_any (ends (conn_in membership.member)) later)) (membership_by e g ∷ []) (membership_by e g) (ap not lasts) (0, omega arith, refl))

lasts_on : (before : List Record) (r : Record) (after : List Record) (s : Membership) → Contains (lasting r after) s → Contains (memberships (before ++ r ∷ after)) s
lasts_on [] r after s h = Contains-append_left (lasting r after) (memberships after) s h
lasts_on (q ∷ before) r after s h = Contains-append_right (lasting q (before ++ r ∷ after)) (memberships (before ++ r ∷ after)) s (lasts_on before r after s h)

joined_membership : (rs : List Record) (conn : ConnId) (g : List ℕ) (i : InGroup rs conn g) → Contains (memberships rs) (membership_by i.join.entry g)
joined_membership rs conn g i =
    let lasts = subst (λ (c : ConnId). list_any (ends c) i.after ≡ false) i.by i.lasts in
    subst (λ (list : List Record). Contains (memberships list) (membership_by i.join.entry g)) (sym i.stands)
    (lasts_on i.before i.join i.after (membership_by i.join.entry g) (own_membership i.join.entry (is_allowed i.join.verdict) i.join.entry.op g i.after i.allowed i.joins lasts))

-- ---- members

-- each member of a group joined it as that member
pub member_joined : (rs : List Record) (g : List ℕ) (m : Member) → Contains (members rs g) m → (i : InGroup rs (conn_in m) g) × (member_of i.join.entry ≡ m)
member_joined rs g m h =
    let of_membership = Contains-from_map (λ (s : Membership). s.member) (filter (λ (s : Membership). bytes_eq s.group g) (memberships rs)) m h in
    let kept = Contains-from_filter (λ (s : Membership). bytes_eq s.group g) (memberships rs) of_membership.0 of_membership.1 in
    let joined = membership_joined rs of_membership.0 kept.1 in
    let named : of_membership.0.group ≡ g = (bytes_eq-Decides of_membership.0.group g).0 kept.0 in
    subst (λ (name : List ℕ). (i : InGroup rs (conn_in m) name) × (member_of i.join.entry ≡ m)) named
    (subst (λ (n : Member). (i : InGroup rs (conn_in n) of_membership.0.group) × (member_of i.join.entry ≡ n)) of_membership.2 joined)

-- and whoever joined it is a member
pub joined_member : (rs : List Record) (conn : ConnId) (g : List ℕ) (i : InGroup rs conn g) → Contains (members rs g) (member_of i.join.entry)
joined_member rs conn g i =
    Contains-map (λ (s : Membership). s.member) (filter (λ (s : Membership). bytes_eq s.group g) (memberships rs)) (membership_by i.join.entry g)
    (Contains-filter (λ (s : Membership). bytes_eq s.group g) (memberships rs) (membership_by i.join.entry g) ((bytes_eq-Decides g g).1 refl) (joined_membership rs conn g i))

-- ---- processes

shows_member : (rs : List Record) (g : List ℕ) (node pid : ℕ) → Contains (processes (members rs g)) (node, pid) → HasProcess rs g node pid
shows_member rs g node pid h =
    let of_member = Contains-from_map (λ (m : Member). (m.node, m.pid)) (members rs g) (node, pid) h in
    let m = of_member.0 in
    let joined = member_joined rs g m of_member.1 in
    let same_node : m.node ≡ node = ap (λ (p : ℕ × ℕ). p.0) of_member.2 in
    let same_pid : m.pid ≡ pid = ap (λ (p : ℕ × ℕ). p.1) of_member.2 in
    let is_in = subst (λ (n : ℕ). (i : InGroup rs (record { node = n; conn = m.conn }) g) × (i.join.entry.pid ≡ pid)) same_node (joined.0, ap (λ (n : Member). n.pid) joined.1 ∙ same_pid) in
    (m.conn, is_in.0, is_in.1)

member_shown : (rs : List Record) (g : List ℕ) (node pid : ℕ) → HasProcess rs g node pid → Contains (processes (members rs g)) (node, pid)
member_shown rs g node pid (conn, i, same_pid) =
    let listed = Contains-map (λ (m : Member). (m.node, m.pid)) (members rs g) (member_of i.join.entry) (joined_member rs (record { node = node; conn = conn }) g i) in
    let same_node : i.join.entry.node ≡ node = ap (λ (c : ConnId). c.node) (sym i.by) in
    subst (λ (n : ℕ). Contains (processes (members rs g)) (n, pid)) same_node
    (subst (λ (p : ℕ). Contains (processes (members rs g)) (i.join.entry.node, p)) same_pid listed)

-- ---- listings

-- a listing that is shown is that of the members
shown_so : (d : Decision) (list : List Member) (pairs : List (ℕ × ℕ)) → shown d list ≡ Ok pairs → ((b : By) × (d ≡ decision.Allowed b)) × (processes list ≡ pairs)
shown_so (decision.Allowed b) list pairs is = ((b, refl), cc)
shown_so (decision.Denied b) list pairs is = absurd (cc)

may_list : (rs : List Record) (asker : Asker) (g : List ℕ) → ((b : By) × (list_decision rs asker g ≡ decision.Allowed b)) ↔ MayList rs asker g
may_list rs asker g = (
  (λ (b, is). (b, subst (λ (d : Decision). DecidedSo (rules_of rs g) right.List asker d) is (decided_so (rules_of rs g) right.List asker))),
  (λ (b, says). (b, decides_so (rules_of rs g) right.List asker Allow b says)),
)

pub listings_show_members : ListingsShowMembers
listings_show_members rs asker g = record {
  where_allowed = (
    (λ (list, is). (may_list rs asker g).0 (shown_so (list_decision rs asker g) (members rs g) list is).0),
    (λ may. let allowed = (may_list rs asker g).1 may in (processes (members rs g), ap (λ (d : Decision). shown d (members rs g)) allowed.1)),
  );
  exactly = λ list is node pid.
      let same = (shown_so (list_decision rs asker g) (members rs g) list is).1 in (
        (λ h. shows_member rs g node pid (subst (λ (l : List (ℕ × ℕ)). Contains l (node, pid)) (sym same) h)),
        (λ has. subst (λ (l : List (ℕ × ℕ)). Contains l (node, pid)) same (member_shown rs g node pid has)),
      );
}

-- ---- groups

some_member : (rs : List Record) (g : List ℕ) → members rs g ≢ [] → HasMember rs g
some_member rs g there = by_list (members rs g) refl
  where
    by_list : (list : List Member) → members rs g ≡ list → HasMember rs g
    by_list [] is = absurd (there is)
    by_list (m ∷ list) is = (conn_in m, (member_joined rs g m (subst (λ (l : List Member). Contains l m) (sym is) (0, omega arith, refl))).0)

pub groups_with_members_are_named : GroupsWithMembersAreNamed
groups_with_members_are_named rs asker g = (
  (λ (there, allowed). (some_member rs g there, (may_list rs asker g).0 allowed)),
  (λ ((conn, i), may).
      let listed = joined_member rs conn g i in
      ((λ none. nothing (member_of i.join.entry) (subst (λ (l : List Member). Contains l (member_of i.join.entry)) none listed)), (may_list rs asker g).1 may)),
)
