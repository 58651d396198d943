-- A connection has at most one membership, and a process stands at most once in a group.
use Rattle.std.proofs.Common.{◌≡◌, ℕ, ◌+◌, ◌≤◌, Bool, true, false, not, ◌&&◌, ◌||◌, ◌==◌, cond, List, [], ◌∷◌, ◌++◌, length, refl, sym, ap, subst, ◌∙◌, arith, Some}
use Rattle.std.specs.Prelude.{count_by, is_some, option_map, nat_le, ◌↔◌}
use Rattle.std.specs.Str.{bytes_eq}
use Rattle.std.specs.List.{filter, find, fold, list_any}
use Rattle.std.proofs.lemmas.Bool.{eqb-true}
use Rattle.std.proofs.lemmas.List.Sums.{sum_by-cons}
use Rattle.std.proofs.lemmas.Slice.Eq.{bytes_eq-Decides}
use Rattle.cpg_rules.specs.declared.decisions.Decision.{Decision}
use Rattle.cpg_rules.specs.declared.decisions.Decision.TheVariants as decision
use Rattle.cpg_rules.specs.declared.rules.Right.TheVariants as right
use Rattle.cpg_rules.specs.Decision.{decide}
use Rattle.cpg_entry.specs.declared.calls.Call.TheVariants.{Join, Leave, Send, Insert, Remove}
use Rattle.cpg_entry.specs.declared.calls.Op.{Op}
use Rattle.cpg_entry.specs.declared.calls.Op.TheVariants.{Act, Gone}
use Rattle.cpg_entry.specs.declared.entries.Entry.{Entry}
use Rattle.cpg_entry.specs.Entries.{asker_of}
use Rattle.cpg_record.specs.declared.connections.ConnId.{ConnId}
use Rattle.cpg_record.specs.declared.limits.TheConstants.{MOST_MEMBERS}
use Rattle.cpg_record.specs.declared.memberships.Member.{Member}
use Rattle.cpg_record.specs.declared.records.Record.{Record}
use Rattle.cpg_record.specs.declared.verdicts.Reason.TheVariants as reason
use Rattle.cpg_record.specs.declared.verdicts.Verdict.TheVariants.{Allowed, Denied}
use Rattle.cpg_record.specs.Connections.{conn_of, conn_in, is_conn, member_of}
use Rattle.cpg_record.specs.Judging.{judged, with_judgement, record_of}
use Rattle.cpg_record.specs.Laws.{is_membership, OneMembershipEach, OnceInAGroup, GroupIsMembership}
use Rattle.cpg_record.specs.Membership.{is_allowed, Membership, memberships, taken_by_join, members, group_of}
use Rattle.cpg_record.specs.RuleTables.{rules_of}
use Rattle.cpg_record.specs.Steps.{members_by}
use Rattle.cpg_record.specs.Verdicts.{decided, has_process, join_verdict, op_verdict}
use Rattle.cpg_record.proofs.Growing.{is_conn-true, members_push, memberships_push, stays}
use Rattle.cpg_record.proofs.Lasting.{memberships_are_lasting_joins}

-- ---- counting

-- how many pass the test, by recursion
abbrev pub count : {X : Type 0} → (X → Bool) → List X → ℕ
count p [] = 0
count p (x ∷ xs) = cond (p x) 1 0 + count p xs

count_is : {X : Type 0} (p : X → Bool) (xs : List X) → count p xs ≡ count_by p xs
count_is p [] = refl
count_is p (x ∷ xs) = ap (λ n. cond (p x) 1 0 + n) (count_is p xs) ∙ sym (sum_by-cons (λ y. cond (p y) 1 0) x xs)

count_append : {X : Type 0} (p : X → Bool) (xs ys : List X) → count p (xs ++ ys) ≡ count p xs + count p ys
count_append p [] ys = omega arith
count_append p (x ∷ xs) ys = omega (arith, count_append p xs ys)

count_filter : {X : Type 0} (p q : X → Bool) (xs : List X) → count p (filter q xs) ≤ count p xs
count_filter p q [] = omega arith
count_filter {X} p q (x ∷ xs) = by_case (q x) (count_filter p q xs)
  where
    by_case : (b : Bool) → count p (filter q xs) ≤ count p xs → count p (cond b (x ∷ filter q xs) (filter q xs)) ≤ cond (p x) 1 0 + count p xs
    by_case true fewer = omega arith
    by_case false fewer = omega arith

count_not_found : {X Y : Type 0} (f : X → Y) (p : X → Bool) (xs : List X) → is_some (option_map f (find p xs)) ≡ false → count p xs ≡ 0
count_not_found f p [] h = refl
count_not_found {X} {Y} f p (x ∷ xs) h = by_case (p x) (count_not_found f p xs) h
  where
    by_case : (b : Bool) → (is_some (option_map f (find p xs)) ≡ false → count p xs ≡ 0) → is_some (option_map f (cond b (Some x) (find p xs))) ≡ false → cond b 1 0 + count p xs ≡ 0
    by_case true others k = absurd (cc)
    by_case false others k = ap (λ n. 0 + n) (others k)

count_not_any : {X : Type 0} (p : X → Bool) (xs : List X) → list_any p xs ≡ false → count p xs ≡ 0
count_not_any p [] h = refl
count_not_any {X} p (x ∷ xs) h = by_case (p x) (count_not_any p xs) h
  where
    by_case : (b : Bool) → (list_any p xs ≡ false → count p xs ≡ 0) → (b || list_any p xs) ≡ false → cond b 1 0 + count p xs ≡ 0
    by_case true others k = absurd (cc)
    by_case false others k = ap (λ n. 0 + n) (others k)

-- ---- an allowed join

-- the tests that an allowed join passed
join_passed : (d : Decision) (joined twice full : Bool) →
    is_allowed (decided d (λ by. cond joined (Denied reason.Joined) (cond twice (Denied reason.Twice) (cond full (Denied reason.Full) (Allowed by))))) ≡ true →
    (joined ≡ false) × (twice ≡ false) × (full ≡ false)
join_passed (decision.Denied by) joined twice full h = absurd (cc)
join_passed (decision.Allowed by) true twice full h = absurd (cc)
join_passed (decision.Allowed by) false true full h = absurd (cc)
join_passed (decision.Allowed by) false false true h = absurd (cc)
join_passed (decision.Allowed by) false false false h = (refl, refl, refl)

pub allowed_join : (rs : List Record) (e : Entry) (g : List ℕ) → is_allowed (join_verdict rs e g) ≡ true →
    (is_some (group_of rs (conn_of e)) ≡ false) × (has_process e (members rs g) ≡ false) × (nat_le MOST_MEMBERS (length (members rs g)) ≡ false)
allowed_join rs e g h =
    join_passed (decide (rules_of rs g) right.Join (asker_of e)) (is_some (group_of rs (conn_of e))) (has_process e (members rs g)) (nat_le MOST_MEMBERS (length (members rs g))) h

-- ---- one membership each

abbrev pub at_conn : ConnId → Membership → Bool
at_conn conn membership = is_conn conn (conn_in membership.member)

abbrev pub OneEach : List Record → Type 0
OneEach rs = (conn : ConnId) → count (at_conn conn) (memberships rs) ≤ 1

-- a connection without a membership takes one
take_one : (rs : List Record) (r : Record) (e : Entry) (g : List ℕ) (conn : ConnId) (mine : Bool) → is_conn conn (conn_of e) ≡ mine →
    OneEach rs → is_some (group_of rs (conn_of e)) ≡ false →
    count (at_conn conn) (filter (stays r) (memberships rs)) + (cond mine 1 0 + 0) ≤ 1
take_one rs r e g conn true is one free =
    let same : conn ≡ conn_of e = is_conn-true conn (conn_of e) is in
    let none : count (at_conn conn) (memberships rs) ≡ 0 =
    ap (λ (c : ConnId). count (at_conn c) (memberships rs)) same ∙ count_not_found (λ (membership : Membership). membership.group) (at_conn (conn_of e)) (memberships rs) free in
    omega (arith, count_filter (at_conn conn) (stays r) (memberships rs))
take_one rs r e g conn false is one free = omega (arith, count_filter (at_conn conn) (stays r) (memberships rs), one conn)

one_by : (rs : List Record) (r : Record) (e : Entry) (op : Op) (conn : ConnId) (v : Bool) → is_allowed (op_verdict rs e op) ≡ v → OneEach rs →
    count (at_conn conn) (filter (stays r) (memberships rs)) + count (at_conn conn) (cond v (taken_by_join e op) []) ≤ 1
one_by rs r e op conn false is one = omega (arith, count_filter (at_conn conn) (stays r) (memberships rs), one conn)
one_by rs r e (Act (Join g)) conn true is one = take_one rs r e g conn (is_conn conn (conn_of e)) refl one (allowed_join rs e g is).0
one_by rs r e (Act Leave) conn true is one = omega (arith, count_filter (at_conn conn) (stays r) (memberships rs), one conn)
one_by rs r e (Act (Send m)) conn true is one = omega (arith, count_filter (at_conn conn) (stays r) (memberships rs), one conn)
one_by rs r e (Act (Insert g index rule)) conn true is one = omega (arith, count_filter (at_conn conn) (stays r) (memberships rs), one conn)
one_by rs r e (Act (Remove g id)) conn true is one = omega (arith, count_filter (at_conn conn) (stays r) (memberships rs), one conn)
one_by rs r e Gone conn true is one = omega (arith, count_filter (at_conn conn) (stays r) (memberships rs), one conn)

one_push : (rs : List Record) (e : Entry) → OneEach rs → OneEach (rs ++ record_of rs e ∷ [])
one_push rs e one conn =
    let r : Record = record_of rs e in
    rw (memberships_push rs (record_of rs e), count_append (at_conn conn) (filter (stays (record_of rs e)) (memberships rs)) (cond (is_allowed (op_verdict rs e e.op)) (taken_by_join e e.op) []))
    (one_by rs (record_of rs e) e e.op conn (is_allowed (op_verdict rs e e.op)) refl one)

pub one_from : (rs : List Record) (es : List Entry) → OneEach rs → OneEach (fold with_judgement rs es)
one_from rs [] one = one
one_from rs (e ∷ es) one = one_from (rs ++ record_of rs e ∷ []) es (one_push rs e one)

pub one_membership_each : OneMembershipEach
one_membership_each es conn = rw (← count_is (at_conn conn) (memberships (judged es))) (one_from [] es (λ c. omega arith) conn)

-- ---- once in a group

abbrev pub is_process : ℕ → ℕ → Member → Bool
is_process node pid member = (member.node == node) && (member.pid == pid)

abbrev pub OnceEach : List Record → Type 0
OnceEach rs = (g : List ℕ) (node pid : ℕ) → count (is_process node pid) (members rs g) ≤ 1

-- a process that isn't there comes once
come_once : (ms : List Member) (e : Entry) (node pid : ℕ) (x y : Bool) → (e.node == node) ≡ x → (e.pid == pid) ≡ y →
    count (is_process node pid) ms ≤ 1 → has_process e ms ≡ false → count (is_process node pid) ms + (cond (x && y) 1 0 + 0) ≤ 1
come_once ms e node pid true true is_node is_pid one free =
    let n : e.node ≡ node = eqb-true e.node node is_node in
    let p : e.pid ≡ pid = eqb-true e.pid pid is_pid in
    let none : count (is_process e.node e.pid) ms ≡ 0 = count_not_any (is_process e.node e.pid) ms free in
    let none' : count (is_process node pid) ms ≡ 0 = subst (λ (k : ℕ). count (is_process node k) ms ≡ 0) p (subst (λ (k : ℕ). count (is_process k e.pid) ms ≡ 0) n none) in
    omega arith
come_once ms e node pid true false is_node is_pid one free = omega arith
come_once ms e node pid false y is_node is_pid one free = omega arith

joined_once : (ms : List Member) (e : Entry) (node pid : ℕ) (here : Bool) → count (is_process node pid) ms ≤ 1 → (here ≡ true → has_process e ms ≡ false) →
    count (is_process node pid) (cond here (ms ++ member_of e ∷ []) ms) ≤ 1
joined_once ms e node pid true one free =
    rw (count_append (is_process node pid) ms (member_of e ∷ []))
    (come_once ms e node pid (e.node == node) (e.pid == pid) refl refl one (free refl))
joined_once ms e node pid false one free = one

once_by : (rs : List Record) (e : Entry) (op : Op) (g : List ℕ) (node pid : ℕ) (v : Bool) → is_allowed (op_verdict rs e op) ≡ v → OnceEach rs →
    count (is_process node pid) (cond v (members_by e op g (members rs g)) (members rs g)) ≤ 1
once_by rs e op g node pid false is once = once g node pid
once_by rs e (Act (Join h)) g node pid true is once =
    joined_once (members rs g) e node pid (bytes_eq h g) (once g node pid)
    (λ here. subst (λ (k : List ℕ). has_process e (members rs k) ≡ false) ((bytes_eq-Decides h g).0 here) (allowed_join rs e h is).1)
once_by rs e (Act Leave) g node pid true is once = omega (arith, count_filter (is_process node pid) (λ member. not (is_conn (conn_in member) (conn_of e))) (members rs g), once g node pid)
once_by rs e Gone g node pid true is once = omega (arith, count_filter (is_process node pid) (λ member. not (is_conn (conn_in member) (conn_of e))) (members rs g), once g node pid)
once_by rs e (Act (Send m)) g node pid true is once = once g node pid
once_by rs e (Act (Insert h index rule)) g node pid true is once = once g node pid
once_by rs e (Act (Remove h id)) g node pid true is once = once g node pid

once_push : (rs : List Record) (e : Entry) → OnceEach rs → OnceEach (rs ++ record_of rs e ∷ [])
once_push rs e once g node pid =
    rw (members_push rs (record_of rs e) g) (once_by rs e e.op g node pid (is_allowed (op_verdict rs e e.op)) refl once)

once_from : (rs : List Record) (es : List Entry) → OnceEach rs → OnceEach (fold with_judgement rs es)
once_from rs [] once = once
once_from rs (e ∷ es) once = once_from (rs ++ record_of rs e ∷ []) es (once_push rs e once)

pub once_in_a_group : OnceInAGroup
once_in_a_group es g node pid = rw (← count_is (is_process node pid) (members (judged es) g)) (once_from [] es (λ h n p. omega arith) g node pid)

-- ---- the group of a connection

-- a connection without a membership has none in a group
pub no_membership : (conn : ConnId) (g : List ℕ) (ss : List Membership) → count (at_conn conn) ss ≡ 0 → list_any (is_membership conn g) ss ≡ false
no_membership conn g [] none = refl
no_membership conn g (s ∷ ss) none = by_case (at_conn conn s) (no_membership conn g ss) none
  where
    by_case : (b : Bool) → (count (at_conn conn) ss ≡ 0 → list_any (is_membership conn g) ss ≡ false) → cond b 1 0 + count (at_conn conn) ss ≡ 0 →
        ((b && bytes_eq s.group g) || list_any (is_membership conn g) ss) ≡ false
    by_case true others k = absurd (omega arith)
    by_case false others k = others (omega arith)

-- the first membership decides where no other is there
only_membership : (s : Membership) (g : List ℕ) (b others : Bool) → bytes_eq s.group g ≡ b → others ≡ false → ((b || others) ≡ true) ↔ (Some s.group ≡ Some g)
only_membership s g true others is none = ((λ h. ap Some ((bytes_eq-Decides s.group g).0 is)), (λ h. refl))
only_membership s g false others is none = (
  (λ h. absurd (cc)),
  (λ h.
      let same : s.group ≡ g = cc in
      let t : bytes_eq s.group g ≡ true = (bytes_eq-Decides s.group g).1 same in
      absurd (cc)),
)

-- where one membership at most is the connection's, the first is
first_membership : (conn : ConnId) (g : List ℕ) (ss : List Membership) → count (at_conn conn) ss ≤ 1 →
    (list_any (is_membership conn g) ss ≡ true) ↔ (option_map (λ (membership : Membership). membership.group) (find (at_conn conn) ss) ≡ Some g)
first_membership conn g [] one = ((λ h. absurd (cc)), (λ h. absurd (cc)))
first_membership conn g (s ∷ ss) one = by_case (at_conn conn s) (first_membership conn g ss) one
  where
    by_case : (b : Bool) → (count (at_conn conn) ss ≤ 1 → (list_any (is_membership conn g) ss ≡ true) ↔ (option_map (λ (membership : Membership). membership.group) (find (at_conn conn) ss) ≡ Some g)) →
        cond b 1 0 + count (at_conn conn) ss ≤ 1 →
        (((b && bytes_eq s.group g) || list_any (is_membership conn g) ss) ≡ true) ↔ (option_map (λ (membership : Membership). membership.group) (cond b (Some s) (find (at_conn conn) ss)) ≡ Some g)
    by_case true others k = only_membership s g (bytes_eq s.group g) (list_any (is_membership conn g) ss) refl (no_membership conn g ss (omega arith))
    by_case false others k = others (omega arith)

pub group_is_membership : GroupIsMembership
group_is_membership es conn g =
    let membership = memberships_are_lasting_joins (judged es) conn g in
    let first = first_membership conn g (memberships (judged es)) (one_from [] es (λ c. omega arith) conn) in
    ((λ i. first.0 (membership.0 i)), (λ h. membership.1 (first.1 h)))
