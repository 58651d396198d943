-- What one record more does to the memberships, the members, a connection's group and the rules.
use Rattle.std.proofs.Common.{◌≡◌, ℕ, ◌+◌, ◌<◌, Bool, true, false, not, ◌&&◌, ◌||◌, cond, List, [], ◌∷◌, ◌++◌, length, take, get_or, map, refl, sym, ap, ◌∙◌, arith, Option, Some, None, append_assoc, add-zero}
use Rattle.std.specs.Str.{bytes_eq}
use Rattle.std.specs.List.{filter, find, fold, list_any, enumerate_from}
use Rattle.std.proofs.lemmas.List.{append-nil, map-append, take_more, length-take-le}
use Rattle.std.specs.Option.{option_map, option_or}
use Rattle.std.proofs.lemmas.List.Elements.{filter-append}
use Rattle.std.proofs.lemmas.List.Folds.{list_any-append, find-append}
use Rattle.std.proofs.lemmas.List.Sums.{fold_push}
use Rattle.std.proofs.lemmas.Bool.{eqb-true}
use Rattle.cpg_entry.specs.declared.entries.Entry.{Entry}
use Rattle.cpg_entry.specs.declared.calls.Op.{Op}
use Rattle.cpg_entry.specs.declared.calls.Op.TheVariants.{Act, Gone}
use Rattle.cpg_entry.specs.declared.calls.Call.TheVariants.{Join, Leave, Send, Insert, Remove}
use Rattle.cpg_record.specs.declared.records.Record.{Record}
use Rattle.cpg_record.specs.declared.connections.ConnId.{ConnId}
use Rattle.cpg_record.specs.Connections.{conn_of, conn_in, is_conn, member_of}
use Rattle.cpg_record.specs.Membership.{is_allowed, is_end, ends, Membership, taken, taken_by_join, memberships, members, group_of}
use Rattle.cpg_record.specs.RuleTables.{edited, rules_of}
use Rattle.cpg_record.specs.Steps.{members_after, members_by, without, group_after, group_by}

-- ---- lists

pub filter-map : {X Y : Type 0} (p : Y → Bool) (f : X → Y) (xs : List X) → filter p (map f xs) ≡ map f (filter (λ x. p (f x)) xs)
filter-map p f [] = refl
filter-map {X} {Y} p f (x ∷ xs) =
    elim (p (f x)) as (λ b. cond b (f x ∷ filter p (map f xs)) (filter p (map f xs)) ≡ map f (cond b (x ∷ filter (λ y. p (f y)) xs) (filter (λ y. p (f y)) xs)))
    [ true ↦ ap (λ ys. f x ∷ ys) (filter-map p f xs) | false ↦ filter-map p f xs ]

pub filter_swap : {X : Type 0} (p q : X → Bool) (xs : List X) → filter p (filter q xs) ≡ filter q (filter p xs)
filter_swap p q [] = refl
filter_swap p q (x ∷ xs) = grind (arith, filter_swap p q xs)

pub filter_keeps : {X : Type 0} (xs : List X) → filter (λ (x : X). true) xs ≡ xs
filter_keeps [] = refl
filter_keeps (x ∷ xs) = ap (λ ys. x ∷ ys) (filter_keeps xs)

-- ---- memberships

-- the membership outlasts the record
abbrev pub stays : Record → Membership → Bool
stays r s = not (ends (conn_in s.member) r)

-- a filter by two tests at once
pub filter_both : {X : Type 0} (p q t : X → Bool) → ((x : X) → t x ≡ (p x && q x)) → (xs : List X) → filter t xs ≡ filter q (filter p xs)
filter_both p q t is [] = refl
filter_both p q t is (x ∷ xs) =
    grind (arith, is x, filter_both p q t is xs)

pub find-filter : {X : Type 0} (p q : X → Bool) (b : Bool) → ((x : X) → p x ≡ true → q x ≡ b) → (xs : List X) → find p (filter q xs) ≡ cond b (find p xs) None
find-filter p q b is [] = grind arith
find-filter p q b is (x ∷ xs) = grind (arith, find-filter p q b is xs, is x)

no_later : (past e : Bool) → not (past || (e || false)) ≡ (not past && not e)
no_later true e = refl
no_later false true = refl
no_later false false = refl

pub memberships_push : (rs : List Record) (r : Record) → memberships (rs ++ r ∷ []) ≡ filter (stays r) (memberships rs) ++ taken r
memberships_push [] r = append-nil _ ∙ filter_keeps (taken r)
memberships_push (q ∷ rs) r =
    let now : filter (λ s. not (list_any (ends (conn_in s.member)) (rs ++ r ∷ []))) (taken q) ≡ filter (stays r) (filter (λ s. not (list_any (ends (conn_in s.member)) rs)) (taken q)) =
    filter_both (λ s. not (list_any (ends (conn_in s.member)) rs)) (stays r) _
    (λ s. ap not (list_any-append (ends (conn_in s.member)) rs (r ∷ [])) ∙ no_later (list_any (ends (conn_in s.member)) rs) (ends (conn_in s.member) r)) (taken q) in
    rw (now, memberships_push rs r, filter-append (stays r)) (sym (append_assoc (filter (stays r) (filter (λ s. not (list_any (ends (conn_in s.member)) rs)) (taken q))) (filter (stays r) (memberships rs)) (taken r)))

-- ---- members

ended : (e : Entry) (g : List ℕ) (ss : List Membership) →
    map (λ (s : Membership). s.member) (filter (λ (s : Membership). bytes_eq s.group g) (filter (λ s. not (is_conn (conn_in s.member) (conn_of e))) ss ++ []))
    ≡ without (conn_of e) (map (λ (s : Membership). s.member) (filter (λ (s : Membership). bytes_eq s.group g) ss))
ended e g ss =
    let T : Membership → Bool = λ s. not (is_conn (conn_in s.member) (conn_of e)) in
    let G : Membership → Bool = λ s. bytes_eq s.group g in
    ap (λ xs. map (λ (s : Membership). s.member) (filter G xs)) (append-nil (filter T ss))
    ∙ ap (map (λ (s : Membership). s.member)) (filter_swap G T ss)
    ∙ sym (filter-map (λ m. not (is_conn (conn_in m) (conn_of e))) (λ (s : Membership). s.member) (filter G ss))

members_case : (e : Entry) (g : List ℕ) (v : Bool) (op : Op) (ss : List Membership) →
    map (λ (s : Membership). s.member) (filter (λ (s : Membership). bytes_eq s.group g) (filter (λ s. not (v && is_end op && is_conn (conn_in s.member) (conn_of e))) ss ++ cond v (taken_by_join e op) []))
    ≡ cond v (members_by e op g (map (λ (s : Membership). s.member) (filter (λ (s : Membership). bytes_eq s.group g) ss))) (map (λ (s : Membership). s.member) (filter (λ (s : Membership). bytes_eq s.group g) ss))
members_case e g false op ss = rw (append-nil _, filter_keeps ss) refl
members_case e g true (Act (Join h)) ss =
    rw (filter_keeps ss, filter-append, map-append)
    (elim (bytes_eq h g) as (λ b. map (λ (s : Membership). s.member) (filter (λ (s : Membership). bytes_eq s.group g) ss) ++ map (λ (s : Membership). s.member) (cond b ((record { group = h; member = member_of e }) ∷ []) [])
    ≡ cond b (map (λ (s : Membership). s.member) (filter (λ (s : Membership). bytes_eq s.group g) ss) ++ member_of e ∷ []) (map (λ (s : Membership). s.member) (filter (λ (s : Membership). bytes_eq s.group g) ss)))
    [ true ↦ refl | false ↦ append-nil _ ])
members_case e g true (Act Leave) ss = ended e g ss
members_case e g true Gone ss = ended e g ss
members_case e g true (Act (Send m)) ss = rw (append-nil _, filter_keeps ss) refl
members_case e g true (Act (Insert h at rule)) ss = rw (append-nil _, filter_keeps ss) refl
members_case e g true (Act (Remove h id)) ss = rw (append-nil _, filter_keeps ss) refl

pub members_push : (rs : List Record) (r : Record) (g : List ℕ) → members (rs ++ r ∷ []) g ≡ members_after r g (members rs g)
members_push rs r g =
    ap (λ ss. map (λ (s : Membership). s.member) (filter (λ (s : Membership). bytes_eq s.group g) ss)) (memberships_push rs r)
    ∙ members_case r.entry g (is_allowed r.verdict) r.entry.op (memberships rs)

-- ---- a connection's group

pub is_conn-true : (a b : ConnId) → is_conn a b ≡ true → a ≡ b
is_conn-true a b h =
    let n : a.node ≡ b.node = grind (arith, eqb-true a.node b.node) in
    let k : a.conn ≡ b.conn = grind (arith, eqb-true a.conn b.conn) in
    λ i. record { node = n i; conn = k i }

ended_group : (b : Bool) (o : Option Membership) → option_map (λ (s : Membership). s.group) (option_or (cond (not b) o None) None) ≡ cond b None (option_map (λ (s : Membership). s.group) o)
ended_group true o = refl
ended_group false None = refl
ended_group false (Some s) = refl

other_group : (b : Bool) (o : Option Membership) → option_map (λ (s : Membership). s.group) (option_or o None) ≡ cond b (option_map (λ (s : Membership). s.group) o) (option_map (λ (s : Membership). s.group) o)
other_group true None = refl
other_group true (Some s) = refl
other_group false None = refl
other_group false (Some s) = refl

group_case : (e : Entry) (c : ConnId) (v b : Bool) (op : Op) (o : Option Membership) → is_conn c (conn_of e) ≡ b →
    option_map (λ (s : Membership). s.group) (option_or (cond (not (v && is_end op && b)) o None) (find (λ s. is_conn c (conn_in s.member)) (cond v (taken_by_join e op) [])))
    ≡ cond (v && b) (group_by op (option_map (λ (s : Membership). s.group) o)) (option_map (λ (s : Membership). s.group) o)
group_case e c false b op None is = refl
group_case e c false b op (Some s) is = refl
group_case e c true b (Act Leave) o is = ended_group b o
group_case e c true b Gone o is = ended_group b o
group_case e c true b (Act (Join h)) None is = rw is (elim b as (λ v. option_map (λ (s : Membership). s.group) (cond v (Some (record { group = h; member = member_of e })) None) ≡ cond v (Some h) None) [ true ↦ refl | false ↦ refl ])
group_case e c true b (Act (Join h)) (Some s) is = elim b as (λ v. Some s.group ≡ cond v (Some s.group) (Some s.group)) [ true ↦ refl | false ↦ refl ]
group_case e c true b (Act (Send m)) o is = other_group b o
group_case e c true b (Act (Insert h at rule)) o is = other_group b o
group_case e c true b (Act (Remove h id)) o is = other_group b o

pub group_of_push : (rs : List Record) (r : Record) (c : ConnId) → group_of (rs ++ r ∷ []) c ≡ group_after r c (group_of rs c)
group_of_push rs r c =
    ap (λ ss. option_map (λ (s : Membership). s.group) (find (λ s. is_conn c (conn_in s.member)) ss)) (memberships_push rs r)
    ∙ ap (option_map (λ (s : Membership). s.group)) (find-append (λ s. is_conn c (conn_in s.member)) (filter (stays r) (memberships rs)) (taken r))
    ∙ ap (λ o. option_map (λ (s : Membership). s.group) (option_or o (find (λ s. is_conn c (conn_in s.member)) (taken r))))
    (find-filter (λ s. is_conn c (conn_in s.member)) (stays r) (not (ends c r)) (λ s h. ap (λ d. not (ends d r)) (sym (is_conn-true c (conn_in s.member) h))) (memberships rs))
    ∙ group_case r.entry c (is_allowed r.verdict) (is_conn c (conn_of r.entry)) r.entry.op (find (λ s. is_conn c (conn_in s.member)) (memberships rs)) refl

-- ---- the rules

-- the places of a list with one element more
pub enumerate_from-push : {X : Type 0} (n : ℕ) (xs : List X) (x : X) → enumerate_from n (xs ++ x ∷ []) ≡ enumerate_from n xs ++ (n + length xs, x) ∷ []
enumerate_from-push n [] x = rw (add-zero n) refl
enumerate_from-push n (y ∷ xs) x = ap (λ ys. (n, y) ∷ ys) (enumerate_from-push (n + 1) xs x ∙ ap (λ k. enumerate_from (n + 1) xs ++ (k, x) ∷ []) (omega arith))

-- the rules after one record more: an allowed edit has its place as the id
pub rules_of_push : (rs : List Record) (r : Record) (g : List ℕ) → rules_of (rs ++ r ∷ []) g ≡ edited g (rules_of rs g) (1 + length rs, r)
rules_of_push rs r g =
    ap (fold (edited g) []) (enumerate_from-push 1 rs r) ∙ fold_push (edited g) [] (enumerate_from 1 rs) (1 + length rs, r)

-- ---- steps of loops over the records

pub members_more : (rs : List Record) (i : ℕ) (d : Record) (g : List ℕ) → i < length rs → members (take (i + 1) rs) g ≡ members_after (get_or rs i d) g (members (take i rs) g)
members_more rs i d g h = ap (λ ps. members ps g) (take_more rs i d h) ∙ members_push (take i rs) (get_or rs i d) g

pub group_of_more : (rs : List Record) (i : ℕ) (d : Record) (c : ConnId) → i < length rs → group_of (take (i + 1) rs) c ≡ group_after (get_or rs i d) c (group_of (take i rs) c)
group_of_more rs i d c h = ap (λ ps. group_of ps c) (take_more rs i d h) ∙ group_of_push (take i rs) (get_or rs i d) c

pub rules_of_more : (rs : List Record) (i : ℕ) (d : Record) (g : List ℕ) → i < length rs → rules_of (take (i + 1) rs) g ≡ edited g (rules_of (take i rs) g) (i + 1, get_or rs i d)
rules_of_more rs i d g h =
    ap (λ ps. rules_of ps g) (take_more rs i d h) ∙ rules_of_push (take i rs) (get_or rs i d) g
    ∙ ap (λ n. edited g (rules_of (take i rs) g) (n, get_or rs i d)) (omega (arith, length-take-le i rs (omega arith)))
