-- A record changes no members but those of its own group, and a connection is in a group exactly where
-- one of its members is that connection.
use Rattle.std.proofs.Common.{◌≡◌, ◌≢◌, ℕ, ◌+◌, ◌≤◌, Bool, true, false, not, ◌||◌, cond, List, [], ◌∷◌, ◌++◌, map, refl, sym, ap, subst, ◌∙◌, arith, Option, Some, None}
use Rattle.std.specs.Prelude.{◌↔◌, option_map}
use Rattle.std.proofs.lemmas.List.Sums.{fold_push}
use Rattle.std.proofs.lemmas.Slice.Eq.{bytes_eq-Decides}
use Rattle.std.specs.Str.{bytes_eq}
use Rattle.std.specs.List.{filter, find, list_any}
use Rattle.cpg_entry.specs.declared.calls.Call.TheVariants.{Join, Leave, Send, Insert, Remove}
use Rattle.cpg_entry.specs.declared.calls.Op.{Op}
use Rattle.cpg_entry.specs.declared.calls.Op.TheVariants.{Act, Gone}
use Rattle.cpg_entry.specs.declared.entries.Entry.{Entry}
use Rattle.cpg_record.specs.declared.connections.ConnId.{ConnId}
use Rattle.cpg_record.specs.declared.memberships.Member.{Member}
use Rattle.cpg_record.specs.declared.records.Record.{Record}
use Rattle.cpg_record.specs.Connections.{conn_of, conn_in, is_conn}
use Rattle.cpg_record.specs.Judging.{judged, with_judgement, record_of, draft, entry_group}
use Rattle.cpg_record.specs.Laws.{OthersKeepMembers, MembersAreIn}
use Rattle.cpg_record.specs.Membership.{is_allowed, Membership, memberships, members, members_in, group_of, is_named, is_member}
use Rattle.cpg_record.specs.Steps.{members_by, without}
use Rattle.cpg_record.specs.Verdicts.{op_verdict}
use Rattle.cpg_record.proofs.Growing.{is_conn-true, members_push}
use Rattle.cpg_record.proofs.Kept.{any_passes, passes_any}
use Rattle.cpg_record.proofs.Once.{count, at_conn, group_is_membership, OneEach, one_from}
use Rattle.cpg_record.proofs.Lasting.{is_conn-itself}

-- a group that is there and has the name is that group
pub named_group : (o : Option (List ℕ)) (g : List ℕ) → (is_named o g ≡ true) ↔ (o ≡ Some g)
named_group None g = ((λ h. absurd (cc)), (λ h. absurd (cc)))
named_group (Some h) g = (
  (λ is. ap Some ((bytes_eq-Decides h g).0 is)),
  (λ is.
      let same : h ≡ g = cc in
      (bytes_eq-Decides h g).1 same),
)

-- what isn't one connection isn't so the other way round
pub flip : (a b : ConnId) (x : Bool) → is_conn b a ≡ x → is_conn a b ≡ false → is_conn b a ≡ false
flip a b false is h = is
flip a b true is h =
    let same : b ≡ a = is_conn-true b a is in
    let t : is_conn a b ≡ true = subst (λ (c : ConnId). is_conn a c ≡ true) (sym same) (is_conn-itself a) in
    absurd (cc)

-- the members among memberships of a group
abbrev pub among : List ℕ → List Membership → List Member
among g ss = map (λ (membership : Membership). membership.member) (filter (λ (membership : Membership). bytes_eq membership.group g) ss)

-- the group of the connection's first membership
abbrev pub first_group : ConnId → List Membership → Option (List ℕ)
first_group conn ss = option_map (λ (membership : Membership). membership.group) (find (λ (membership : Membership). is_conn conn (conn_in membership.member)) ss)

-- without the connection's memberships nobody goes
none_goes : (conn : ConnId) (g : List ℕ) (ss : List Membership) → count (at_conn conn) ss ≡ 0 → without conn (among g ss) ≡ among g ss
none_goes conn g [] none = refl
none_goes conn g (s ∷ ss) none = by_case (is_conn conn (conn_in s.member)) (bytes_eq s.group g) refl (none_goes conn g ss) none
  where
    by_case : (b n : Bool) → is_conn conn (conn_in s.member) ≡ b → (count (at_conn conn) ss ≡ 0 → without conn (among g ss) ≡ among g ss) → cond b 1 0 + count (at_conn conn) ss ≡ 0 →
        without conn (map (λ (membership : Membership). membership.member) (cond n (s ∷ filter (λ (membership : Membership). bytes_eq membership.group g) ss) (filter (λ (membership : Membership). bytes_eq membership.group g) ss)))
        ≡ map (λ (membership : Membership). membership.member) (cond n (s ∷ filter (λ (membership : Membership). bytes_eq membership.group g) ss) (filter (λ (membership : Membership). bytes_eq membership.group g) ss))
    by_case true n is others k = absurd (omega arith)
    by_case false false is others k = others (omega arith)
    by_case false true is others k =
        ap (λ (b : Bool). cond (not b) (s.member ∷ without conn (among g ss)) (without conn (among g ss))) (flip conn (conn_in s.member) (is_conn (conn_in s.member) conn) refl is)
        ∙ ap (λ (ms : List Member). s.member ∷ ms) (others (omega arith))

-- a connection that is in another group, or in none, doesn't go from this one
pub stays_there : (conn : ConnId) (g : List ℕ) (ss : List Membership) → count (at_conn conn) ss ≤ 1 → is_named (first_group conn ss) g ≡ false → without conn (among g ss) ≡ among g ss
stays_there conn g [] one other = refl
stays_there conn g (s ∷ ss) one other = by_case (is_conn conn (conn_in s.member)) (bytes_eq s.group g) refl refl (stays_there conn g ss) one other
  where
    by_case : (b n : Bool) → is_conn conn (conn_in s.member) ≡ b → bytes_eq s.group g ≡ n →
        (count (at_conn conn) ss ≤ 1 → is_named (first_group conn ss) g ≡ false → without conn (among g ss) ≡ among g ss) → cond b 1 0 + count (at_conn conn) ss ≤ 1 →
        is_named (option_map (λ (membership : Membership). membership.group) (cond b (Some s) (find (λ (membership : Membership). is_conn conn (conn_in membership.member)) ss))) g ≡ false →
        without conn (map (λ (membership : Membership). membership.member) (cond n (s ∷ filter (λ (membership : Membership). bytes_eq membership.group g) ss) (filter (λ (membership : Membership). bytes_eq membership.group g) ss)))
        ≡ map (λ (membership : Membership). membership.member) (cond n (s ∷ filter (λ (membership : Membership). bytes_eq membership.group g) ss) (filter (λ (membership : Membership). bytes_eq membership.group g) ss))
    by_case true true is named others k h = absurd (cc)
    by_case true false is named others k h = none_goes conn g ss (omega arith)
    by_case false false is named others k h = others (omega arith) h
    by_case false true is named others k h =
        ap (λ (b : Bool). cond (not b) (s.member ∷ without conn (among g ss)) (without conn (among g ss))) (flip conn (conn_in s.member) (is_conn (conn_in s.member) conn) refl is)
        ∙ ap (λ (ms : List Member). s.member ∷ ms) (others (omega arith) h)

other_name : (e : Entry) (ms : List Member) (b : Bool) → b ≡ false → cond b (ms ++ record { node = e.node; conn = e.conn; pid = e.pid } ∷ []) ms ≡ ms
other_name e ms true h = absurd (cc)
other_name e ms false h = refl

elsewhere_by : (rs : List Record) (e : Entry) (op : Op) (g : List ℕ) (v : Bool) → OneEach rs → is_named (entry_group rs e op) g ≡ false →
    cond v (members_by e op g (members rs g)) (members rs g) ≡ members rs g
elsewhere_by rs e op g false one other = refl
elsewhere_by rs e (Act (Join h)) g true one other = other_name e (members rs g) (bytes_eq h g) other
elsewhere_by rs e (Act Leave) g true one other = stays_there (conn_of e) g (memberships rs) (one (conn_of e)) other
elsewhere_by rs e (Act (Send m)) g true one other = refl
elsewhere_by rs e (Act (Insert h index rule)) g true one other = refl
elsewhere_by rs e (Act (Remove h id)) g true one other = refl
elsewhere_by rs e Gone g true one other = stays_there (conn_of e) g (memberships rs) (one (conn_of e)) other

-- a judged record changes the members of its own group alone
pub elsewhere_of : (rs : List Record) (e : Entry) (g : List ℕ) → OneEach rs → is_named (entry_group rs e e.op) g ≡ false → members (rs ++ record_of rs e ∷ []) g ≡ members rs g
elsewhere_of rs e g one other = members_push rs (record_of rs e) g ∙ elsewhere_by rs e e.op g (is_allowed (op_verdict rs e e.op)) one other

-- a group that isn't the one there has another name
not_named : (o : Option (List ℕ)) (g : List ℕ) → o ≢ Some g → is_named o g ≡ false
not_named None g other = refl
not_named (Some h) g other = by_case (bytes_eq h g) refl
  where
    by_case : (b : Bool) → bytes_eq h g ≡ b → b ≡ false
    by_case true is = absurd (other (ap Some ((bytes_eq-Decides h g).0 is)))
    by_case false is = refl

pub others_keep_members : OthersKeepMembers
others_keep_members es e g other =
    ap (λ (rs : List Record). members rs g) (fold_push with_judgement [] es e)
    ∙ elsewhere_of (judged es) e g (one_from [] es (λ c. omega arith)) (not_named (record_of (judged es) e).group g other)

-- and lists those of its group
pub lists_members : (rs : List Record) (e : Entry) (g : List ℕ) → (record_of rs e).group ≡ Some g → (record_of rs e).members ≡ members (rs ++ record_of rs e ∷ []) g
lists_members rs e g is =
    by (entry_group rs e e.op) is
    ∙ members_push rs (draft rs e) g
    ∙ sym (members_push rs (record_of rs e) g)
  where
    by : (o : Option (List ℕ)) → o ≡ Some g → members_in (rs ++ draft rs e ∷ []) o ≡ members (rs ++ draft rs e ∷ []) g
    by None at = absurd (cc)
    by (Some h) at =
        let same : h ≡ g = cc in
        ap (members (rs ++ draft rs e ∷ [])) same

-- ---- who is a member

-- no membership, no member
none_there : (conn : ConnId) (g : List ℕ) (ss : List Membership) → count (at_conn conn) ss ≡ 0 → list_any (λ member. is_conn conn (conn_in member)) (among g ss) ≡ false
none_there conn g [] none = refl
none_there conn g (s ∷ ss) none = by_case (is_conn conn (conn_in s.member)) (bytes_eq s.group g) refl (none_there conn g ss) none
  where
    by_case : (b n : Bool) → is_conn conn (conn_in s.member) ≡ b → (count (at_conn conn) ss ≡ 0 → list_any (λ member. is_conn conn (conn_in member)) (among g ss) ≡ false) → cond b 1 0 + count (at_conn conn) ss ≡ 0 →
        list_any (λ member. is_conn conn (conn_in member)) (map (λ (membership : Membership). membership.member) (cond n (s ∷ filter (λ (membership : Membership). bytes_eq membership.group g) ss) (filter (λ (membership : Membership). bytes_eq membership.group g) ss))) ≡ false
    by_case true n is others k = absurd (omega arith)
    by_case false false is others k = others (omega arith)
    by_case false true is others k = ap (λ (b : Bool). b || list_any (λ member. is_conn conn (conn_in member)) (among g ss)) is ∙ others (omega arith)

-- the first membership's group has the connection as a member, and no other
pub first_there : (conn : ConnId) (g : List ℕ) (ss : List Membership) → count (at_conn conn) ss ≤ 1 → is_named (first_group conn ss) g ≡ list_any (λ member. is_conn conn (conn_in member)) (among g ss)
first_there conn g [] one = refl
first_there conn g (s ∷ ss) one = by_case (is_conn conn (conn_in s.member)) (bytes_eq s.group g) refl refl (first_there conn g ss) one
  where
    by_case : (b n : Bool) → is_conn conn (conn_in s.member) ≡ b → bytes_eq s.group g ≡ n →
        (count (at_conn conn) ss ≤ 1 → is_named (first_group conn ss) g ≡ list_any (λ member. is_conn conn (conn_in member)) (among g ss)) → cond b 1 0 + count (at_conn conn) ss ≤ 1 →
        is_named (option_map (λ (membership : Membership). membership.group) (cond b (Some s) (find (λ (membership : Membership). is_conn conn (conn_in membership.member)) ss))) g
        ≡ list_any (λ member. is_conn conn (conn_in member)) (map (λ (membership : Membership). membership.member) (cond n (s ∷ filter (λ (membership : Membership). bytes_eq membership.group g) ss) (filter (λ (membership : Membership). bytes_eq membership.group g) ss)))
    by_case true true is named others k = named ∙ sym (ap (λ (b : Bool). b || list_any (λ member. is_conn conn (conn_in member)) (among g ss)) is)
    by_case true false is named others k = named ∙ sym (none_there conn g ss (omega arith))
    by_case false false is named others k = others (omega arith)
    by_case false true is named others k = others (omega arith) ∙ sym (ap (λ (b : Bool). b || list_any (λ member. is_conn conn (conn_in member)) (among g ss)) is)

listed_in : (es : List Entry) (conn : ConnId) (g : List ℕ) → is_member (judged es) conn g ≡ list_any (λ member. is_conn conn (conn_in member)) (members (judged es) g)
listed_in es conn g = first_there conn g (memberships (judged es)) (one_from [] es (λ c. omega arith) conn)

pub members_are_in : MembersAreIn
members_are_in es conn g =
    let inside = group_is_membership es conn g in (
      (λ i.
          let there = any_passes (λ member. is_conn conn (conn_in member)) (members (judged es) g)
          (sym (listed_in es conn g) ∙ ap (λ (o : Option (List ℕ)). is_named o g) (inside.0 i) ∙ (bytes_eq-Decides g g).1 refl) in
          (there.0, there.1, sym (is_conn-true conn (conn_in there.0) there.2))),
      (λ (m, listed, is).
          let passes : is_conn conn (conn_in m) ≡ true = subst (λ (c : ConnId). is_conn conn c ≡ true) (sym is) (is_conn-itself conn) in
          inside.1 ((named_group (group_of (judged es) conn) g).0 (listed_in es conn g ∙ passes_any (λ member. is_conn conn (conn_in member)) (members (judged es) g) m listed passes))),
    )
