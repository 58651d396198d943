-- What a change in an inbox says, in the words of membership.
use Rattle.std.proofs.Common.{◌≡◌, ℕ, ◌+◌, ◌-◌, ◌≤◌, ◌⊎◌, inl, inr, Bool, true, false, ◌&&◌, ◌||◌, cond, List, [], ◌∷◌, ◌++◌, take, map, Some, None, refl, sym, ap, ◌∙◌, subst, arith}
use Rattle.std.specs.Prelude.{◌↔◌, Contains}
use Rattle.std.specs.List.{filter, list_any}
use Rattle.std.specs.Str.{bytes_eq}
use Rattle.std.proofs.lemmas.Option.{cond_some}
use Rattle.cpg_entry.specs.declared.calls.Call.TheVariants.{Join, Leave, Send, Insert, Remove}
use Rattle.cpg_entry.specs.declared.calls.Op.{Op}
use Rattle.cpg_entry.specs.declared.calls.Op.TheVariants.{Act, Gone}
use Rattle.cpg_entry.specs.declared.entries.Entry.{Entry}
use Rattle.cpg_record.specs.declared.connections.ConnId.{ConnId}
use Rattle.cpg_record.specs.declared.events.Event.TheVariants as event
use Rattle.cpg_record.specs.declared.memberships.Member.{Member}
use Rattle.cpg_record.specs.declared.moves.Cause.{Cause}
use Rattle.cpg_record.specs.declared.moves.Cause.TheVariants as cause
use Rattle.cpg_record.specs.declared.moves.Move.{Move}
use Rattle.cpg_record.specs.declared.records.Record.{Record}
use Rattle.cpg_record.specs.Connections.{conn_of, conn_in, is_conn, member_of}
use Rattle.cpg_record.specs.Events.{hears_change, inbox, moves_of, news_by}
use Rattle.cpg_record.specs.Judging.{judged, record_of, entry_group}
use Rattle.cpg_record.specs.Laws.{InGroup, is_membership, RecordsListTheirMembers}
use Rattle.cpg_record.specs.Membership.{group_of, is_member, members, Membership, memberships}
use Rattle.cpg_record.specs.Places.{record_at, records_before}
use Rattle.cpg_record.specs.Receiving.{AreMoves, HasLeft, IsChange, HearsChangesExactly}
use Rattle.cpg_record.proofs.Denials.{prefixes_are_judged_alike}
use Rattle.cpg_record.proofs.Elsewhere.{among, flip, lists_members}
use Rattle.cpg_record.proofs.Growing.{is_conn-true}
use Rattle.cpg_record.proofs.Inboxes.{in_single}
use Rattle.cpg_record.proofs.Kept.{Contains-filter, Contains-from_filter}
use Rattle.cpg_record.proofs.Once.{at_conn, count, no_membership, one_from}
use Rattle.cpg_record.proofs.Lasting.{is_conn-itself, memberships_are_lasting_joins}
use Rattle.cpg_record.proofs.Told.{heard, hears, first_records, group_in_first, member_in_first, record_is}

-- ---- the member that a connection is

turned : (a b : ConnId) (x : Bool) → is_conn a b ≡ x → is_conn b a ≡ x
turned a b true is = subst (λ (c : ConnId). is_conn c a ≡ true) (is_conn-true a b is) (is_conn-itself a)
turned a b false is = flip a b (is_conn b a) refl is

-- the members of a list that are the connection
abbrev picked : ConnId → List Member → List Member
picked c list = filter (λ (member : Member). is_conn (conn_in member) c) list

none_picked : (c : ConnId) (g : List ℕ) (ss : List Membership) → count (at_conn c) ss ≡ 0 → picked c (among g ss) ≡ []
none_picked c g [] none = refl
none_picked c g (s ∷ ss) none = by_case (is_conn c (conn_in s.member)) (bytes_eq s.group g) refl (none_picked c g ss) none
  where
    by_case : (b n : Bool) → is_conn c (conn_in s.member) ≡ b → (count (at_conn c) ss ≡ 0 → picked c (among g ss) ≡ []) → cond b 1 0 + count (at_conn c) ss ≡ 0 →
        picked c (map (λ (membership : Membership). membership.member) (cond n (s ∷ filter (λ (membership : Membership). bytes_eq membership.group g) ss) (filter (λ (membership : Membership). bytes_eq membership.group g) ss))) ≡ []
    by_case true n is others k = absurd (omega arith)
    by_case false false is others k = others (omega arith)
    by_case false true is others k =
        ap (λ (b : Bool). cond b (s.member ∷ picked c (among g ss)) (picked c (among g ss))) (turned c (conn_in s.member) false is) ∙ others (omega arith)

one_picked : (c : ConnId) (g : List ℕ) (ss : List Membership) → count (at_conn c) ss ≤ 1 → list_any (is_membership c g) ss ≡ true → (m : Member) × (picked c (among g ss) ≡ m ∷ [])
one_picked c g [] one has = absurd (cc)
one_picked c g (s ∷ ss) one has = by_case (is_conn c (conn_in s.member)) (bytes_eq s.group g) refl (one_picked c g ss) one has
  where
    by_case : (b n : Bool) → is_conn c (conn_in s.member) ≡ b → (count (at_conn c) ss ≤ 1 → list_any (is_membership c g) ss ≡ true → (m : Member) × (picked c (among g ss) ≡ m ∷ [])) →
        cond b 1 0 + count (at_conn c) ss ≤ 1 → ((b && n) || list_any (is_membership c g) ss) ≡ true →
        (m : Member) × (picked c (map (λ (membership : Membership). membership.member) (cond n (s ∷ filter (λ (membership : Membership). bytes_eq membership.group g) ss) (filter (λ (membership : Membership). bytes_eq membership.group g) ss))) ≡ m ∷ [])
    by_case true true is others k h = (
      s.member,
      ap (λ (b : Bool). cond b (s.member ∷ picked c (among g ss)) (picked c (among g ss))) (turned c (conn_in s.member) true is)
          ∙ ap (λ (list : List Member). s.member ∷ list) (none_picked c g ss (omega arith)),
    )
    by_case true false is others k h =
        let none : list_any (is_membership c g) ss ≡ false = no_membership c g ss (omega arith) in
        absurd (cc)
    by_case false false is others k h = others (omega arith) h
    by_case false true is others k h =
        let there = others (omega arith) h in
        (there.0, ap (λ (b : Bool). cond b (s.member ∷ picked c (among g ss)) (picked c (among g ss))) (turned c (conn_in s.member) false is) ∙ there.1)

-- a connection that is in a group is one of its members
the_member : (es : List Entry) (n : ℕ) (c : ConnId) (g : List ℕ) → InGroup (take n (judged es)) c g → (m : Member) × (picked c (members (take n (judged es)) g) ≡ m ∷ [])
the_member es n c g inside =
    let P : List Record → Type 0 = λ (rs : List Record). InGroup rs c g → (m : Member) × (picked c (members rs g) ≡ m ∷ []) in
    subst P (prefixes_are_judged_alike es n)
    (λ i. one_picked c g (memberships (judged (take n es))) (one_from [] (take n es) (λ d. omega arith) c) ((memberships_are_lasting_joins (judged (take n es)) c g).0 i)) inside

-- ---- who left

-- the end of a membership says that the member left
has_left : (es : List Entry) (n : ℕ) (e : Entry) (g : List ℕ) (why : Cause) (left : List Move) → group_of (take n (judged es)) (conn_of e) ≡ Some g →
    left ≡ moves_of (conn_of e) why (members (take n (judged es)) g) → HasLeft (take n (judged es)) e g why left
has_left es n e g why left group is =
    let inside = (group_in_first es n (conn_of e) g).1 group in
    let one = the_member es n (conn_of e) g inside in
    let found : Contains (picked (conn_of e) (members (take n (judged es)) g)) one.0 = subst (λ (list : List Member). Contains list one.0) (sym one.1) (0, omega arith, refl) in
    let kept = Contains-from_filter (λ (member : Member). is_conn (conn_in member) (conn_of e)) (members (take n (judged es)) g) one.0 found in
    record {
      member = one.0;
      was_in = inside;
      was_listed = kept.1;
      was_it = is_conn-true (conn_in one.0) (conn_of e) kept.0;
      alone = is ∙ ap (map (λ (member : Member). record { member = member; cause = why })) one.1;
    }

-- and nobody else
left_is : (es : List Entry) (n : ℕ) (e : Entry) (g : List ℕ) (why : Cause) (left : List Move) → HasLeft (take n (judged es)) e g why left →
    (group_of (take n (judged es)) (conn_of e) ≡ Some g) × (moves_of (conn_of e) why (members (take n (judged es)) g) ≡ left)
left_is es n e g why left h =
    let one = the_member es n (conn_of e) g h.was_in in
    let it : is_conn (conn_in h.member) (conn_of e) ≡ true = subst (λ (x : ConnId). is_conn (conn_in h.member) x ≡ true) h.was_it (is_conn-itself (conn_in h.member)) in
    let found = Contains-filter (λ (member : Member). is_conn (conn_in member) (conn_of e)) (members (take n (judged es)) g) h.member it h.was_listed in
    let same : one.0 ≡ h.member = in_single one.0 h.member (subst (λ (list : List Member). Contains list h.member) one.1 found) in (
      (group_in_first es n (conn_of e) g).0 h.was_in,
      ap (map (λ (member : Member). record { member = member; cause = why })) (one.1 ∙ ap (λ (m : Member). m ∷ []) same) ∙ sym h.alone,
    )

-- ---- changes

-- what a change in the news says of its record
record ChangeBy (p : ℕ) (before : List Record) (r : Record) (c : ConnId) (h : List ℕ) (place : ℕ) (g : List ℕ) (list : List Member) (left joined was_left has_joined : List Move) : Type 0 where
  here : hears_change before r c h ≡ true
  at : p ≡ place
  name : h ≡ g
  after : list ≡ r.members
  leaves : left ≡ was_left
  joins : joined ≡ has_joined

change_by : (p : ℕ) (before : List Record) (r : Record) (c : ConnId) (h : List ℕ) (place : ℕ) (g : List ℕ) (list : List Member) (left joined was_left has_joined : List Move) →
    cond (hears_change before r c h) (Some (event.Change p h r.members was_left has_joined)) None ≡ Some (event.Change place g list left joined) →
    ChangeBy p before r c h place g list left joined was_left has_joined
change_by p before r c h place g list left joined was_left has_joined says =
    let k = cond_some (hears_change before r c h) (event.Change p h r.members was_left has_joined) (event.Change place g list left joined) says in
    let said : event.Change p h r.members was_left has_joined ≡ event.Change place g list left joined = k.1 in
    record { here = k.0; at = cc; name = cc; after = cc; leaves = cc; joins = cc }

-- the facts of a change that do not depend on its op
record Changed (es : List Entry) (p : ℕ) (r : Record) (c : ConnId) (h : List ℕ) (place : ℕ) (g : List ℕ) (list : List Member) (left joined : List Move) (op : Op) : Type 0 where
  here : hears_change (records_before (judged es) p) r c h ≡ true
  at : p ≡ place
  name : h ≡ g
  after : list ≡ r.members
  moves : AreMoves (records_before (judged es) p) r.entry op h left joined

changed : (es : List Entry) (p : ℕ) (r : Record) (c : ConnId) (h : List ℕ) (op : Op) (place : ℕ) (g : List ℕ) (list : List Member) (left joined : List Move) →
    entry_group (records_before (judged es) p) r.entry op ≡ Some h →
    news_by p (records_before (judged es) p) r c h op ≡ Some (event.Change place g list left joined) → Changed es p r c h place g list left joined op
changed es p r c h (Act (Join n)) place g list left joined group says =
    let k = change_by p (records_before (judged es) p) r c h place g list left joined [] (record { member = member_of r.entry; cause = cause.Join } ∷ []) says in
    let same : n ≡ h = cc in
    record { here = k.here; at = k.at; name = k.name; after = k.after; moves = (same, k.leaves, k.joins) }
changed es p r c h (Act Leave) place g list left joined group says =
    let k = change_by p (records_before (judged es) p) r c h place g list left joined (moves_of (conn_of r.entry) cause.Leave (members (records_before (judged es) p) h)) [] says in
    record { here = k.here; at = k.at; name = k.name; after = k.after; moves = (has_left es (p - 1) r.entry h cause.Leave left group k.leaves, k.joins) }
changed es p r c h Gone place g list left joined group says =
    let k = change_by p (records_before (judged es) p) r c h place g list left joined (moves_of (conn_of r.entry) cause.Down (members (records_before (judged es) p) h)) [] says in
    record { here = k.here; at = k.at; name = k.name; after = k.after; moves = (has_left es (p - 1) r.entry h cause.Down left group k.leaves, k.joins) }
changed es p r c h (Act (Send m)) place g list left joined group says =
    let k = cond_some (is_member (records_before (judged es) p) c h) _ (event.Change place g list left joined) says in let e = k.1 in absurd (cc)
changed es p r c h (Act (Insert n index rule)) place g list left joined group says =
    let k = cond_some (is_member (records_before (judged es) p) c h) _ (event.Change place g list left joined) says in let e = k.1 in absurd (cc)
changed es p r c h (Act (Remove n id)) place g list left joined group says =
    let k = cond_some (is_member (records_before (judged es) p) c h) _ (event.Change place g list left joined) says in let e = k.1 in absurd (cc)

-- such a change is told so
change_says : (es : List Entry) (p : ℕ) (r : Record) (c : ConnId) (op : Op) (g : List ℕ) (left joined : List Move) →
    AreMoves (records_before (judged es) p) r.entry op g left joined → hears_change (records_before (judged es) p) r c g ≡ true →
    (entry_group (records_before (judged es) p) r.entry op ≡ Some g)
    × (news_by p (records_before (judged es) p) r c g op ≡ Some (event.Change p g r.members left joined))
change_says es p r c (Act (Join n)) g left joined (same, leaves, joins) here = (
  ap Some same,
  ap (λ (b : Bool). cond b (Some (event.Change p g r.members [] (record { member = member_of r.entry; cause = cause.Join } ∷ []))) None) here
      ∙ ap (λ (l : List Move). Some (event.Change p g r.members l (record { member = member_of r.entry; cause = cause.Join } ∷ []))) (sym leaves)
      ∙ ap (λ (l : List Move). Some (event.Change p g r.members left l)) (sym joins),
)
change_says es p r c (Act Leave) g left joined (leaves, joins) here =
    let is = left_is es (p - 1) r.entry g cause.Leave left leaves in (
      is.0,
      ap (λ (b : Bool). cond b (Some (event.Change p g r.members (moves_of (conn_of r.entry) cause.Leave (members (records_before (judged es) p) g)) [])) None) here
          ∙ ap (λ (l : List Move). Some (event.Change p g r.members l [])) is.1
          ∙ ap (λ (l : List Move). Some (event.Change p g r.members left l)) (sym joins),
    )
change_says es p r c Gone g left joined (leaves, joins) here =
    let is = left_is es (p - 1) r.entry g cause.Down left leaves in (
      is.0,
      ap (λ (b : Bool). cond b (Some (event.Change p g r.members (moves_of (conn_of r.entry) cause.Down (members (records_before (judged es) p) g)) [])) None) here
          ∙ ap (λ (l : List Move). Some (event.Change p g r.members l [])) is.1
          ∙ ap (λ (l : List Move). Some (event.Change p g r.members left l)) (sym joins),
    )
change_says es p r c (Act (Send m)) g left joined moves here = absurd moves
change_says es p r c (Act (Insert n index rule)) g left joined moves here = absurd moves
change_says es p r c (Act (Remove n id)) g left joined moves here = absurd moves

-- ---- who is told, and the members after it

neither : {A B : Type 0} → A ↔ (false ≡ true) → B ↔ (false ≡ true) → A ⊎ B → false ≡ true
neither a b (inl k) = a.0 k
neither a b (inr k) = b.0 k

either : {A B : Type 0} (x y : Bool) → A ↔ (x ≡ true) → B ↔ (y ≡ true) → ((x || y) ≡ true) ↔ (A ⊎ B)
either true y a b = ((λ h. inl (a.1 refl)), (λ k. refl))
either false true a b = ((λ h. inr (b.1 refl)), (λ k. refl))
either false false a b = ((λ h. absurd (cc)), neither a b)

-- a change is told to those in the group before it or with it
told_to : (es : List Entry) (p : ℕ) (r : Record) (c : ConnId) (g : List ℕ) → record_at (judged es) p ≡ Some r →
    (hears_change (records_before (judged es) p) r c g ≡ true) ↔ (InGroup (records_before (judged es) p) c g ⊎ InGroup (take p (judged es)) c g)
told_to es p r c g stands =
    let P : List Record → Type 0 = λ (rs : List Record). ((is_member (records_before (judged es) p) c g || is_member rs c g) ≡ true) ↔ (InGroup (records_before (judged es) p) c g ⊎ InGroup (take p (judged es)) c g) in
    subst P (first_records (judged es) p r stands)
    (either (is_member (records_before (judged es) p) c g) (is_member (take p (judged es)) c g) (member_in_first es (p - 1) c g) (member_in_first es p c g))

-- a record lists the members of its group with it
pub records_list_their_members : RecordsListTheirMembers
records_list_their_members es p r g stands group =
    let is = record_is es p r stands in
    let named : (record_of (records_before (judged es) p) r.entry).group ≡ Some g = sym (ap (λ (q : Record). q.group) is) ∙ group in
    ap (λ (q : Record). q.members) is
    ∙ lists_members (records_before (judged es) p) r.entry g named
    ∙ ap (λ (q : Record). members (records_before (judged es) p ++ q ∷ []) g) (sym is)
    ∙ ap (λ (rs : List Record). members rs g) (sym (first_records (judged es) p r stands))

pub hears_changes_exactly : HearsChangesExactly
hears_changes_exactly es c place g list left joined = (from_inbox, to_inbox)
  where
    Says : ℕ → List ℕ → Type 0
    Says q n = IsChange (judged es) q n list left joined × (InGroup (records_before (judged es) q) c n ⊎ InGroup (take q (judged es)) c n)

    from_inbox : Contains (inbox (judged es) c) (event.Change place g list left joined) → Says place g
    from_inbox has =
        let h = heard (judged es) c (event.Change place g list left joined) refl has in
        let group : entry_group (records_before (judged es) h.place) h.r.entry h.r.entry.op ≡ Some h.g =
        sym (ap (λ (q : Record). q.group) (record_is es h.place h.r h.stands)) ∙ h.group in
        let k = changed es h.place h.r c h.g h.r.entry.op place g list left joined group h.says in
        let change : IsChange (judged es) h.place h.g list left joined = record {
          r = h.r;
          stands = h.stands;
          allowed = h.allowed;
          moves = k.moves;
          after = k.after ∙ records_list_their_members es h.place h.r h.g h.stands h.group;
        } in
        let told = (told_to es h.place h.r c h.g h.stands).0 k.here in
        subst (λ (q : ℕ). Says q g) k.at (subst (λ (n : List ℕ). Says h.place n) k.name (change, told))

    to_inbox : Says place g → Contains (inbox (judged es) c) (event.Change place g list left joined)
    to_inbox (change, told) =
        let here = (told_to es place change.r c g change.stands).1 told in
        let said = change_says es place change.r c change.r.entry.op g left joined change.moves here in
        let group : change.r.group ≡ Some g = ap (λ (q : Record). q.group) (record_is es place change.r change.stands) ∙ said.0 in
        let after : change.r.members ≡ list = records_list_their_members es place change.r g change.stands group ∙ sym change.after in
        hears (judged es) c (event.Change place g list left joined) place change.r g change.stands group change.allowed
        (said.1 ∙ ap (λ (l : List Member). Some (event.Change place g l left joined)) after)
