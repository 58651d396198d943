-- Which places tell a connection anything.
use Rattle.std.proofs.Common.{◌≡◌, ◌≢◌, ℕ, zero, suc, ◌-◌, ◌<◌, ◌≤◌, leb, length, take, Bool, true, false, ◌&&◌, ◌||◌, cond, List, [], ◌∷◌, ◌++◌, Option, Some, None, refl, sym, ap, subst, ◌∙◌, arith}
use Rattle.std.specs.Prelude.{◌↔◌, is_some, option_to_list, MatchOption}
use Rattle.std.proofs.lemmas.Bool.{leb-true, leb-false}
use Rattle.std.proofs.lemmas.Option.{slice_get_within}
use Rattle.std.specs.Str.{bytes_eq}
use Rattle.std.proofs.lemmas.Slice.Eq.{bytes_eq-Decides}
use Rattle.cpg_entry.specs.declared.calls.Call.TheVariants.{Join, Leave, Send, Insert, Remove}
use Rattle.cpg_entry.specs.declared.calls.Op.{Op}
use Rattle.cpg_entry.specs.declared.calls.Op.TheVariants.{Act, Gone}
use Rattle.cpg_entry.specs.declared.entries.Entry.{Entry}
use Rattle.cpg_record.specs.declared.connections.ConnId.{ConnId}
use Rattle.cpg_record.specs.declared.events.Event.{Event}
use Rattle.cpg_record.specs.declared.events.Event.TheVariants as event
use Rattle.cpg_record.specs.declared.records.Record.{Record}
use Rattle.cpg_record.specs.Events.{answer, events, events_by, hears_change, news, news_by}
use Rattle.cpg_record.specs.Judging.{judged, record_of}
use Rattle.cpg_record.specs.Membership.{group_of, is_allowed, is_member, is_named, members}
use Rattle.cpg_record.specs.Nexts.{acts_in, is_made_by, reaches, GroupsStay, IsNextTold, MembersStay, TellsExactly, TellsNoMore}
use Rattle.cpg_record.specs.Places.{record_at, records_before, IsNextOf, sooner}
use Rattle.cpg_record.specs.Steps.{group_after, group_by, members_by}
use Rattle.cpg_record.proofs.Denials.{prefixes_are_judged_alike}
use Rattle.cpg_record.proofs.Elsewhere.{elsewhere_of}
use Rattle.cpg_record.proofs.Growing.{group_of_push, members_push}
use Rattle.cpg_record.proofs.Named.{either_way}
use Rattle.cpg_record.proofs.Once.{OneEach, one_from}
use Rattle.cpg_record.proofs.Told.{each_by_those_before}
use Rattle.cpg_record.proofs.Positions.{stays}

-- names compare alike both ways
pub same_either_way : (g h : List ℕ) → bytes_eq g h ≡ bytes_eq h g
same_either_way = either_way bytes_eq bytes_eq-Decides

pub and_false : (b : Bool) → (b && false) ≡ false
and_false true = refl
and_false false = refl

-- another's record leaves the connection's group
pub same_group : (r : Record) (conn : ConnId) (before : Option (List ℕ)) → is_made_by conn r ≡ false → group_after r conn before ≡ before
same_group r conn before other =
    ap (λ (b : Bool). cond (is_allowed r.verdict && b) (group_by r.entry.op before) before) other
    ∙ ap (λ (b : Bool). cond b (group_by r.entry.op before) before) (and_false (is_allowed r.verdict))

-- who hears a change of another is who is a member before it
pub hears_of_others : (before : List Record) (r : Record) (conn : ConnId) (g : List ℕ) (x : Bool) → is_made_by conn r ≡ false →
    is_member before conn g ≡ x → hears_change before r conn g ≡ x
hears_of_others before r conn g x other is =
    ap (λ (o : Option (List ℕ)). is_member before conn g || is_named o g) (group_of_push before r conn ∙ same_group r conn (group_of before conn) other)
    ∙ ap (λ (b : Bool). b || b) is ∙ either x
  where
    either : (b : Bool) → (b || b) ≡ b
    either true = refl
    either false = refl

said : {X : Type 0} (b : Bool) (e : X) → is_some (cond b (Some e) None) ≡ b
said true e = refl
said false e = refl

-- an allowed op of another has news exactly for members
news_of_members : (place : ℕ) (before : List Record) (r : Record) (conn : ConnId) (g : List ℕ) (op : Op) (x : Bool) →
    is_member before conn g ≡ x → hears_change before r conn g ≡ x → is_some (news_by place before r conn g op) ≡ x
news_of_members place before r conn g (Act (Send m)) x is hears = said (is_member before conn g) _ ∙ is
news_of_members place before r conn g (Act (Join h)) x is hears = said (hears_change before r conn g) _ ∙ hears
news_of_members place before r conn g (Act Leave) x is hears = said (hears_change before r conn g) _ ∙ hears
news_of_members place before r conn g Gone x is hears = said (hears_change before r conn g) _ ∙ hears
news_of_members place before r conn g (Act (Insert h at rule)) x is hears = said (is_member before conn g) _ ∙ is
news_of_members place before r conn g (Act (Remove h id)) x is hears = said (is_member before conn g) _ ∙ is

-- a record without a group reaches nobody
reaches_none : (o : Option (List ℕ)) (r : Record) → r.group ≡ None → reaches o r ≡ false
reaches_none None r is = refl
reaches_none (Some g) r is = ap (λ (h : Option (List ℕ)). is_allowed r.verdict && is_named h g) is ∙ and_false (is_allowed r.verdict)

-- a denied one neither
reaches_denied : (o : Option (List ℕ)) (r : Record) → is_allowed r.verdict ≡ false → reaches o r ≡ false
reaches_denied None r is = refl
reaches_denied (Some g) r is = ap (λ (b : Bool). b && is_named r.group g) is

-- an allowed one those that are in its group
reaches_members : (o : Option (List ℕ)) (r : Record) (g : List ℕ) → is_allowed r.verdict ≡ true → r.group ≡ Some g → reaches o r ≡ is_named o g
reaches_members None r g allowed is = refl
reaches_members (Some h) r g allowed is =
    ap (λ (b : Bool). b && is_named r.group h) allowed
    ∙ ap (λ (k : Option (List ℕ)). is_named k h) is
    ∙ same_either_way g h

-- a record of another has news exactly for those whom it reaches
news_of_others : (place : ℕ) (before : List Record) (r : Record) (conn : ConnId) (o : Option (List ℕ)) → r.group ≡ o → is_made_by conn r ≡ false →
    is_some (news place before r conn o) ≡ reaches (group_of before conn) r
news_of_others place before r conn None is other = sym (reaches_none (group_of before conn) r is)
news_of_others place before r conn (Some g) is other = by_case (is_allowed r.verdict) refl
  where
    by_case : (b : Bool) → is_allowed r.verdict ≡ b → is_some (cond b (news_by place before r conn g r.entry.op) None) ≡ reaches (group_of before conn) r
    by_case false denied = sym (reaches_denied (group_of before conn) r denied)
    by_case true allowed =
        news_of_members place before r conn g r.entry.op (is_member before conn g) refl (hears_of_others before r conn g (is_member before conn g) other refl)
        ∙ sym (reaches_members (group_of before conn) r g allowed is)

-- ---- what a place tells

some_listed : (o : Option Event) → (option_to_list o ≢ []) ↔ (is_some o ≡ true)
some_listed None = ((λ h. absurd (h refl)), (λ h. absurd (cc)))
some_listed (Some told) = ((λ h. refl), (λ h e. absurd (cc)))

told_at : (place : ℕ) (before : List Record) (r : Record) (conn : ConnId) (made : Bool) → is_made_by conn r ≡ made →
    (events_by place before conn (Some r) ≢ []) ↔ ((made || reaches (group_of before conn) r) ≡ true)
told_at place before r conn true is = (
  (λ h. refl),
  (λ h e.
      let told : answer place r conn ++ option_to_list (news place before r conn r.group) ≡ event.Verdict place r.verdict ∷ option_to_list (news place before r conn r.group) =
      ap (λ (b : Bool). cond b (event.Verdict place r.verdict ∷ []) [] ++ option_to_list (news place before r conn r.group)) is in
      absurd (cc)),
)
told_at place before r conn false is =
    let quiet : events_by place before conn (Some r) ≡ option_to_list (news place before r conn r.group) =
    ap (λ (b : Bool). cond b (event.Verdict place r.verdict ∷ []) [] ++ option_to_list (news place before r conn r.group)) is in
    let listed = some_listed (news place before r conn r.group) in
    let same = news_of_others place before r conn r.group refl is in (
      (λ h. sym same ∙ listed.0 (λ e. h (quiet ∙ e))),
      (λ h e. listed.1 (same ∙ h) (sym quiet ∙ e)),
    )

pub tells_exactly : TellsExactly
tells_exactly rs conn place r is =
    subst (λ (o : Option Record). (events_by place (records_before rs place) conn o ≢ []) ↔ ((is_made_by conn r || reaches (group_of (records_before rs place) conn) r) ≡ true)) (sym is)
    (told_at place (records_before rs place) r conn (is_made_by conn r) refl)

-- ---- the next place

pub groups_stay : GroupsStay
groups_stay rs conn low high below quiet =
    stays (λ (past : List Record). group_of past conn) (is_made_by conn) rs
    (λ n r is other. group_of_push (take n rs) r conn ∙ same_group r conn (group_of (take n rs) conn) other) low high below quiet

-- a record that does not act in a group leaves its members
same_members : (past : List Record) (r : Record) (g : List ℕ) (v : Bool) → OneEach past → r ≡ record_of past r.entry → is_allowed r.verdict ≡ v → (v && is_named r.group g) ≡ false →
    members (past ++ r ∷ []) g ≡ members past g
same_members past r g false one judgement allowed quiet =
    members_push past r g ∙ ap (λ (b : Bool). cond b (members_by r.entry r.entry.op g (members past g)) (members past g)) allowed
same_members past r g true one judgement allowed quiet =
    ap (λ (q : Record). members (past ++ q ∷ []) g) judgement
    ∙ elsewhere_of past r.entry g one (ap (λ (q : Record). is_named q.group g) (sym judgement) ∙ quiet)

one_each_first : (es : List Entry) (n : ℕ) → OneEach (take n (judged es))
one_each_first es n = subst OneEach (prefixes_are_judged_alike es n) (one_from [] (take n es) (λ c. omega arith))

pub members_stay : MembersStay
members_stay es g low high below quiet =
    stays (λ (past : List Record). members past g) (acts_in g) (judged es)
    (λ n r is other. same_members (take n (judged es)) r g (is_allowed r.verdict) (one_each_first es n) (each_by_those_before es n r is) refl other) low high below quiet

no_either : (a b : Bool) → (a || b) ≡ false → (a ≡ false) × (b ≡ false)
no_either false false h = (refl, refl)
no_either false true h = absurd (cc)
no_either true b h = absurd (cc)

-- what tells a connection that was in that group
abbrev told_in : ConnId → Option (List ℕ) → Record → Bool
told_in conn o r = is_made_by conn r || reaches o r

module _ (rs : List Record) (conn : ConnId) (after : ℕ) (o : Option (List ℕ)) (there : group_of (take after rs) conn ≡ o) where
  abbrev QuietUpto : ℕ → Type 0
  QuietUpto place = (earlier : ℕ) (r : Record) → after < earlier → earlier < place → record_at rs earlier ≡ Some r → told_in conn o r ≡ false

  -- so the group is the same before the place
  same_before : (place : ℕ) → after < place → QuietUpto place → group_of (records_before rs place) conn ≡ o
  same_before place above quiet =
      groups_stay rs conn after (place - 1) (omega arith) (λ n r low high is. (no_either (is_made_by conn r) (reaches o r) (quiet (suc n) r (omega arith) (omega arith) is)).0)
      ∙ there

  tells_so : (place : ℕ) (r : Record) → after < place → QuietUpto place → record_at rs place ≡ Some r → (events rs place conn ≢ []) ↔ (told_in conn o r ≡ true)
  tells_so place r above quiet is =
      subst (λ (g : Option (List ℕ)). (events rs place conn ≢ []) ↔ ((is_made_by conn r || reaches g r) ≡ true)) (same_before place above quiet) (tells_exactly rs conn place r is)

  empty_unless : (told : List Event) (b : Bool) → (told ≢ []) ↔ (b ≡ true) → b ≡ false → told ≡ []
  empty_unless [] b is not_so = refl
  empty_unless (e ∷ told) b is not_so =
      let some : b ≡ true = is.0 (λ h. absurd (cc)) in
      absurd (cc)

  quiet_at : (place : ℕ) → after < place → QuietUpto (suc place) → (found : Option Record) → record_at rs place ≡ found → events rs place conn ≡ []
  quiet_at place above quiet None is = ap (events_by place (records_before rs place) conn) is
  quiet_at place above quiet (Some r) is =
      empty_unless (events rs place conn) (told_in conn o r)
      (tells_so place r above (λ earlier s low high at. quiet earlier s low (omega arith) at) is)
      (quiet place r above (omega arith) is)

  -- the next place that tells is the next that the connection made or that reaches its group
  pub next_told : (next : Option ℕ) → IsNextOf (told_in conn o) rs after next → MatchOption next (TellsNoMore rs after conn) (IsNextTold rs after conn)
  next_told None none = λ place above. quiet_at place above (λ earlier r low high is. none earlier r low is) (record_at rs place) refl
  next_told (Some place) (above, (r, is, passes), before) = record {
    above = above;
    within = within place is;
    told = (tells_so place r above before is).1 passes;
    none_between = λ earlier low high. quiet_at earlier low (λ e s l h at. before e s l (omega arith) at) (record_at rs earlier) refl;
  }
    where
      within : (place : ℕ) → record_at rs place ≡ Some r → place ≤ length rs
      within zero at = omega arith
      within (suc n) at = omega (arith, slice_get_within rs n r at)

-- the next place of two tests is the sooner of theirs
pub next_of_either : (p q : Record → Bool) (rs : List Record) (after : ℕ) (a b : Option ℕ) → IsNextOf p rs after a → IsNextOf q rs after b →
    IsNextOf (λ r. p r || q r) rs after (sooner a b)
next_of_either p q rs after None None x y = λ place r above is. neither (p r) (q r) (x place r above is) (y place r above is)
  where
    neither : (a b : Bool) → a ≡ false → b ≡ false → (a || b) ≡ false
    neither a b h k = cc
next_of_either p q rs after None (Some b) x (above, (r, is, passes), before) = (
  above,
  (r, is, ap (λ (t : Bool). t || q r) (x b r above is) ∙ passes),
  (λ place s low high at. ap (λ (t : Bool). t || q s) (x place s low at) ∙ before place s low high at),
)
next_of_either p q rs after (Some a) None (above, (r, is, passes), before) y = (
  above,
  (r, is, ap (λ (t : Bool). t || q r) passes),
  (λ place s low high at. ap (λ (t : Bool). t || q s) (before place s low high at) ∙ y place s low at),
)
next_of_either p q rs after (Some a) (Some b) (above, (r, is, passes), before) (above', (r', is', passes'), before') = by_case (leb a b) refl
  where
    or_true : (t : Bool) → (t || true) ≡ true
    or_true true = refl
    or_true false = refl

    by_case : (t : Bool) → leb a b ≡ t → IsNextOf (λ r. p r || q r) rs after (cond t (Some a) (Some b))
    by_case true le =
        let low : a ≤ b = leb-true a b le in (
          above,
          (r, is, ap (λ (t : Bool). t || q r) passes),
          (λ place s l h at. ap (λ (t : Bool). t || q s) (before place s l h at) ∙ before' place s l (omega arith) at),
        )
    by_case false le =
        let low : b < a = leb-false a b le in (
          above',
          (r', is', ap (λ (t : Bool). p r' || t) passes' ∙ or_true (p r')),
          (λ place s l h at. ap (λ (t : Bool). t || q s) (before place s l (omega arith) at) ∙ before' place s l h at),
        )
