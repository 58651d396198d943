use Rattle.std.proofs.Common.{◌≡◌, ℕ, Bool, true, false, cond, not, ◌&&◌, ◌||◌, List, [], ◌∷◌, ◌++◌, refl, sym, ap, ◌∙◌, subst, arith}
use Rattle.std.specs.Str.{bytes_eq}
use Rattle.std.specs.List.{filter, list_any}
use Rattle.std.proofs.lemmas.Slice.Eq.{bytes_eq-Decides}
use Rattle.std.proofs.lemmas.List.Folds.{list_any-append}
use Rattle.std.proofs.lemmas.Bool.{eq-eqb}
use Rattle.cpg_entry.specs.declared.entries.Entry.{Entry}
use Rattle.cpg_entry.specs.declared.calls.Op.{Op}
use Rattle.cpg_entry.specs.declared.calls.Op.TheVariants.{Act, Gone}
use Rattle.cpg_entry.specs.declared.calls.Call.TheVariants.{Join, Leave, Send, Insert, Remove}
use Rattle.cpg_record.specs.declared.records.Record.{Record}
use Rattle.cpg_record.specs.declared.connections.ConnId.{ConnId}
use Rattle.cpg_record.specs.Connections.{conn_of, conn_in, is_conn}
use Rattle.cpg_record.specs.Membership.{is_allowed, ends, Membership, memberships, taken, taken_by_join}
use Rattle.cpg_record.specs.Laws.{InGroup, is_membership, MembershipsAreLastingJoins}
use Rattle.cpg_record.proofs.Growing.{is_conn-true}

-- the memberships that last of a record's own
abbrev pub lasting : Record → List Record → List Membership
lasting r later = filter (λ s. not (list_any (ends (conn_in s.member)) later)) (taken r)

memberships_any : (c : ConnId) (g : List ℕ) (r : Record) (later : List Record) → list_any (is_membership c g) (memberships (r ∷ later)) ≡ (list_any (is_membership c g) (lasting r later) || list_any (is_membership c g) (memberships later))
memberships_any c g r later = list_any-append (is_membership c g) (lasting r later) (memberships later)

pub is_conn-itself : (a : ConnId) → is_conn a a ≡ true
is_conn-itself a = grind (arith, eq-eqb a.node a.node refl, eq-eqb a.conn a.conn refl)

-- the join's own membership, by its op and verdict
own_membership : (c : ConnId) (g : List ℕ) (e : Entry) (v : Bool) (op : Op) (later : List Record) → v ≡ true → op ≡ Act (Join g) → c ≡ conn_of e → list_any (ends c) later ≡ false →
    list_any (is_membership c g) (filter (λ s. not (list_any (ends (conn_in s.member)) later)) (cond v (taken_by_join e op) [])) ≡ true
own_membership c g e v op later allowed joins by lasts =
    let over : list_any (ends (conn_of e)) later ≡ false = subst (λ (x : ConnId). list_any (ends x) later ≡ false) by lasts in
    let same : is_conn c (conn_of e) ≡ true = subst (λ (x : ConnId). is_conn c x ≡ true) by (is_conn-itself c) in
    let name : bytes_eq g g ≡ true = (bytes_eq-Decides g g).1 refl in
    rw (allowed, joins, over, same, name) refl

from_join : (c : ConnId) (g : List ℕ) (before : List Record) (j : Record) (after : List Record) → list_any (is_membership c g) (lasting j after) ≡ true → list_any (is_membership c g) (memberships (before ++ j ∷ after)) ≡ true
from_join c g [] j after h = memberships_any c g j after ∙ ap (λ b. b || list_any (is_membership c g) (memberships after)) h
from_join c g (r ∷ before) j after h = memberships_any c g r (before ++ j ∷ after) ∙ ap (λ b. list_any (is_membership c g) (lasting r (before ++ j ∷ after)) || b) (from_join c g before j after h) ∙ or_true (list_any (is_membership c g) (lasting r (before ++ j ∷ after)))
  where
    or_true : (b : Bool) → (b || true) ≡ true
    or_true true = refl
    or_true false = refl

membership_of : (rs : List Record) (c : ConnId) (g : List ℕ) → InGroup rs c g → list_any (is_membership c g) (memberships rs) ≡ true
membership_of rs c g i = rw i.stands (from_join c g i.before i.join i.after (own_membership c g i.join.entry (is_allowed i.join.verdict) i.join.entry.op i.after i.allowed i.joins i.by i.lasts))

-- what a lasting membership says of its record
pub record Joined (c : ConnId) (g : List ℕ) (e : Entry) (v : Bool) (op : Op) (later : List Record) : Type 0 where
  pub by : c ≡ conn_of e
  pub joins : op ≡ Act (Join g)
  pub allowed : v ≡ true
  pub lasts : list_any (ends c) later ≡ false

one_membership : (c : ConnId) (g h : List ℕ) (e : Entry) (later : List Record) (past same name : Bool) → list_any (ends (conn_of e)) later ≡ past → is_conn c (conn_of e) ≡ same → bytes_eq h g ≡ name →
    ((not past) && (same && name)) ≡ true → Joined c g e true (Act (Join h)) later
one_membership c g h e later true same name p s n k = absurd (cc)
one_membership c g h e later false false name p s n k = absurd (cc)
one_membership c g h e later false true false p s n k = absurd (cc)
one_membership c g h e later false true true p s n k =
    let by : c ≡ conn_of e = is_conn-true c (conn_of e) s in
    record { by = by; joins = ap (λ x. Act (Join x)) ((bytes_eq-Decides h g).0 n); allowed = refl; lasts = rw by p }

kept : (test p : Membership → Bool) (s : Membership) → list_any test (filter p (s ∷ [])) ≡ (p s && test s)
kept test p s = elim (p s) as (λ b. list_any test (cond b (s ∷ []) []) ≡ (b && test s)) [ true ↦ or_false (test s) | false ↦ refl ]
  where
    or_false : (b : Bool) → (b || false) ≡ b
    or_false true = refl
    or_false false = refl

joined_from : (c : ConnId) (g : List ℕ) (e : Entry) (v : Bool) (op : Op) (later : List Record) →
    list_any (is_membership c g) (filter (λ s. not (list_any (ends (conn_in s.member)) later)) (cond v (taken_by_join e op) [])) ≡ true → Joined c g e v op later
joined_from c g e false op later h = absurd (cc)
joined_from c g e true (Act (Join name)) later h =
    one_membership c g name e later (list_any (ends (conn_of e)) later) (is_conn c (conn_of e)) (bytes_eq name g) refl refl refl
    (sym (kept (is_membership c g) (λ s. not (list_any (ends (conn_in s.member)) later)) _) ∙ h)
joined_from c g e true (Act Leave) later h = absurd (cc)
joined_from c g e true (Act (Send m)) later h = absurd (cc)
joined_from c g e true (Act (Insert n at rule)) later h = absurd (cc)
joined_from c g e true (Act (Remove n id)) later h = absurd (cc)
joined_from c g e true Gone later h = absurd (cc)

member_of_membership : (rs : List Record) (c : ConnId) (g : List ℕ) → list_any (is_membership c g) (memberships rs) ≡ true → InGroup rs c g
member_of_membership [] c g h = absurd (cc)
member_of_membership (r ∷ later) c g h =
    by_case (list_any (is_membership c g) (lasting r later)) (member_of_membership later c g) refl (sym (memberships_any c g r later) ∙ h)
  where
    by_case : (b : Bool) → (list_any (is_membership c g) (memberships later) ≡ true → InGroup later c g) → list_any (is_membership c g) (lasting r later) ≡ b → (b || list_any (is_membership c g) (memberships later)) ≡ true → InGroup (r ∷ later) c g
    by_case true further here k =
        let j = joined_from c g r.entry (is_allowed r.verdict) r.entry.op later here in
        record { before = []; join = r; after = later; stands = refl; by = j.by; joins = j.joins; allowed = j.allowed; lasts = j.lasts }
    by_case false further here k =
        let i = further k in
        record { before = r ∷ i.before; join = i.join; after = i.after; stands = ap (λ xs. r ∷ xs) i.stands; by = i.by; joins = i.joins; allowed = i.allowed; lasts = i.lasts }

pub memberships_are_lasting_joins : MembershipsAreLastingJoins
memberships_are_lasting_joins rs c g = (membership_of rs c g, member_of_membership rs c g)
