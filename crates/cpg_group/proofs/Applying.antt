-- The record of one entry more keeps records judged and tables current.
use Rattle.std.proofs.Common.{◌≡◌, ℕ, ◌+◌, ◌<◌, ◌≤◌, Bool, true, false, ◌&&◌, cond, List, [], ◌∷◌, ◌++◌, length, take, get_or, All, refl, sym, ap, subst, ◌∙◌, arith, Some}
use Rattle.std.specs.Prelude.{count_by}
use Rattle.std.specs.List.{fold, enumerate_from}
use Rattle.std.proofs.lemmas.List.{map-append, take_more}
use Rattle.std.proofs.lemmas.List.Sums.{fold_push}
use Rattle.cpg_rules.specs.Tables.{Rules}
use Rattle.cpg_entry.specs.declared.calls.Call.TheVariants.{Join, Leave, Send, Insert, Remove}
use Rattle.cpg_entry.specs.declared.calls.Op.{Op}
use Rattle.cpg_entry.specs.declared.calls.Op.TheVariants.{Act, Gone}
use Rattle.cpg_entry.specs.declared.entries.Entry.{Entry}
use Rattle.cpg_record.specs.declared.memberships.Member.{Member}
use Rattle.cpg_record.specs.declared.records.Record.{Record}
use Rattle.cpg_record.specs.Connections.{member_of}
use Rattle.cpg_record.specs.Judging.{judged, with_judgement, record_of, entry_group, entries_of, AreJudged}
use Rattle.cpg_record.specs.Membership.{is_allowed, is_named, members}
use Rattle.cpg_record.specs.RuleTables.{edited, edited_by, named, rules_of}
use Rattle.cpg_record.specs.Steps.{CanEditBy, members_by}
use Rattle.cpg_record.proofs.Elsewhere.{elsewhere_of, lists_members, named_group}
use Rattle.cpg_record.proofs.Growing.{members_push, rules_of_push}
use Rattle.cpg_record.specs.Nexts.{acts_in}
use Rattle.cpg_record.specs.Places.{places_of}
use Rattle.cpg_record.proofs.Once.{OneEach, one_from, once_in_a_group}
use Rattle.cpg_record.proofs.Positions.{places_from-push}
use Rattle.std.proofs.lemmas.List.{append-nil}
use Rattle.cpg_record.proofs.Judging.{can_edit, ids_edited, Each-judged}
use Rattle.cpg_group.specs.Standing.{GroupValue}
use Rattle.cpg_group.specs.Standing.{Kept, kept_group, changed, group_past, standing, AreStanding, CanChange, CanTake}
use Rattle.cpg_members.specs.Processes.{process_in, is_process, ComesTo, OnceEach}

-- ---- judged records

pub AreJudged-push : (rs : List Record) (r : Record) → AreJudged rs → r ≡ record_of (judged (entries_of rs)) r.entry → AreJudged (rs ++ r ∷ [])
AreJudged-push rs r are is =
    let P : Record → Type 0 = λ (q : Record). rs ++ q ∷ [] ≡ judged (entries_of rs) ++ record_of (judged (entries_of rs)) r.entry ∷ [] in
    subst P (sym is) (ap (λ xs. xs ++ record_of (judged (entries_of rs)) r.entry ∷ []) are)
    ∙ sym (fold_push with_judgement [] (entries_of rs) r.entry)
    ∙ ap judged (sym (map-append (λ (q : Record). q.entry) rs (r ∷ [])))

pub entries_of-push : (rs : List Record) (r : Record) → entries_of (rs ++ r ∷ []) ≡ entries_of rs ++ r.entry ∷ []
entries_of-push rs r = map-append (λ (q : Record). q.entry) rs (r ∷ [])

-- ---- ids

ids_from : (g : List ℕ) (rules : Rules) (n : ℕ) (rs : List Record) → All (λ entry. entry.0 ≤ n) rules →
    All (λ entry. entry.0 ≤ n + length rs) (fold (edited g) rules (enumerate_from (n + 1) rs))
ids_from g rules n [] low = λ k d h. omega (arith, low k d h)
ids_from g rules n (r ∷ rs) low =
    let later = ids_from g (edited g rules (n + 1, r)) (n + 1) rs (ids_edited g rules n r low) in
    λ k d h. omega (arith, later k d h)

-- no id of a table is above the last place
pub ids_low : (rs : List Record) (g : List ℕ) → All (λ entry. entry.0 ≤ length rs) (rules_of rs g)
ids_low rs g =
    let low = ids_from g [] 0 rs (λ k d h. absurd (omega arith)) in
    λ k d h. omega (arith, low k d h)

-- ---- what is kept

-- judged records have one membership for each connection at most
pub one_each : (rs : List Record) → AreJudged rs → OneEach rs
one_each rs are = subst OneEach (sym are) (one_from [] (entries_of rs) (λ c. omega arith))

can_take_by : (rs : List Record) (e : Entry) (op : Op) (g : List ℕ) (place : ℕ) → is_named (entry_group rs e op) g ≡ true →
    (is_named (named op) g ≡ true → CanEditBy (rules_of rs g) place op) → CanEditBy (rules_of rs g) place op
can_take_by rs e (Act (Insert h at rule)) g place here can = can here
can_take_by rs e (Act (Join h)) g place here can = tt
can_take_by rs e (Act Leave) g place here can = tt
can_take_by rs e (Act (Send m)) g place here can = tt
can_take_by rs e (Act (Remove h id)) g place here can = tt
can_take_by rs e Gone g place here can = tt

-- an edit of the group that an op names is one of the entry's group
edit_same : (rs : List Record) (e : Entry) (op : Op) (g : List ℕ) (place : ℕ) (rules : Rules) (n : Bool) → is_named (entry_group rs e op) g ≡ n →
    cond (is_named (named op) g) (edited_by place op rules) rules ≡ cond n (edited_by place op rules) rules
edit_same rs e (Act (Insert h at rule)) g place rules n is = ap (λ (b : Bool). cond b (edited_by place (Act (Insert h at rule)) rules) rules) is
edit_same rs e (Act (Remove h id)) g place rules n is = ap (λ (b : Bool). cond b (edited_by place (Act (Remove h id)) rules) rules) is
edit_same rs e (Act (Join h)) g place rules n is = ap (λ (b : Bool). cond b rules rules) is
edit_same rs e (Act Leave) g place rules true is = refl
edit_same rs e (Act Leave) g place rules false is = refl
edit_same rs e (Act (Send m)) g place rules true is = refl
edit_same rs e (Act (Send m)) g place rules false is = refl
edit_same rs e Gone g place rules true is = refl
edit_same rs e Gone g place rules false is = refl

abbrev group_with : Rules → List Member → List ℕ → GroupValue
group_with t ms ps = record { table = t; members = ms; places = ps }

same_parts : (t u : Rules) (ms ns : List Member) (ps qs : List ℕ) → t ≡ u → ms ≡ ns → ps ≡ qs → group_with t ms ps ≡ group_with u ns qs
same_parts t u ms ns ps qs p q s = λ i. group_with (p i) (q i) (s i)

-- the members that the record lists are those of its group
listed_there : (rs : List Record) (r : Record) (g : List ℕ) → r ≡ record_of rs r.entry → is_named r.group g ≡ true → r.members ≡ members (rs ++ r ∷ []) g
listed_there rs r g judgement here =
    let said : (record_of rs r.entry).group ≡ Some g = (named_group (record_of rs r.entry).group g).0 (ap (λ (q : Record). is_named q.group g) (sym judgement) ∙ here) in
    ap (λ (q : Record). q.members) judgement ∙ lists_members rs r.entry g said
    ∙ ap (λ (q : Record). members (rs ++ q ∷ []) g) (sym judgement)

unchanged_there : (rs : List Record) (r : Record) (g : List ℕ) → OneEach rs → r ≡ record_of rs r.entry → is_named r.group g ≡ false → members rs g ≡ members (rs ++ r ∷ []) g
unchanged_there rs r g one judgement other =
    sym (elsewhere_of rs r.entry g one (ap (λ (q : Record). is_named q.group g) (sym judgement) ∙ other))
    ∙ ap (λ (q : Record). members (rs ++ q ∷ []) g) (sym judgement)

-- over judged records no process stands twice in a group
once_each : (rs : List Record) (g : List ℕ) → AreJudged rs → OnceEach (members rs g)
once_each rs g are p = subst (λ (past : List Record). count_by (λ member. is_process (process_in member) p) (members past g) ≤ 1) (sym are) (once_in_a_group (entries_of rs) g p.node p.pid)

comes_to_by : (rs : List Record) (e : Entry) (op : Op) (g : List ℕ) (before after : List Member) → is_named (entry_group rs e op) g ≡ true → OnceEach before →
    after ≡ members_by e op g before → ComesTo before e op after
comes_to_by rs e (Act (Join h)) g before after here once is = is ∙ ap (λ (b : Bool). cond b (before ++ member_of e ∷ []) before) here
comes_to_by rs e (Act Leave) g before after here once is = (is, once)
comes_to_by rs e (Act (Send m)) g before after here once is = is
comes_to_by rs e (Act (Insert h at rule)) g before after here once is = is
comes_to_by rs e (Act (Remove h id)) g before after here once is = is
comes_to_by rs e Gone g before after here once is = (is, once)

-- the next record lists what its op makes of its group's members
comes_to : (rs : List Record) (r : Record) (g : List ℕ) → AreJudged rs → r ≡ record_of rs r.entry → is_allowed r.verdict ≡ true → is_named r.group g ≡ true →
    ComesTo (members rs g) r.entry r.entry.op r.members
comes_to rs r g are judgement allowed here =
    let said : is_named (entry_group rs r.entry r.entry.op) g ≡ true = ap (λ (q : Record). is_named q.group g) (sym judgement) ∙ here in
    comes_to_by rs r.entry r.entry.op g (members rs g) r.members said (once_each rs g are)
    (listed_there rs r g judgement here ∙ members_push rs r g
    ∙ ap (λ (v : Bool). cond v (members_by r.entry r.entry.op g (members rs g)) (members rs g)) allowed)

-- the group of the next record can take it as it is kept
pub can_take : (kept : Kept) (rs : List Record) (r : Record) (place : ℕ) → AreStanding kept rs → AreJudged rs → place ≡ length rs + 1 → r ≡ record_of rs r.entry →
    (g : List ℕ) → CanTake g (kept_group kept g) (place, r)
can_take kept rs r place current are is judgement g allowed here =
    let P : GroupValue → Type 0 = λ (group : GroupValue). CanChange group place r in
    let said : is_named (entry_group rs r.entry r.entry.op) g ≡ true = ap (λ (q : Record). is_named q.group g) (sym judgement) ∙ here in
    subst P (sym (current g)) (
      can_take_by rs r.entry r.entry.op g place said
          (λ named_is. can_edit rs r g place judgement (λ k d h same. absurd (omega (arith, ids_low rs g k d h))) allowed named_is),
      comes_to rs r g are judgement allowed here,
    )

-- its places
places_past : (rs : List Record) (r : Record) (g : List ℕ) (place : ℕ) (b n : Bool) → is_allowed r.verdict ≡ b → is_named r.group g ≡ n → place ≡ 1 + length rs →
    cond (b && n) (places_of (acts_in g) rs ++ place ∷ []) (places_of (acts_in g) rs) ≡ places_of (acts_in g) (rs ++ r ∷ [])
places_past rs r g place b n allowed here is =
    sym (places_from-push (acts_in g) 1 rs r
    ∙ ap (λ (v : Bool). places_of (acts_in g) rs ++ cond (v && is_named r.group g) ((1 + length rs) ∷ []) []) allowed
    ∙ ap (λ (v : Bool). places_of (acts_in g) rs ++ cond (b && v) ((1 + length rs) ∷ []) []) here
    ∙ by_case (b && n))
  where
    by_case : (t : Bool) → places_of (acts_in g) rs ++ cond t ((1 + length rs) ∷ []) [] ≡ cond t (places_of (acts_in g) rs ++ place ∷ []) (places_of (acts_in g) rs)
    by_case true = ap (λ (k : ℕ). places_of (acts_in g) rs ++ k ∷ []) (sym is)
    by_case false = append-nil (places_of (acts_in g) rs)

-- what the groups come to after one record more
standing_past : (rs : List Record) (r : Record) (g : List ℕ) (place : ℕ) (b n : Bool) → is_allowed r.verdict ≡ b → is_named r.group g ≡ n → OneEach rs →
    place ≡ 1 + length rs → r ≡ record_of rs r.entry → cond (b && n) (changed place r (standing rs g)) (standing rs g) ≡ standing (rs ++ r ∷ []) g
standing_past rs r g place false n allowed here one is judgement =
    same_parts (rules_of rs g) (rules_of (rs ++ r ∷ []) g) (members rs g) (members (rs ++ r ∷ []) g) (places_of (acts_in g) rs) (places_of (acts_in g) (rs ++ r ∷ []))
    (sym (rules_of_push rs r g ∙ ap (λ (v : Bool). cond (v && is_named (named r.entry.op) g) (edited_by (1 + length rs) r.entry.op (rules_of rs g)) (rules_of rs g)) allowed))
    (sym (members_push rs r g ∙ ap (λ (v : Bool). cond v (members_by r.entry r.entry.op g (members rs g)) (members rs g)) allowed))
    (places_past rs r g place false n allowed here is)
standing_past rs r g place true true allowed here one is judgement =
    same_parts (edited_by place r.entry.op (rules_of rs g)) (rules_of (rs ++ r ∷ []) g) r.members (members (rs ++ r ∷ []) g)
    (places_of (acts_in g) rs ++ place ∷ []) (places_of (acts_in g) (rs ++ r ∷ []))
    (sym (table_past rs r g place true allowed here is judgement)) (listed_there rs r g judgement here) (places_past rs r g place true true allowed here is)
  where
    table_past : (rs : List Record) (r : Record) (g : List ℕ) (place : ℕ) (n : Bool) → is_allowed r.verdict ≡ true → is_named r.group g ≡ n → place ≡ 1 + length rs → r ≡ record_of rs r.entry →
        rules_of (rs ++ r ∷ []) g ≡ cond n (edited_by place r.entry.op (rules_of rs g)) (rules_of rs g)
    table_past rs r g place n allowed here is judgement =
        rules_of_push rs r g
        ∙ ap (λ (v : Bool). cond (v && is_named (named r.entry.op) g) (edited_by (1 + length rs) r.entry.op (rules_of rs g)) (rules_of rs g)) allowed
        ∙ ap (λ (k : ℕ). cond (is_named (named r.entry.op) g) (edited_by k r.entry.op (rules_of rs g)) (rules_of rs g)) (sym is)
        ∙ edit_same rs r.entry r.entry.op g place (rules_of rs g) n (ap (λ (q : Record). is_named q.group g) (sym judgement) ∙ here)
standing_past rs r g place true false allowed here one is judgement =
    same_parts (rules_of rs g) (rules_of (rs ++ r ∷ []) g) (members rs g) (members (rs ++ r ∷ []) g) (places_of (acts_in g) rs) (places_of (acts_in g) (rs ++ r ∷ []))
    (sym (rules_of_push rs r g
    ∙ ap (λ (v : Bool). cond (v && is_named (named r.entry.op) g) (edited_by (1 + length rs) r.entry.op (rules_of rs g)) (rules_of rs g)) allowed
    ∙ edit_same rs r.entry r.entry.op g (1 + length rs) (rules_of rs g) false (ap (λ (q : Record). is_named q.group g) (sym judgement) ∙ here)))
    (unchanged_there rs r g one judgement here) (places_past rs r g place true false allowed here is)

pub AreStanding-push : (old new : Kept) (rs : List Record) (r : Record) (place : ℕ) → AreStanding old rs → AreJudged rs → place ≡ length rs + 1 → r ≡ record_of rs r.entry →
    ((g : List ℕ) → kept_group new g ≡ group_past g (kept_group old g) (place, r)) → AreStanding new (rs ++ r ∷ [])
AreStanding-push old new rs r place current are is judgement taken g =
    taken g
    ∙ ap (λ (group : GroupValue). group_past g group (place, r)) (current g)
    ∙ standing_past rs r g place (is_allowed r.verdict) (is_named r.group g) refl refl (one_each rs are) (is ∙ omega arith) judgement

-- ---- a whole list, record by record

-- the record at an index of judged records is the judgement of its entry over those before
pub judgement_at : (rs : List Record) (i : ℕ) (r : Record) → i < length rs → r ≡ get_or rs i r → AreJudged rs → r ≡ record_of (take i rs) r.entry
judgement_at rs i r within is are =
    is ∙ Each-judged rs are i r within ∙ ap (λ (q : Record). record_of (take i rs) q.entry) (sym is)

-- one record more that is the judgement of its entry
pub AreJudged-more : (rs : List Record) (i : ℕ) (r : Record) → i < length rs → r ≡ get_or rs i r → AreJudged (take i rs) →
    r ≡ record_of (judged (entries_of (take i rs))) r.entry → AreJudged (take (i + 1) rs)
AreJudged-more rs i r within is are judgement =
    let more : take (i + 1) rs ≡ take i rs ++ r ∷ [] = take_more rs i r within ∙ ap (λ (q : Record). take i rs ++ q ∷ []) (sym is) in
    subst AreJudged (sym more) (AreJudged-push (take i rs) r are judgement)

pub entries_of-more : (rs : List Record) (i : ℕ) (r : Record) → i < length rs → r ≡ get_or rs i r →
    entries_of (take (i + 1) rs) ≡ entries_of (take i rs) ++ r.entry ∷ []
entries_of-more rs i r within is =
    ap entries_of (take_more rs i r within ∙ ap (λ (q : Record). take i rs ++ q ∷ []) (sym is)) ∙ entries_of-push (take i rs) r
