-- The groups that have a table are those to which a record adds.
use Rattle.std.proofs.Common.{◌≡◌, ◌≤◌, ◌+◌, ℕ, zero, suc, Bool, true, false, true≢false, ◌&&◌, ◌||◌, List, [], ◌∷◌, ◌++◌, map, length, refl, sym, ap, ◌∙◌, subst, append-nil, if◌then◌else◌}
use Rattle.std.specs.List.{AllByRecursion, enumerate_from, fold, list_any}
use Rattle.std.specs.Str.{bytes_eq}
use Rattle.std.proofs.lemmas.Slice.Eq.{bytes_eq-Decides}
use Rattle.cpg_rules.specs.declared.rules.Rule.{Rule}
use Rattle.cpg_rules.specs.Tables.{Rules, without_id}
use Rattle.cpg_entry.specs.declared.calls.Call.TheVariants.{Join, Leave, Send, Insert, Remove}
use Rattle.cpg_entry.specs.declared.calls.Op.{Op}
use Rattle.cpg_entry.specs.declared.calls.Op.TheVariants.{Act, Gone}
use Rattle.cpg_entry.specs.declared.entries.Entry.{Entry}
use Rattle.cpg_record.specs.declared.records.Record.{Record}
use Rattle.cpg_record.specs.Judging.{judged}
use Rattle.cpg_record.specs.Membership.{is_allowed, is_named}
use Rattle.cpg_record.specs.RuleTables.{edited, edited_by, named, rules_of}
use Rattle.cpg_record.proofs.Bounded.{judged_within_bounds}
use Rattle.cpg_record.proofs.Nexts.{same_either_way}
use Rattle.cpg_ask.proofs.Mapped.{length_mapped}
use Rattle.cpg_serve.specs.Renewing.{AreTables, HasTable, TableOf, bare}
use Rattle.cpg_serve.specs.Carrying.{inserted_into, table_of, tabled, tables_in, with_names}

abbrev any_of : List (List ℕ) → List ℕ → Bool
any_of names g = list_any (λ name. bytes_eq name g) names

-- ---- names that are among others

any_push : (names : List (List ℕ)) (h g : List ℕ) → any_of (names ++ h ∷ []) g ≡ (any_of names g || bytes_eq h g)
any_push [] h g = or_false (bytes_eq h g)
  where
    or_false : (b : Bool) → (b || false) ≡ b
    or_false true = refl
    or_false false = refl
any_push (name ∷ names) h g = ap (λ b. bytes_eq name g || b) (any_push names h g) ∙ or_or (bytes_eq name g) (any_of names g) (bytes_eq h g)
  where
    or_or : (a b c : Bool) → (a || (b || c)) ≡ ((a || b) || c)
    or_or true b c = refl
    or_or false b c = refl

or_left : (b c : Bool) → (b || c) ≡ false → b ≡ false
or_left false c e = refl
or_left true c e = absurd (true≢false e)

or_right : (b c : Bool) → (b || c) ≡ false → c ≡ false
or_right false c e = e
or_right true c e = absurd (true≢false e)

-- what is not among more names is not among fewer
before_names : (names more : List (List ℕ)) (g : List ℕ) → any_of (with_names names more) g ≡ false → any_of names g ≡ false
before_names names [] g e = e
before_names names (h ∷ more) g e = by_case (any_of names h) (before_names names more g) (before_names (names ++ h ∷ []) more g) e
  where
    by_case : (b : Bool) → (any_of (with_names names more) g ≡ false → any_of names g ≡ false) → (any_of (with_names (names ++ h ∷ []) more) g ≡ false → any_of (names ++ h ∷ []) g ≡ false)
        → any_of (if b then with_names names more else with_names (names ++ h ∷ []) more) g ≡ false → any_of names g ≡ false
    by_case true f k e = f e
    by_case false f k e = or_left (any_of names g) (bytes_eq h g) (sym (any_push names h g) ∙ k e)

abbrev step : List (List ℕ) → Record → List (List ℕ)
step names r = with_names names (tabled r)

before_all : (rs : List Record) (names : List (List ℕ)) (g : List ℕ) → any_of (fold step names rs) g ≡ false → any_of names g ≡ false
before_all [] names g e = e
before_all (r ∷ rs) names g e = before_names names (tabled r) g (before_all rs (step names r) g e)

-- a name that was put in is not another
is_other : (names : List (List ℕ)) (h g : List ℕ) → any_of (with_names names (h ∷ [])) g ≡ false → bytes_eq h g ≡ false
is_other names h g e = by_case (any_of names h) refl e
  where
    by_bytes : (b : Bool) → bytes_eq h g ≡ b → any_of names h ≡ true → any_of names g ≡ false → b ≡ false
    by_bytes false f there none = refl
    by_bytes true f there none = absurd (true≢false (sym there ∙ ap (any_of names) ((bytes_eq-Decides h g).0 f) ∙ none))

    by_case : (b : Bool) → any_of names h ≡ b → any_of (if b then names else names ++ h ∷ []) g ≡ false → bytes_eq h g ≡ false
    by_case true there e = by_bytes (bytes_eq h g) refl there e
    by_case false there e = or_right (any_of names g) (bytes_eq h g) (sym (any_push names h g) ∙ e)

-- ---- a group to which no record adds has no rule

abbrev no_rules : Rules
no_rules = []

either : (b : Bool) → (if b then no_rules else no_rules) ≡ no_rules
either true = refl
either false = refl

not_edited : (n : ℕ) (names : List (List ℕ)) (g : List ℕ) (r : Record) → any_of (step names r) g ≡ false → edited g [] (n, r) ≡ []
not_edited n names g r e = by_verdict (is_allowed r.verdict) r.entry.op e
  where
    by_verdict : (b : Bool) (op : Op) → any_of (with_names names (if b then inserted_into op else [])) g ≡ false → (if b && is_named (named op) g then edited_by n op [] else []) ≡ []
    by_verdict false op e = refl
    by_verdict true (Act (Insert h index rule)) e = ap (λ c. if c then edited_by n (Act (Insert h index rule)) [] else []) (is_other names h g e)
    by_verdict true (Act (Join h)) e = either (bytes_eq h g)
    by_verdict true (Act (Remove h id)) e = either (bytes_eq h g)
    by_verdict true (Act Leave) e = refl
    by_verdict true (Act (Send message)) e = refl
    by_verdict true Gone e = refl

none_from : (rs : List Record) (n : ℕ) (names : List (List ℕ)) (g : List ℕ) → any_of (fold step names rs) g ≡ false → fold (edited g) [] (enumerate_from n rs) ≡ []
none_from [] n names g e = refl
none_from (r ∷ rs) n names g e =
    ap (λ (rules : Rules). fold (edited g) rules (enumerate_from (n + 1) rs)) (not_edited n names g r (before_all rs (step names r) g e)) ∙ none_from rs (n + 1) (step names r) g e

pub no_table : (rs : List Record) (g : List ℕ) → any_of (tables_in rs) g ≡ false → rules_of rs g ≡ []
no_table rs g e = none_from rs 1 [] g e

-- ---- the names differ

abbrev Apart : List (List ℕ) → Type 0
Apart [] = Unit {0}
Apart (g ∷ more) = AllByRecursion (λ h. bytes_eq g h ≡ false) more × Apart more

all_push : (g h : List ℕ) (names : List (List ℕ)) → AllByRecursion (λ k. bytes_eq g k ≡ false) names → bytes_eq g h ≡ false → AllByRecursion (λ k. bytes_eq g k ≡ false) (names ++ h ∷ [])
all_push g h [] all e = (e, tt)
all_push g h (k ∷ names) all e = (all.0, all_push g h names all.1 e)

apart_push : (names : List (List ℕ)) (h : List ℕ) → Apart names → any_of names h ≡ false → Apart (names ++ h ∷ [])
apart_push [] h apart e = (tt, tt)
apart_push (g ∷ names) h apart e = (all_push g h names apart.0 (or_left (bytes_eq g h) (any_of names h) e), apart_push names h apart.1 (or_right (bytes_eq g h) (any_of names h) e))

apart_names : (names more : List (List ℕ)) → Apart names → Apart (with_names names more)
apart_names names [] apart = apart
apart_names names (h ∷ more) apart = by_case (any_of names h) refl (apart_names names more) (apart_names (names ++ h ∷ []) more)
  where
    by_case : (b : Bool) → any_of names h ≡ b → (Apart names → Apart (with_names names more)) → (Apart (names ++ h ∷ []) → Apart (with_names (names ++ h ∷ []) more))
        → Apart (if b then with_names names more else with_names (names ++ h ∷ []) more)
    by_case true e f k = f apart
    by_case false e f k = k (apart_push names h apart e)

apart_all : (rs : List Record) (names : List (List ℕ)) → Apart names → Apart (fold step names rs)
apart_all [] names apart = apart
apart_all (r ∷ rs) names apart = apart_all rs (step names r) (apart_names names (tabled r) apart)

-- ---- tables of those names

others : (rs : List Record) (g : List ℕ) (names : List (List ℕ)) → AllByRecursion (λ h. bytes_eq g h ≡ false) names → AllByRecursion (λ (t : TableOf). bytes_eq g t.group ≡ false) (map (table_of rs) names)
others rs g [] all = tt
others rs g (h ∷ names) all = (all.0, others rs g names all.1)

tables_are : (es : List Entry) (names : List (List ℕ)) → Apart names → AreTables (map (table_of (judged es)) names)
tables_are es [] apart = tt
tables_are es (g ∷ names) apart =
    (subst (λ (k : ℕ). k ≤ 64) (sym (length_mapped (λ (p : ℕ × Rule). p.1) (rules_of (judged es) g))) ((judged_within_bounds es).few_rules g), others (judged es) g names apart.0, tables_are es names apart.1)

-- the tables of all groups that have one
pub all_tables : (es : List Entry) → AreTables (map (table_of (judged es)) (tables_in (judged es)))
all_tables es = tables_are es (tables_in (judged es)) (apart_all (judged es) [] tt)

-- a table that is back
pub is_back : (rs new : List Record) (names : List (List ℕ)) (g : List ℕ) → AllByRecursion (HasTable new) (map (table_of rs) names) → any_of names g ≡ true → bare (rules_of new g) ≡ bare (rules_of rs g)
is_back rs new [] g back e = absurd (true≢false (sym e))
is_back rs new (h ∷ names) g back e = by_case (bytes_eq h g) refl (is_back rs new names g back.1) e
  where
    by_case : (b : Bool) → bytes_eq h g ≡ b → (any_of names g ≡ true → bare (rules_of new g) ≡ bare (rules_of rs g)) → (b || any_of names g) ≡ true → bare (rules_of new g) ≡ bare (rules_of rs g)
    by_case true f k e = subst (λ (k : List ℕ). bare (rules_of new k) ≡ bare (rules_of rs k)) ((bytes_eq-Decides h g).0 f) back.0
    by_case false f k e = k e

pub elsewhere : (rs : List Record) (names : List (List ℕ)) (g : List ℕ) → any_of names g ≡ false → AllByRecursion (λ (t : TableOf). bytes_eq t.group g ≡ false) (map (table_of rs) names)
elsewhere rs [] g e = tt
elsewhere rs (h ∷ names) g e = (or_left (bytes_eq h g) (any_of names g) e, elsewhere rs names g (or_right (bytes_eq h g) (any_of names g) e))
