-- the condition that is told of a rule that is passed
use Rattle.std.proofs.Common.{◌≡◌, ◌≢◌, ℕ, ◌==◌, Bool, true, false, cond, ◌&&◌, Option, Some, None, refl, sym, ap, ◌∙◌, arith}
use Rattle.std.specs.Prelude.{not, is_some}
use Rattle.std.proofs.lemmas.Bool.Decides.{nat_tests}
use Rattle.std.proofs.lemmas.Option.{same_Some}
use Rattle.cpg_rules.specs.declared.rules.Asker.{Asker}
use Rattle.cpg_rules.specs.declared.rules.Who.{Who}
use Rattle.cpg_rules.specs.Decision.{agrees, matches}
use Rattle.cpg_why.specs.declared.unmet.Subject.{Subject}
use Rattle.cpg_why.specs.declared.unmet.Subject.TheVariants.{Uid, Gid, Node}
use Rattle.cpg_why.specs.declared.unmet.Unmet.{Unmet}
use Rattle.cpg_why.specs.Laws.{IsUnmet, TellsTheUnmet, TellsWhereNotMatched}
use Rattle.cpg_why.specs.Unmet.{first_of_two, had_by, lacking, unmet, wanted_by}

-- ---- where one is told

agrees_lacking : (kind : Subject) (has : ℕ) (condition : Option ℕ) → agrees condition has ≡ not (is_some (lacking kind has condition))
agrees_lacking kind has None = refl
agrees_lacking kind has (Some wanted) = by_case (has == wanted) refl
  where
    by_case : (b : Bool) → has == wanted ≡ b → b ≡ not (is_some {T = Unmet} (cond b None (Some (record { kind = kind; has = has; wanted = wanted }))))
    by_case true test = refl
    by_case false test = refl

three : (x y z : Option Unmet) → (not (is_some x) && not (is_some y) && not (is_some z)) ≡ not (is_some (first_of_two x (first_of_two y z)))
three (Some u) y z = refl
three None (Some u) z = refl
three None None z = refl

pub matches_unmet : (who : Who) (asker : Asker) → matches who asker ≡ not (is_some (unmet who asker))
unfolding unmet
matches_unmet who asker =
    let x = lacking Uid asker.cred.uid who.uid in
    let y = lacking Gid asker.cred.gid who.gid in
    let z = lacking Node asker.node who.node in
    ap (λ (b : Bool). b && agrees who.gid asker.cred.gid && agrees who.node asker.node) (agrees_lacking Uid asker.cred.uid who.uid)
    ∙ ap (λ (b : Bool). not (is_some x) && b && agrees who.node asker.node) (agrees_lacking Gid asker.cred.gid who.gid)
    ∙ ap (λ (b : Bool). not (is_some x) && not (is_some y) && b) (agrees_lacking Node asker.node who.node)
    ∙ three x y z

some_told : (o : Option Unmet) → not (is_some o) ≡ false → (found : Unmet) × (o ≡ Some found)
some_told None h = absurd (cc)
some_told (Some u) h = (u, refl)

told_some : (o : Option Unmet) (found : Unmet) → o ≡ Some found → not (is_some o) ≡ false
told_some o found is = ap (λ (x : Option Unmet). not (is_some x)) is

pub tells_where : TellsWhereNotMatched
tells_where who asker =
    (λ h. some_told (unmet who asker) (sym (matches_unmet who asker) ∙ h), λ h. matches_unmet who asker ∙ told_some (unmet who asker) h.0 h.1)

-- ---- what is told

differ : (a b : ℕ) → a == b ≡ false → a ≢ b
differ a b h = grind (arith, nat_tests)

-- a condition of one kind that does not hold
record Lacks (kind : Subject) (has : ℕ) (condition : Option ℕ) (found : Unmet) : Type 0 where
  of_kind : found.kind ≡ kind
  wants : condition ≡ Some found.wanted
  had : has ≡ found.has
  differs : found.has ≢ found.wanted

lacks : (kind : Subject) (has : ℕ) (condition : Option ℕ) (found : Unmet) → lacking kind has condition ≡ Some found → Lacks kind has condition found
lacks kind has None found is = absurd (cc)
lacks kind has (Some wanted) found is = by_case (has == wanted) refl is
  where
    by_case : (b : Bool) → has == wanted ≡ b → cond b None (Some (record { kind = kind; has = has; wanted = wanted })) ≡ Some found → Lacks kind has (Some wanted) found
    by_case true test so = absurd (cc)
    by_case false test so =
        let same : record { kind = kind; has = has; wanted = wanted } ≡ found = same_Some _ found so in
        let had : has ≡ found.has = ap (λ (u : Unmet). u.has) same in
        let wants : wanted ≡ found.wanted = ap (λ (u : Unmet). u.wanted) same in
        record {
          of_kind = sym (ap (λ (u : Unmet). u.kind) same);
          wants = ap Some wants;
          had = had;
          differs = λ h. differ has wanted test (had ∙ h ∙ sym wants);
        }

as_unmet : (who : Who) (asker : Asker) (kind : Subject) (found : Unmet) → Lacks kind (had_by kind asker) (wanted_by kind who) found → IsUnmet who asker found
as_unmet who asker kind found l = record {
  wanted = ap (λ (k : Subject). wanted_by k who) l.of_kind ∙ l.wants;
  had = ap (λ (k : Subject). had_by k asker) l.of_kind ∙ l.had;
  differs = l.differs;
}

pub tells_the_unmet : TellsTheUnmet
unfolding unmet
tells_the_unmet who asker found is =
    by_case (lacking Uid asker.cred.uid who.uid) (lacking Gid asker.cred.gid who.gid) refl refl is
  where
    by_case : (x y : Option Unmet) → lacking Uid asker.cred.uid who.uid ≡ x → lacking Gid asker.cred.gid who.gid ≡ y →
        first_of_two x (first_of_two y (lacking Node asker.node who.node)) ≡ Some found → IsUnmet who asker found
    by_case (Some u) y a b so = as_unmet who asker Uid found (lacks Uid asker.cred.uid who.uid found (a ∙ so))
    by_case None (Some u) a b so = as_unmet who asker Gid found (lacks Gid asker.cred.gid who.gid found (b ∙ so))
    by_case None None a b so = as_unmet who asker Node found (lacks Node asker.node who.node found so)
