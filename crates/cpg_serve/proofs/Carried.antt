-- What a ring has that begins with what another had.
use Rattle.std.proofs.Common.{◌≡◌, ◌<◌, ◌≤◌, ℕ, suc, Bool, true, false, not, eqb, ne_eqb, ◌&&◌, List, [], ◌∷◌, ◌++◌, map, length, refl, sym, ap, ◌∙◌, subst, append-nil, arith}
use Rattle.std.specs.List.{AllByRecursion, filter, fold, list_any}
use Rattle.std.specs.Str.{bytes_eq}
use Rattle.std.proofs.lemmas.List.Sums.{fold_push}
use Rattle.cpg_cred.specs.declared.credentials.Cred.{Cred}
use Rattle.cpg_entry.specs.declared.calls.Op.TheVariants.{Gone}
use Rattle.cpg_entry.specs.declared.entries.Entry.{Entry}
use Rattle.cpg_record.specs.declared.records.Record.{Record}
use Rattle.cpg_record.specs.Connections.{conn_in, conn_of, is_conn}
use Rattle.cpg_record.specs.Judging.{judged, record_of, with_judgement}
use Rattle.cpg_record.specs.Membership.{Membership, memberships}
use Rattle.cpg_record.specs.RuleTables.{rules_of}
use Rattle.cpg_record.proofs.Growing.{memberships_push, rules_of_push}
use Rattle.cpg_node.specs.declared.connections.Client.{Client}
use Rattle.cpg_serve.specs.Renewing.{AreDistinct, HasTable, IsSeating, Root, Seat, bare, renewal}
use Rattle.cpg_serve.specs.Carrying.{HasNumber, NextKeepsAll, next_entries, numbered, number_at, renumbered, root_end, table_of, tables_in}
use Rattle.cpg_serve.proofs.Numbered.{above_all, distinct_still}
use Rattle.cpg_serve.proofs.Renewed.{renewal_elsewhere, renewal_keeps_all}
use Rattle.cpg_serve.proofs.Seated.{seats_are_there}
use Rattle.cpg_serve.proofs.Tabled.{all_tables, elsewhere, is_back, no_table}

-- ---- the end of a connection that is no member changes nothing

filter_none : (p : Membership → Bool) (all : List Membership) → AllByRecursion (λ m. p m ≡ true) all → filter p all ≡ all
filter_none p [] h = refl
filter_none p (m ∷ all) h = rw h.0 (ap (λ (l : List Membership). m ∷ l) (filter_none p all h.1))

-- not a member's connection
abbrev IsApart : Root → Membership → Type 0
IsApart root m = is_conn (conn_in m.member) (conn_of (root_end root)) ≡ false

none_ends : (root : Root) (all : List Membership) → AllByRecursion (IsApart root) all → AllByRecursion (λ (m : Membership). not (is_conn (conn_in m.member) (conn_of (root_end root))) ≡ true) all
none_ends root [] h = tt
none_ends root (m ∷ all) h = (ap not h.0, none_ends root all h.1)

ended_members : (rs : List Record) (root : Root) → AllByRecursion (IsApart root) (memberships rs) → memberships (rs ++ record_of rs (root_end root) ∷ []) ≡ memberships rs
ended_members rs root h =
    memberships_push rs (record_of rs (root_end root)) ∙ append-nil (filter (λ (m : Membership). not (is_conn (conn_in m.member) (conn_of (root_end root)))) (memberships rs))
    ∙ filter_none (λ (m : Membership). not (is_conn (conn_in m.member) (conn_of (root_end root)))) (memberships rs) (none_ends root (memberships rs) h)

ended_rules : (rs : List Record) (root : Root) (g : List ℕ) → rules_of (rs ++ record_of rs (root_end root) ∷ []) g ≡ rules_of rs g
ended_rules rs root g = rules_of_push rs (record_of rs (root_end root)) g

apart_all : (n : ℕ) (cs : List Client) (root : Root) (all : List Membership) → root.conn ≡ n → AllByRecursion (HasNumber (numbered n cs)) all → AllByRecursion (IsApart root) (map (renumbered (numbered n cs)) all)
apart_all n cs root [] is has = tt
apart_all n cs root (m ∷ all) is has =
    let l : n < number_at (numbered n cs) m.member.conn = above_all n cs m.member.conn has.0 in
    let other : eqb (number_at (numbered n cs) m.member.conn) root.conn ≡ false = ne_eqb (number_at (numbered n cs) m.member.conn) root.conn (λ same. omega (arith, l, is, same)) in
    (rw other (and_false (eqb m.member.node root.node)), apart_all n cs root all is has.1)
  where
    and_false : (b : Bool) → (b && false) ≡ false
    and_false true = refl
    and_false false = refl

-- ---- all that the next ring has

pub next_keeps_all : NextKeepsAll
next_keeps_all es cs root seats is has same =
    let rs : List Record = judged es in
    let all : List Membership = memberships rs in
    let distinct = distinct_still 1 cs all has (seats_are_there.ring es) in
    let free = seats_are_there.seats seats (subst (λ (l : List Membership). AreDistinct l) (sym same) distinct) in
    let kept = renewal_keeps_all seats root (map (table_of rs) (tables_in rs)) free (all_tables es) in
    let mid : List Record = judged (renewal seats root (map (table_of rs) (tables_in rs))) in
    let back : memberships mid ≡ map (renumbered (numbered 1 cs)) all = kept.0 ∙ same in
    let last : judged (next_entries seats root rs) ≡ mid ++ record_of mid (root_end root) ∷ [] = fold_push with_judgement [] (renewal seats root (map (table_of rs) (tables_in rs))) (root_end root) in
    record {
      members = ap memberships last
          ∙ ended_members mid root (subst (λ (l : List Membership). AllByRecursion (IsApart root) l) (sym back) (apart_all 1 cs root all is has)) ∙ back;
      rules = λ g. ap (λ (l : List Record). bare (rules_of l g)) last ∙ ap bare (ended_rules mid root g) ∙ by_name g (list_any (λ name. bytes_eq name g) (tables_in rs)) refl free kept.1;
    }
  where
    by_name : (g : List ℕ) (b : Bool) → list_any (λ name. bytes_eq name g) (tables_in (judged es)) ≡ b → IsSeating [] seats
        → AllByRecursion (HasTable (judged (renewal seats root (map (table_of (judged es)) (tables_in (judged es)))))) (map (table_of (judged es)) (tables_in (judged es)))
        → bare (rules_of (judged (renewal seats root (map (table_of (judged es)) (tables_in (judged es))))) g) ≡ bare (rules_of (judged es) g)
    by_name g true e free back = is_back (judged es) (judged (renewal seats root (map (table_of (judged es)) (tables_in (judged es))))) (tables_in (judged es)) g back e
    by_name g false e free back =
        ap bare (renewal_elsewhere seats root (map (table_of (judged es)) (tables_in (judged es))) g free (all_tables es) (elsewhere (judged es) (tables_in (judged es)) g e))
        ∙ sym (ap bare (no_table (judged es) g e))
