-- Members by the new numbers of their connections are as distinct as before.
use Rattle.std.proofs.Common.{◌≡◌, ◌≤◌, ◌<◌, ◌+◌, ℕ, zero, suc, Bool, true, false, cond, not, eqb, eq-eqb, ◌&&◌, List, [], ◌∷◌, ◌++◌, map, length, Option, Some, None, refl, sym, ap, ◌∙◌, subst, arith, if◌then◌else◌}
use Rattle.std.specs.Prelude.{count_by}
use Rattle.std.specs.List.{AllByRecursion, filter, slice_get}
use Rattle.std.specs.Str.{bytes_eq}
use Rattle.cpg_ask.proofs.Mapped.{length_mapped}
use Rattle.std.proofs.lemmas.Option.{none-some, same_Some}
use Rattle.cpg_record.specs.declared.connections.ConnId.{ConnId}
use Rattle.cpg_record.specs.declared.limits.TheConstants.{MOST_MEMBERS}
use Rattle.cpg_record.specs.declared.memberships.Member.{Member}
use Rattle.cpg_record.specs.Connections.{conn_in, is_conn}
use Rattle.cpg_record.specs.Membership.{Membership}
use Rattle.cpg_record.proofs.Growing.{is_conn-true}
use Rattle.cpg_ring.specs.Worlds.{item}
use Rattle.cpg_node.specs.declared.connections.Client.{Client}
use Rattle.cpg_serve.specs.Renewing.{among, AreDistinct}
use Rattle.cpg_serve.specs.Carrying.{HasNumber, numbered, number_in, number_at, renumbered}
use Rattle.cpg_serve.proofs.Seated.{tally, tally_is, same_conn}

-- ---- no two connections have one number

abbrev Above : ℕ → List ℕ → Type 0
Above n numbers = (i k : ℕ) → slice_get numbers i ≡ Some k → 1 ≤ k → n < k

above : (n : ℕ) (cs : List Client) → Above n (numbered n cs)
above n [] i k e low = absurd (none-some k e)
above n (c ∷ cs) i k e low = by_end c.ended i (above n cs) (above (suc n) cs) e
  where
    by_end : (b : Bool) (i : ℕ) → Above n (numbered n cs) → Above (suc n) (numbered (suc n) cs) → slice_get (if b then 0 ∷ numbered n cs else suc n ∷ numbered (suc n) cs) i ≡ Some k → n < k
    by_end true zero f g e = let z : 0 ≡ k = same_Some 0 k e in absurd (omega (arith, z, low))
    by_end true (suc i) f g e = f i k e low
    by_end false zero f g e = let z : suc n ≡ k = same_Some (suc n) k e in omega (arith, z)
    by_end false (suc i) f g e = let l = g i k e low in omega (arith, l)

abbrev Once : List ℕ → Type 0
Once numbers = (i j k : ℕ) → slice_get numbers i ≡ Some k → slice_get numbers j ≡ Some k → 1 ≤ k → i ≡ j

once : (n : ℕ) (cs : List Client) → Once (numbered n cs)
once n [] i j k e f low = absurd (none-some k e)
once n (c ∷ cs) i j k e f low = by_end c.ended i j (once n cs) (once (suc n) cs) e f
  where
    by_end : (b : Bool) (i j : ℕ) → Once (numbered n cs) → Once (numbered (suc n) cs) → slice_get (if b then 0 ∷ numbered n cs else suc n ∷ numbered (suc n) cs) i ≡ Some k → slice_get (if b then 0 ∷ numbered n cs else suc n ∷ numbered (suc n) cs) j ≡ Some k → i ≡ j
    by_end b zero zero g h e f = refl
    by_end true zero (suc j) g h e f = let z : 0 ≡ k = same_Some 0 k e in absurd (omega (arith, z, low))
    by_end true (suc i) zero g h e f = let z : 0 ≡ k = same_Some 0 k f in absurd (omega (arith, z, low))
    by_end true (suc i) (suc j) g h e f = ap suc (g i j k e f low)
    by_end false zero (suc j) g h e f = let z : suc n ≡ k = same_Some (suc n) k e in let l = above (suc n) cs j k f low in absurd (omega (arith, z, l))
    by_end false (suc i) zero g h e f = let z : suc n ≡ k = same_Some (suc n) k f in let l = above (suc n) cs i k e low in absurd (omega (arith, z, l))
    by_end false (suc i) (suc j) g h e f = ap suc (h i j k e f low)

there : (o : Option ℕ) (k : ℕ) → number_in o ≡ k → 1 ≤ k → o ≡ Some k
there None k e low = absurd (omega (arith, e, low))
there (Some n) k e low = ap Some e

same_number : (n : ℕ) (cs : List Client) (a b k : ℕ) → number_at (numbered n cs) a ≡ k → number_at (numbered n cs) b ≡ k → 1 ≤ k → a ≡ b
same_number n cs zero b k e f low = absurd (omega (arith, e, low))
same_number n cs (suc a) zero k e f low = absurd (omega (arith, f, low))
same_number n cs (suc a) (suc b) k e f low =
    ap suc (once n cs a b k (there (item (numbered n cs) (suc a)) k e low) (there (item (numbered n cs) (suc b)) k f low) low)

pub above_all : (n : ℕ) (cs : List Client) (conn : ℕ) → 1 ≤ number_at (numbered n cs) conn → n < number_at (numbered n cs) conn
above_all n cs zero low = absurd (omega (arith, low))
above_all n cs (suc conn) low = above n cs conn (number_at (numbered n cs) (suc conn)) (there (item (numbered n cs) (suc conn)) (number_at (numbered n cs) (suc conn)) refl low) low

-- ---- so members are as distinct as before

-- of those by new numbers no more are of one connection than were of the one that has that number
no_more : (n : ℕ) (cs : List Client) (m : Membership) (conn : ConnId) (all : List Membership) → conn ≡ conn_in (renumbered (numbered n cs) m).member → HasNumber (numbered n cs) m
    → tally (λ (x : Membership). is_conn conn (conn_in x.member)) (map (renumbered (numbered n cs)) all) ≤ tally (λ (x : Membership). is_conn (conn_in m.member) (conn_in x.member)) all
no_more n cs m conn [] is low = omega arith
no_more n cs m conn (x ∷ all) is low = by_case (is_conn conn (conn_in (renumbered (numbered n cs) x).member)) refl (no_more n cs m conn all is low)
  where
    numbers : List ℕ
    numbers = numbered n cs

    by_case : (b : Bool) → is_conn conn (conn_in (renumbered numbers x).member) ≡ b
        → tally (λ (x : Membership). is_conn conn (conn_in x.member)) (map (renumbered numbers) all) ≤ tally (λ (x : Membership). is_conn (conn_in m.member) (conn_in x.member)) all
        → cond b 1 0 + tally (λ (x : Membership). is_conn conn (conn_in x.member)) (map (renumbered numbers) all) ≤ cond (is_conn (conn_in m.member) (conn_in x.member)) 1 0 + tally (λ (x : Membership). is_conn (conn_in m.member) (conn_in x.member)) all
    by_case false e more = omega (arith, more)
    by_case true e more =
        let two : conn_in (renumbered numbers m).member ≡ conn_in (renumbered numbers x).member = sym is ∙ is_conn-true conn (conn_in (renumbered numbers x).member) e in
        let node : m.member.node ≡ x.member.node = ap (λ (c : ConnId). c.node) two in
        let number : number_at numbers m.member.conn ≡ number_at numbers x.member.conn = ap (λ (c : ConnId). c.conn) two in
        let same : m.member.conn ≡ x.member.conn = same_number n cs m.member.conn x.member.conn (number_at numbers m.member.conn) refl (sym number) low in
        let own : is_conn (conn_in m.member) (conn_in x.member) ≡ true = rw (eq-eqb m.member.node x.member.node node, eq-eqb m.member.conn x.member.conn same) refl in
        rw own (omega (arith, more))

few_conns : (n : ℕ) (cs : List Client) (all : List Membership) → AllByRecursion (HasNumber (numbered n cs)) all → ((conn : ConnId) → tally (λ (x : Membership). is_conn conn (conn_in x.member)) all ≤ 1)
    → (conn : ConnId) → tally (λ (x : Membership). is_conn conn (conn_in x.member)) (map (renumbered (numbered n cs)) all) ≤ 1
few_conns n cs [] has few conn = omega arith
few_conns n cs (m ∷ all) has few conn = by_case (is_conn conn (conn_in (renumbered (numbered n cs) m).member)) refl (few_conns n cs all has.1 (λ c. behind c (few c)) conn)
  where
    behind : (c : ConnId) → cond (is_conn c (conn_in m.member)) 1 0 + tally (λ (x : Membership). is_conn c (conn_in x.member)) all ≤ 1 → tally (λ (x : Membership). is_conn c (conn_in x.member)) all ≤ 1
    behind c l = omega (arith, l)

    by_case : (b : Bool) → is_conn conn (conn_in (renumbered (numbered n cs) m).member) ≡ b → tally (λ (x : Membership). is_conn conn (conn_in x.member)) (map (renumbered (numbered n cs)) all) ≤ 1
        → cond b 1 0 + tally (λ (x : Membership). is_conn conn (conn_in x.member)) (map (renumbered (numbered n cs)) all) ≤ 1
    by_case false e rest = omega (arith, rest)
    by_case true e rest =
        let is : conn ≡ conn_in (renumbered (numbered n cs) m).member = is_conn-true conn (conn_in (renumbered (numbered n cs) m).member) e in
        let l = no_more n cs m conn all is has.0 in
        let own : is_conn (conn_in m.member) (conn_in m.member) ≡ true = same_conn (conn_in m.member) in
        let k : cond true 1 0 + tally (λ (x : Membership). is_conn (conn_in m.member) (conn_in x.member)) all ≤ 1 =
        subst (λ (b : Bool). cond b 1 0 + tally (λ (x : Membership). is_conn (conn_in m.member) (conn_in x.member)) all ≤ 1) own (few (conn_in m.member)) in
        omega (arith, l, k)

abbrev moved : List ℕ → Member → Member
moved numbers m = record { node = m.node; conn = number_at numbers m.conn; pid = m.pid }

among_moved : (numbers : List ℕ) (all : List Membership) (g : List ℕ) → among (map (renumbered numbers) all) g ≡ map (moved numbers) (among all g)
among_moved numbers [] g = refl
among_moved numbers (m ∷ all) g = by_case (bytes_eq m.group g) (among_moved numbers all g)
  where
    by_case : (b : Bool) → among (map (renumbered numbers) all) g ≡ map (moved numbers) (among all g) → map (λ (x : Membership). x.member) (cond b (renumbered numbers m ∷ filter (λ (x : Membership). bytes_eq x.group g) (map (renumbered numbers) all)) (filter (λ (x : Membership). bytes_eq x.group g) (map (renumbered numbers) all)))
        ≡ map (moved numbers) (map (λ (x : Membership). x.member) (cond b (m ∷ filter (λ (x : Membership). bytes_eq x.group g) all) (filter (λ (x : Membership). bytes_eq x.group g) all)))
    by_case true e = ap (λ (l : List Member). moved numbers m.member ∷ l) e
    by_case false e = e

tally_moved : (numbers : List ℕ) (node pid : ℕ) (ms : List Member) → tally (λ (m : Member). eqb m.node node && eqb m.pid pid) (map (moved numbers) ms) ≡ tally (λ (m : Member). eqb m.node node && eqb m.pid pid) ms
tally_moved numbers node pid [] = refl
tally_moved numbers node pid (m ∷ ms) = ap (λ k. cond (eqb m.node node && eqb m.pid pid) 1 0 + k) (tally_moved numbers node pid ms)

pub distinct_still : (n : ℕ) (cs : List Client) (all : List Membership) → AllByRecursion (HasNumber (numbered n cs)) all → AreDistinct all → AreDistinct (map (renumbered (numbered n cs)) all)
distinct_still n cs all has h = record {
  conns = λ conn. subst (λ (k : ℕ). k ≤ 1) (tally_is (λ (x : Membership). is_conn conn (conn_in x.member)) (map (renumbered (numbered n cs)) all))
      (few_conns n cs all has (λ c. subst (λ (k : ℕ). k ≤ 1) (sym (tally_is (λ (x : Membership). is_conn c (conn_in x.member)) all)) (h.conns c)) conn);
  processes = λ g node pid.
      let p : Member → Bool = λ m. eqb m.node node && eqb m.pid pid in
      subst (λ (k : ℕ). k ≤ 1) (sym (ap (count_by p) (among_moved (numbered n cs) all g) ∙ sym (tally_is p (map (moved (numbered n cs)) (among all g))) ∙ tally_moved (numbered n cs) node pid (among all g) ∙ tally_is p (among all g))) (h.processes g node pid);
  few = λ g. subst (λ (k : ℕ). k ≤ MOST_MEMBERS) (sym (ap (λ (l : List Member). length l) (among_moved (numbered n cs) all g) ∙ length_mapped (moved (numbered n cs)) (among all g))) (h.few g);
}
