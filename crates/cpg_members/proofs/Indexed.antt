-- The kept processes are those of the members after one more is put in, and after those of a leaver went.
use Rattle.std.proofs.Common.{◌≡◌, ℕ, ◌+◌, ◌<◌, ◌≤◌, Bool, true, false, not, ◌&&◌, ◌||◌, cond, List, [], ◌∷◌, length, take, get_or, refl, sym, ap, subst, ◌∙◌, arith}
use Rattle.std.specs.Prelude.{count_by}
use Rattle.std.specs.List.{filter, list_any}
use Rattle.std.proofs.lemmas.List.Folds.{list_any_more}
use Rattle.std.proofs.lemmas.List.Sums.{count_by-le-length, length-filter, sum_by-cons}
use Rattle.cpg_record.specs.declared.connections.ConnId.{ConnId}
use Rattle.cpg_record.specs.declared.memberships.Member.{Member}
use Rattle.cpg_record.specs.Connections.{conn_in, is_conn}
use Rattle.cpg_record.specs.Steps.{without}
use Rattle.cpg_members.specs.declared.member_index.Process.{Process}
use Rattle.cpg_members.specs.Processes.{process_in, is_leaver, is_process, AreProcesses, OnceEach, TakesOut}

-- how many pass, by the first of them
count-cons : {X : Type 0} (p : X → Bool) (x : X) (xs : List X) → count_by p (x ∷ xs) ≡ cond (p x) 1 0 + count_by p xs
count-cons p x xs = sum_by-cons (λ y. cond (p y) 1 0) x xs

-- where none is counted, none passes
none_passes : {X : Type 0} (p : X → Bool) (xs : List X) → count_by p xs ≤ 0 → list_any p xs ≡ false
none_passes p [] h = refl
none_passes {X} p (x ∷ xs) h = by_case (p x) (none_passes p xs) (subst (λ (n : ℕ). n ≤ 0) (count-cons p x xs) h)
  where
    by_case : (b : Bool) → (count_by p xs ≤ 0 → list_any p xs ≡ false) → cond b 1 0 + count_by p xs ≤ 0 → (b || list_any p xs) ≡ false
    by_case true others k = absurd (omega arith)
    by_case false others k = others (omega arith)

module _ {X : Type 0} (goes p : X → Bool) where
  -- who passes both tests passes the one
  both_none : (xs : List X) → list_any p xs ≡ false → list_any (λ x. goes x && p x) xs ≡ false
  both_none [] h = refl
  both_none (x ∷ xs) h = by_case (goes x) (p x) (both_none xs) h
    where
      by_case : (b c : Bool) → (list_any p xs ≡ false → list_any (λ x. goes x && p x) xs ≡ false) → (c || list_any p xs) ≡ false → ((b && c) || list_any (λ x. goes x && p x) xs) ≡ false
      by_case b true others k = absurd (cc)
      by_case true false others k = others k
      by_case false false others k = others k

  -- nor does one of the rest
  kept_none : (xs : List X) → list_any p xs ≡ false → list_any p (filter (λ x. not (goes x)) xs) ≡ false
  kept_none [] h = refl
  kept_none (x ∷ xs) h = by_case (goes x) (p x) refl (kept_none xs) h
    where
      by_case : (b c : Bool) → p x ≡ c → (list_any p xs ≡ false → list_any p (filter (λ x. not (goes x)) xs) ≡ false) → (c || list_any p xs) ≡ false →
          list_any p (cond (not b) (x ∷ filter (λ x. not (goes x)) xs) (filter (λ x. not (goes x)) xs)) ≡ false
      by_case b true is others k = absurd (cc)
      by_case true false is others k = others k
      by_case false false is others k = ap (λ (t : Bool). t || list_any p (filter (λ x. not (goes x)) xs)) is ∙ others k

  -- where one at most passes, one of the rest passes exactly where one does who doesn't go
  rest_passes : (xs : List X) → count_by p xs ≤ 1 → (list_any p xs && not (list_any (λ x. goes x && p x) xs)) ≡ list_any p (filter (λ x. not (goes x)) xs)
  rest_passes [] h = refl
  rest_passes (x ∷ xs) h = by_case (goes x) (p x) refl (rest_passes xs) (subst (λ (n : ℕ). n ≤ 1) (count-cons p x xs) h)
    where
      by_case : (b c : Bool) → p x ≡ c → (count_by p xs ≤ 1 → (list_any p xs && not (list_any (λ x. goes x && p x) xs)) ≡ list_any p (filter (λ x. not (goes x)) xs)) →
          cond c 1 0 + count_by p xs ≤ 1 →
          ((c || list_any p xs) && not ((b && c) || list_any (λ x. goes x && p x) xs))
          ≡ list_any p (cond (not b) (x ∷ filter (λ x. not (goes x)) xs) (filter (λ x. not (goes x)) xs))
      by_case true true is others k = sym (kept_none xs (none_passes p xs (omega arith)))
      by_case true false is others k = others (omega arith)
      by_case false true is others k =
          ap not (both_none xs (none_passes p xs (omega arith)))
          ∙ sym (ap (λ (t : Bool). t || list_any p (filter (λ x. not (goes x)) xs)) is)
      by_case false false is others k = others (omega arith) ∙ sym (ap (λ (t : Bool). t || list_any p (filter (λ x. not (goes x)) xs)) is)

-- the kept processes after those of a connection went are those of the members without it
pub leavers_out : (conn : ConnId) (members after : List Member) (old new : List Process) → AreProcesses old members → OnceEach members → TakesOut conn members old new →
    after ≡ without conn members → AreProcesses new after
leavers_out conn members after old new are once out is p =
    out p
    ∙ ap (λ (t : Bool). t && not (list_any (is_leaver conn p) members)) (are p)
    ∙ rest_passes (λ member. is_conn (conn_in member) conn) (λ member. is_process (process_in member) p) members (once p)
    ∙ ap (list_any (λ member. is_process (process_in member) p)) (sym is)

-- where the members are few, few stay
pub few_stay : {n : ℕ} (conn : ConnId) (members after : List Member) → after ≡ without conn members → length members ≤ n → length after ≤ n
few_stay conn members after is few = fewer few (subst (λ (n : ℕ). n ≤ length members) (sym (ap length is ∙ length-filter stays members)) (count_by-le-length stays members))
  where
    stays : Member → Bool
    stays member = not (is_conn (conn_in member) conn)

    fewer : {n m k : ℕ} → m ≤ k → n ≤ m → n ≤ k
    fewer few less = omega arith

-- with a member's process put in, the kept processes are those of one member more
pub one_more : (members : List Member) (i : ℕ) (d : Member) (added : Process) (old new : List Process) → i < length members → AreProcesses old (take i members) →
    added ≡ process_in (get_or members i d) →
    ((p : Process) → list_any (is_process p) new ≡ cond (is_process added p) true (list_any (is_process p) old)) → AreProcesses new (take (i + 1) members)
one_more members i d added old new within are is put p =
    put p
    ∙ either (is_process added p) (list_any (is_process p) old)
    ∙ ap (λ (t : Bool). t || is_process added p) (are p)
    ∙ ap (λ q. list_any has (take i members) || is_process q p) is
    ∙ sym (list_any_more has members i d within)
  where
    has : Member → Bool
    has member = is_process (process_in member) p

    either : (b c : Bool) → cond b true c ≡ (c || b)
    either true true = refl
    either true false = refl
    either false true = refl
    either false false = refl
