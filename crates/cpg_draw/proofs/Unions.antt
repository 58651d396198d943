-- what frames reached together, and each of them
use Rattle.std.proofs.Common.{◌≡◌, ◌≢◌, ◌⊎◌, inl, inr, ℕ, zero, suc, ◌-◌, ◌*◌, ◌^◌, ◌<◌, ◌≤◌, max, Bool, true, false, not, ◌&&◌, ◌||◌, ◌==◌, nat_lt, nat_le, bit_and, bit_or, List, [], ◌∷◌, ◌++◌, if◌then◌else◌, refl, sym, ap, ◌∙◌, arith}
use Rattle.std.specs.Int.{bit_at}
use Rattle.std.proofs.lemmas.Nat.{and_comm, pow_pos}
use Rattle.std.proofs.Math.Nat.{le-mul_of_pos_right, zero-mul}
use Rattle.std.proofs.lemmas.Nat.Bits.{and_pow, bit_at_or, bit_at-pow_same, bit_at-pow_other}
use Rattle.std.proofs.lemmas.Bool.{cases_lt}
use Rattle.std.proofs.lemmas.Bool.Decides.{nat_tests}
use Rattle.cpg_draw.specs.declared.arrows.Arrow.{Arrow}
use Rattle.cpg_draw.specs.Sets.{bit_of, with_node, has}
use Rattle.cpg_draw.specs.Misses.{overtaken, misses_at, misses_to, misses_in}
use Rattle.cpg_draw.specs.Passed.{reached, passed_in}

nonzero : (n : ℕ) → 0 < n → not (n == 0) ≡ true
nonzero n some = grind (arith, nat_tests)

scaled : (m k : ℕ) → 0 < m → not (m * 2 ^ k == 0) ≡ true
scaled m k some =
    let more : m ≤ m * 2 ^ k = le-mul_of_pos_right m (pow_pos k) in
    nonzero (m * 2 ^ k) (omega arith)

either_way : (p q k : ℕ) → not (max p q * 2 ^ k == 0) ≡ (not (p * 2 ^ k == 0) || not (q * 2 ^ k == 0))
either_way zero q k =
    let larger : max zero q ≡ q = omega arith in
    let none : zero * 2 ^ k ≡ 0 = zero-mul (2 ^ k) in
    ap (λ n. not (n * 2 ^ k == 0)) larger ∙ sym (ap (λ n. not (n == 0) || not (q * 2 ^ k == 0)) none)
either_way (suc p) q k =
    let some : 0 < suc p = omega arith in
    let larger : 0 < max (suc p) q = omega arith in
    scaled (max (suc p) q) k larger ∙ sym (ap (λ b. b || not (q * 2 ^ k == 0)) (scaled (suc p) k some))

bit_either : (x y k : ℕ) → not (bit_and (bit_or x y) (2 ^ k) == 0) ≡ (not (bit_and x (2 ^ k) == 0) || not (bit_and y (2 ^ k) == 0))
bit_either x y k =
    ap (λ n. not (n == 0)) (and_pow (bit_or x y) k ∙ ap (λ n. n * 2 ^ k) (bit_at_or x y k))
    ∙ (either_way (bit_at x k) (bit_at y k) k
    ∙ sym (ap (λ n. not (n == 0) || not (bit_and y (2 ^ k) == 0)) (and_pow x k) ∙ ap (λ n. not (bit_at x k * 2 ^ k == 0) || not (n == 0)) (and_pow y k)))

none_either : (x y : ℕ) → not (bit_and (bit_or x y) 0 == 0) ≡ (not (bit_and x 0 == 0) || not (bit_and y 0 == 0))
none_either x y =
    ap (λ n. not (n == 0)) (and_comm (bit_or x y) 0)
    ∙ sym (ap (λ n. not (n == 0) || not (bit_and y 0 == 0)) (and_comm x 0) ∙ ap (λ n. not (n == 0)) (and_comm y 0))

either_at : (b : Bool) (x y k : ℕ)
    → not (bit_and (bit_or x y) (if b then 2 ^ k else 0) == 0) ≡ (not (bit_and x (if b then 2 ^ k else 0) == 0) || not (bit_and y (if b then 2 ^ k else 0) == 0))
either_at true x y k = bit_either x y k
either_at false x y k = none_either x y

-- a node is in one set or the other
pub has_either : (x y node : ℕ) → has (bit_or x y) node ≡ (has x node || has y node)
unfolding bit_of
has_either x y node = either_at (nat_lt 0 node && nat_le node 8) x y (node - 1)

-- and no node in the empty set
pub has_none : (node : ℕ) → has 0 node ≡ false
has_none node = refl

swapped : (a b : Bool) → (a || b) ≡ (b || a)
swapped true true = refl
swapped true false = refl
swapped false true = refl
swapped false false = refl

one_more : (b : Bool) (set came sender node : ℕ) (later : Bool) → has set node ≡ later
    → has (if b then bit_or set came else set) node ≡ ((b && has came node) || later)
one_more true set came sender node later known = has_either set came node ∙ (ap (λ x. x || has came node) known ∙ swapped later (has came node))
one_more false set came sender node later known = known

-- the nodes that frames of a sender reached
pub reached_is : (later : List Arrow) (sender node : ℕ) → has (reached later sender) node ≡ overtaken sender later node
reached_is [] sender node = has_none node
reached_is (a ∷ later) sender node = one_more (a.node == sender) (reached later sender) a.came sender node (overtaken sender later node) (reached_is later sender node)

same_to : (nodes : ℕ) (a : Arrow) (f g : ℕ → Bool) (count : ℕ) → ((node : ℕ) → f node ≡ g node) → misses_to nodes a f count ≡ misses_to nodes a g count
same_to nodes a f g zero same = refl
same_to nodes a f g (suc before) same =
    ap (λ x. x ++ misses_at nodes a f (suc before)) (same_to nodes a f g before same)
    ∙ ap (λ b. misses_to nodes a g before ++ misses_at nodes a (λ n. b) (suc before)) (same (suc before))

-- all that did not come, told by sets of nodes
pub same_misses : (nodes : ℕ) (arrows : List Arrow) → passed_in nodes arrows ≡ misses_in nodes arrows
same_misses nodes [] = refl
same_misses nodes (a ∷ later) =
    ap (λ x. x ++ passed_in nodes later) (same_to nodes a (has (reached later a.node)) (overtaken a.node later) nodes (reached_is later a.node))
    ∙ ap (λ x. misses_to nodes a (overtaken a.node later) nodes ++ x) (same_misses nodes later)

-- the bit of a node, and that of another
bit_alone : (j k : ℕ) → not (bit_and (2 ^ k) (2 ^ j) == 0) ≡ (j == k)
bit_alone j k = ap (λ n. not (n == 0)) (and_pow (2 ^ k) j) ∙ alone (cases_lt j k) (cases_lt k j)
  where
    same : j ≡ k → not (bit_at (2 ^ k) j * 2 ^ j == 0) ≡ (j == k)
    same e =
        let here : bit_at (2 ^ k) j ≡ 1 = ap (bit_at (2 ^ k)) e ∙ bit_at-pow_same k in
        let one : 0 < 1 = omega arith in
        let alike : (j == k) ≡ true = grind (arith, nat_tests) in
        ap (λ n. not (n * 2 ^ j == 0)) here ∙ (scaled 1 j one ∙ sym alike)

    other : j ≢ k → not (bit_at (2 ^ k) j * 2 ^ j == 0) ≡ (j == k)
    other e =
        let none : bit_at (2 ^ k) j * 2 ^ j ≡ 0 = ap (λ n. n * 2 ^ j) (bit_at-pow_other k j e) ∙ zero-mul (2 ^ j) in
        let apart : (j == k) ≡ false = grind (arith, nat_tests) in
        ap (λ n. not (n == 0)) none ∙ sym apart

    alone : (j < k) ⊎ (k ≤ j) → (k < j) ⊎ (j ≤ k) → not (bit_at (2 ^ k) j * 2 ^ j == 0) ≡ (j == k)
    alone (inl less) more = other (omega arith)
    alone (inr least) (inl more) = other (omega arith)
    alone (inr least) (inr most) = same (omega arith)

one_less : (m n : ℕ) → 0 < m → 0 < n → (m - 1 == n - 1) ≡ (m == n)
one_less m n some more = grind (arith, nat_tests)

one_of : (a b : Bool) (node other : ℕ) → a ≡ (nat_lt 0 node && nat_le node 8) → b ≡ true → 0 < other → other ≤ 8
    → not (bit_and (if a then 2 ^ (node - 1) else 0) (if b then 2 ^ (other - 1) else 0) == 0) ≡ (other == node)
one_of true true node other here there some few =
    let more : 0 < node = grind (arith, nat_tests) in
    bit_alone (other - 1) (node - 1) ∙ one_less other node some more
one_of false true node other here there some few =
    let apart : (other == node) ≡ false = grind (arith, nat_tests) in
    sym apart
one_of a false node other here there some few = absurd (cc)

bit_of_one : (node other : ℕ) → 0 < other → other ≤ 8 → has (bit_of node) other ≡ (other == node)
unfolding bit_of
bit_of_one node other some few =
    let there : (nat_lt 0 other && nat_le other 8) ≡ true = grind (arith, nat_tests) in
    one_of (nat_lt 0 node && nat_le node 8) (nat_lt 0 other && nat_le other 8) node other refl there some few

-- the node is in the set that it was put in, and no other is new
pub put_in : (nodes node other : ℕ) → 0 < other → other ≤ 8 → has (with_node nodes node) other ≡ (has nodes other || (other == node))
put_in nodes node other some few = has_either nodes (bit_of node) other ∙ ap (λ b. has nodes other || b) (bit_of_one node other some few)
