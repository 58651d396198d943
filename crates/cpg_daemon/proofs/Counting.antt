-- So many ends of each thread.
use Rattle.std.proofs.Common.{◌≡◌, ℕ, suc, ◌+◌, ◌*◌, ◌-◌, ◌<◌, ◌≤◌, ap, ◌∙◌, subst, mul-le-mul_right, suc-mul, arith}

pub one_more : (counter peers : ℕ) → (counter + 1) * peers ≡ counter * peers + peers
one_more counter peers = let e : counter + 1 ≡ suc counter = omega arith in ap (λ n. n * peers) e ∙ suc-mul counter peers

pub room_for_more : (counter total peers : ℕ) → counter < total → counter * peers + peers ≤ total * peers
room_for_more counter total peers short =
    let below : suc counter ≤ total = omega (arith, short) in
    subst (λ n. n ≤ total * peers) (suc-mul counter peers) (mul-le-mul_right peers below)

pub last_fits : (before nodes peers : ℕ) → before < nodes → peers ≤ (nodes - before) * peers
last_fits before nodes peers short =
    let e : nodes - before ≡ suc (nodes - (before + 1)) = omega (arith, short) in
    let p : (nodes - before) * peers ≡ (nodes - (before + 1)) * peers + peers = ap (λ n. n * peers) e ∙ suc-mul (nodes - (before + 1)) peers in
    omega (arith, p)

pub one_fewer : (before nodes peers count : ℕ) → before < nodes → count + peers ≡ (nodes - before) * peers → count ≡ (nodes - (before + 1)) * peers
one_fewer before nodes peers count short is =
    let e : nodes - before ≡ suc (nodes - (before + 1)) = omega (arith, short) in
    let p : (nodes - before) * peers ≡ (nodes - (before + 1)) * peers + peers = ap (λ n. n * peers) e ∙ suc-mul (nodes - (before + 1)) peers in
    omega (arith, p, is)

pub fits_fewer : (fewer nodes peers room : ℕ) → fewer ≤ nodes → nodes * peers ≤ room → fewer * peers ≤ room
fits_fewer fewer nodes peers room few fits = let m = mul-le-mul_right peers few in omega (arith, m, fits)
