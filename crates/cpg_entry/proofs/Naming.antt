-- which names are accepted, as a test
use Rattle.std.proofs.Common.{◌≡◌, ℕ, ◌≤◌, List, get_or, Bool, true, false, IsTrue, ◌↔◌, refl, sym, arith}
use Rattle.std.proofs.lemmas.Bool.Decides.{nat_tests}
use Rattle.std.proofs.lemmas.List.Sums.{AllPass-from_list_all, list_all-from_AllPass}
use Rattle.std.specs.List.{list_all}
use Rattle.cpg_entry.specs.Names.{IsName, is_name, is_name_byte}

byte_passes : (byte : ℕ) → (0x21 ≤ byte) × (byte ≤ 0x7e) → is_name_byte byte ≡ true
byte_passes byte h = grind (arith, nat_tests)

byte_fits : (byte : ℕ) → is_name_byte byte ≡ true → (0x21 ≤ byte) × (byte ≤ 0x7e)
byte_fits byte h = (grind (arith, nat_tests), grind (arith, nat_tests))

pub name_passes : (bytes : List ℕ) → IsName bytes → is_name bytes ≡ true
name_passes bytes h =
    let each : list_all is_name_byte bytes ≡ true = list_all-from_AllPass is_name_byte bytes (λ k d l. byte_passes (get_or bytes k d) (h.2 k d l)) in
    let one = h.0 in
    let many = h.1 in
    grind (arith, nat_tests)

pub name_fits : (bytes : List ℕ) → is_name bytes ≡ true → IsName bytes
name_fits bytes h =
    let each : list_all is_name_byte bytes ≡ true = grind (arith, nat_tests) in
    (grind (arith, nat_tests), grind (arith, nat_tests), λ k d l. byte_fits (get_or bytes k d) (AllPass-from_list_all is_name_byte bytes each k d l))

-- an answer that is true exactly where the bytes are a name is the test
pub is_name_of : (answer : Bool) (bytes : List ℕ) → (IsTrue answer ↔ IsName bytes) → answer ≡ is_name bytes
is_name_of true bytes tells = sym (name_passes bytes (tells.0 refl))
is_name_of false bytes tells = by_test (is_name bytes) refl
  where
    by_test : (test : Bool) → is_name bytes ≡ test → false ≡ test
    by_test false e = refl
    by_test true e = tells.1 (name_fits bytes e)
