-- strings of plain bytes, and texts of plain characters
use Rattle.std.proofs.Common.{◌≡◌, ℕ, zero, List, [], ◌∷◌, ◌++◌, Bool, true, false, ◌&&◌, codes, nat_lt, refl, ap, ◌∙◌, arith}
use Rattle.std.proofs.lemmas.Bool.Decides.{nat_tests}
use Rattle.std.specs.Prelude.{if◌then◌else◌}
use Rattle.std.specs.Char.Escape.{encode_utf16}
use Rattle.std.specs.List.{flat_map, list_all}
use Rattle.std.specs.Str.{chars, chars_after}
use Rattle.cpg_json.specs.Strings.{hex_byte, is_plain, string_byte, string_char, unit_escape}

-- one plain byte more
one_more : (b : ℕ) (rest : List ℕ) (p q : Bool) → (p && q) ≡ true → (q ≡ true → flat_map string_byte rest ≡ rest) →
    (if p then b ∷ [] else codes "\\u00" ++ hex_byte b) ++ flat_map string_byte rest ≡ b ∷ rest
one_more b rest false q all more = cc
one_more b rest true q all more = ap (λ bytes. b ∷ bytes) (more all)

-- plain bytes stand for themselves
pub plain_escaped : (bytes : List ℕ) → list_all is_plain bytes ≡ true → flat_map string_byte bytes ≡ bytes
plain_escaped [] all = refl
plain_escaped (b ∷ bs) all = one_more b bs (is_plain b) (list_all is_plain bs) all (plain_escaped bs)

both : (p q : Bool) → (p && q) ≡ true → (p ≡ true) × (q ≡ true)
both true q all = (refl, all)
both false q all = absurd (cc)

-- a byte that is ASCII is a character by itself
one_char : (b : ℕ) (rest : List ℕ) → chars rest ≡ rest → chars_after zero b rest ≡ b ∷ rest
unfolding chars
one_char b [] same = refl
one_char b (next ∷ rest) same = ap (λ cs. b ∷ cs) same

plain_chars : (bytes : List ℕ) → list_all is_plain bytes ≡ true → chars bytes ≡ bytes
unfolding chars
plain_chars [] all = refl
plain_chars (b ∷ bs) all =
    let parts = both (is_plain b) (list_all is_plain bs) all in
    let small : nat_lt b 128 ≡ true = (let plain = parts.0 in grind (arith, nat_tests)) in
    rw small (one_char b bs (plain_chars bs parts.1))

-- one plain character more
one_text : (c : ℕ) (rest : List ℕ) (p q : Bool) → (p && q) ≡ true → (q ≡ true → flat_map string_char rest ≡ rest) →
    (if p then c ∷ [] else flat_map unit_escape (encode_utf16 c)) ++ flat_map string_char rest ≡ c ∷ rest
one_text c rest false q all more = cc
one_text c rest true q all more = ap (λ cs. c ∷ cs) (more all)

plain_kept : (cs : List ℕ) → list_all is_plain cs ≡ true → flat_map string_char cs ≡ cs
plain_kept [] all = refl
plain_kept (c ∷ cs) all = one_text c cs (is_plain c) (list_all is_plain cs) all (plain_kept cs)

-- plain bytes are a text of themselves
pub plain_text : (bytes : List ℕ) → list_all is_plain bytes ≡ true → flat_map string_char (chars bytes) ≡ bytes
plain_text bytes all = ap (flat_map string_char) (plain_chars bytes all) ∙ plain_kept bytes all
