-- the first words of lines, and numbers in front of words
use Rattle.std.proofs.Common.{◌≡◌, ℕ, List, [], ◌∷◌, Bool, true, false, ◌&&◌, Option, Some, None, refl, ap, arith}
use Rattle.std.specs.Prelude.{codes, nat_le, if◌then◌else◌, option_map}
use Rattle.std.specs.Option.{option_and_then, unwrap_or}
use Rattle.std.proofs.lemmas.Bool.Decides.{nat_tests}
use Rattle.cpg_text.specs.Words.{◌>>=◌}
use Rattle.cpg_text.specs.Lines.{only}
use Rattle.cpg_world_laws.specs.declared.events.WorldEvent.{WorldEvent}
use Rattle.cpg_world_laws.specs.declared.events.WorldEvent.TheVariants.{Frame}
use Rattle.cpg_step.specs.Commands.{act_or_look, command_of, frame_of, node_of, submit_of, u64_of}

-- a command that begins with `call` acts, where it is one
pub call_acts : (nodes : ℕ) (words : List (List ℕ)) → command_of nodes (codes "call" ∷ words) ≡ act_or_look (submit_of nodes words) None
call_acts nodes words = refl

abbrev nothing : ℕ → Option WorldEvent
nothing n = None

none_then : (node : Option ℕ) → nothing 0 ≡ (node >>= nothing)
none_then None = refl
none_then (Some n) = refl

-- what follows the node of a frame is its number alone
pub frame_of_last : (nodes : ℕ) (node : List ℕ) (words : List (List ℕ))
    → frame_of nodes (node ∷ words) ≡ (node_of nodes node >>= λ n. option_and_then (λ word. u64_of word) (only words) >>= λ k. Some (Frame n k))
frame_of_last nodes node [] = none_then (node_of nodes node)
frame_of_last nodes node (a ∷ []) = refl
frame_of_last nodes node (a ∷ b ∷ more) = none_then (node_of nodes node)

-- a number of 32 bits is one of 64
pub widen : (digits : Bool) (value number : ℕ)
    → (if digits && nat_le 0 value && nat_le value 4294967295 then Some value else None) ≡ Some number
    → (if digits && nat_le 0 value && nat_le value 18446744073709551615 then Some value else None) ≡ Some number
widen false value number e = cc
widen true value number e = grind (arith, nat_tests, e)

-- a number and the words after it
abbrev pub found : ℕ → List (List ℕ) → Option (ℕ × List (List ℕ))
found number words = Some (number, words)

-- what was taken is the number, and the words that are left
pub taken_both : (words after : List (List ℕ)) (number : ℕ) (first : Option ℕ) → option_map {U = ℕ × List (List ℕ)} (λ n. (n, words)) first ≡ found number after
    → (first ≡ Some number) × (words ≡ after)
taken_both words after number None e = absurd (cc)
taken_both words after number (Some n) e = (ap (option_map {T = ℕ × List (List ℕ)} (λ p. p.0)) e, ap (λ (o : Option (ℕ × List (List ℕ))). (unwrap_or o (n, words)).1) e)

-- where a word is left, the number was not the last
pub more_left : (word : List ℕ) (words : List (List ℕ)) (number : ℕ) (first : Option ℕ)
    → option_map {U = ℕ × List (List ℕ)} (λ n. (n, word ∷ words)) first ≡ found number [] → ⊥
more_left word words number first e = let left = (taken_both (word ∷ words) [] number first e).1 in cc
