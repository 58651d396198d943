-- the last of some words, and those before it
use Rattle.std.specs.Borrow.{Bor}
use Rattle.std.proofs.Common.{◌≡◌, ℕ, ◌-◌, List, length, map, take, option_map, slice_get}
use Rattle.std.proofs.lemmas.List.{length-map, take-map}
use Rattle.std.proofs.lemmas.Option.{slice_get-map}
use Rattle.cpgring.specs.Sources.{last_word}

pub last_mapped : (words : List (Bor (List ℕ))) → last_word (map (λ word. word.now) words) ≡ option_map (λ word. word.now) (slice_get words (length words - 1))
last_mapped words = rw (length-map words (λ word. word.now)) (slice_get-map (λ word. word.now) words (length words - 1))

pub before_mapped : (words : List (Bor (List ℕ))) → take (length (map (λ word. word.now) words) - 1) (map (λ word. word.now) words) ≡ map (λ word. word.now) (take (length words - 1) words)
before_mapped words = rw (length-map words (λ word. word.now)) (take-map (λ word. word.now) (length words - 1) words)
