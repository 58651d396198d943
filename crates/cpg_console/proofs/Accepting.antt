-- words that let users and groups in
use Rattle.std.proofs.Common.{◌≡◌, ℕ, zero, suc, List, [], ◌∷◌, Bool, true, false, Option, Some, None, Bor, refl, sym, subst, map, codes, arith}
use Rattle.std.proofs.lemmas.Bool.{false≢true}
use Rattle.std.specs.Prelude.{is_some, not, All, IsTrue, IsSome, ◌&&◌, ◌↔◌}
use Rattle.std.specs.List.{fold, list_all}
use Rattle.cpg_cred.specs.Listed.{Listed}
use Rattle.cpg_console.specs.Words.{nobody, with_either, with_word, and_word, is_accept_word, list_of_words, number_named}

either_alike : (list : Listed) (uid gid : Option ℕ) → is_some (with_either nobody uid gid) ≡ is_some (with_either list uid gid)
either_alike list (Some uid) gid = refl
either_alike list None (Some gid) = refl
either_alike list None None = refl

-- a word lets somebody in, whatever the list was before
pub word_alike : (list : Listed) (word : List ℕ) → is_accept_word word ≡ is_some (with_word list word)
word_alike list word = either_alike list (number_named (codes "uid:") word) (number_named (codes "gid:") word)

none_stays : (words : List (List ℕ)) → fold and_word None words ≡ None
none_stays [] = refl
none_stays (word ∷ later) = none_stays later

some_after : (one : Option Listed) (words : List (Bor (List ℕ))) → is_some one ≡ true → All (λ w. IsTrue (is_accept_word w.now)) words
    → is_some (fold and_word one (map (λ w. w.now) words)) ≡ true
some_after one [] e all = e
some_after None (word ∷ later) e all = rw (none_stays (map (λ w. w.now) later)) e
some_after (Some list) (word ∷ later) e all =
    some_after (with_word list word.now) later (rw (← word_alike list word.now) (all zero word (omega arith))) (λ k d h. all (suc k) d (omega (arith, h)))

-- words that each let somebody in give a list
pub some_where_all : (words : List (Bor (List ℕ))) → All (λ w. IsTrue (is_accept_word w.now)) words → IsSome (list_of_words (map (λ w. w.now) words))
some_where_all words all = some_after (Some nobody) words refl all

none_at : (b : Bool) (one : Option Listed) (later : List (Bor (List ℕ))) → b ≡ is_some one → (b && list_all (λ w. is_accept_word w.now) later) ≡ false
    → ((list : Listed) → list_all (λ w. is_accept_word w.now) later ≡ false → fold and_word (Some list) (map (λ w. w.now) later) ≡ None)
    → fold and_word one (map (λ w. w.now) later) ≡ None
none_at b None later e f each = none_stays (map (λ w. w.now) later)
none_at true (Some list) later e f each = each list f
none_at false (Some list) later e f each = absurd (false≢true e)

none_after : (list : Listed) (words : List (Bor (List ℕ))) → list_all (λ w. is_accept_word w.now) words ≡ false → fold and_word (Some list) (map (λ w. w.now) words) ≡ None
none_after list [] e = absurd (false≢true (sym e))
none_after list (word ∷ later) e =
    none_at (is_accept_word word.now) (with_word list word.now) later (word_alike list word.now) e (λ one f. none_after one later f)

-- words of which one lets nobody in give no list
pub none_unless_all : (words : List (Bor (List ℕ))) → list_all (λ w. is_accept_word w.now) words ≡ false → list_of_words (map (λ w. w.now) words) ≡ None
none_unless_all words e = none_after nobody words e

true_of : (a b : Bool) → (a && b) ≡ true → (a ≡ true) × (b ≡ true)
true_of true b e = (refl, e)
true_of false b e = absurd (false≢true e)

-- all words are among those that let somebody in
pub each_of_all : (words : List (Bor (List ℕ))) → list_all (λ w. is_accept_word w.now) words ≡ true → All (λ w. IsTrue (is_accept_word w.now)) words
each_of_all [] e k d h = absurd (omega (arith, h))
each_of_all (word ∷ later) e zero d h = (true_of (is_accept_word word.now) (list_all (λ w. is_accept_word w.now) later) e).0
each_of_all (word ∷ later) e (suc k) d h = each_of_all later (true_of (is_accept_word word.now) (list_all (λ w. is_accept_word w.now) later) e).1 k d (omega (arith, h))

wrong_by : (words : List (Bor (List ℕ))) (all : Bool) → list_all (λ w. is_accept_word w.now) words ≡ all → (not all ≡ true) ↔ (list_of_words (map (λ w. w.now) words) ≡ None)
wrong_by words true e = ((λ h. absurd (false≢true h)), (λ none. absurd (false≢true (subst IsSome none (some_where_all words (each_of_all words e))))))
wrong_by words false e = ((λ h. none_unless_all words e), (λ none. refl))

-- one of the words lets nobody in exactly where they give no list
pub wrong_exactly : (words : List (Bor (List ℕ))) → (not (list_all (λ w. is_accept_word w.now) words) ≡ true) ↔ (list_of_words (map (λ w. w.now) words) ≡ None)
wrong_exactly words = wrong_by words (list_all (λ w. is_accept_word w.now) words) refl
