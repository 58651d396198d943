-- The words of a new history.
use Rattle.std.proofs.Common.{◌≡◌, ℕ, zero, suc, Bool, true, false, List, [], ◌∷◌, ◌==◌, refl, sym, ap, subst}
use Rattle.std.proofs.lemmas.List.{append-nil}
use mathlib.Core.Option.{some, some-ne-none, some-injective}
use lib.ListN.{get_elem?}
use Rattle.atomic_table.specs.Table.{State}
use Rattle.cpg_world_laws.specs.declared.events.WorldEvent.{WorldEvent}
use Rattle.cpg_board.specs.declared.words.View.{View}
use Rattle.cpg_board.specs.Words.{FitsHistory, Kept, Rests, all_nodes, many_words, words_of}

abbrev pub Rule : Bool → State ℕ View → Type 0
Rule counted s = Kept counted s.words s.views

-- by their number, whether events are counted
pub tells_counted : (counted : Bool) (words : ℕ) → words ≡ many_words counted → (words == 17) ≡ counted
tells_counted true words is = ap (λ n. n == 17) is
tells_counted false words is = ap (λ n. n == 17) is

pub rests_self : (n : ℕ) (xs : List WorldEvent) → Rests n xs xs
rests_self n xs = ([], append-nil xs, tt)

-- a new history
pub begins : (counted : Bool) (words : List ℕ) → words ≡ words_of counted 0 → Rule counted record { words = words; homes = []; views = all_nodes ∷ [] }
begins counted words count = record { log = []; seat = λ n. 0; count = count; each = first }
  where
    v : View
    v = all_nodes

    first : (by : ℕ) (u : View) → get_elem? (v ∷ []) by ≡ some u → FitsHistory [] (λ n. 0) by u
    first zero u at = subst (FitsHistory [] (λ n. 0) 0) (some-injective v u at) (record { seen = ([], refl); also = ([], refl); own = λ n owns. (refl, rests_self n []) })
    first (suc j) u at = absurd (some-ne-none u (sym at))
