-- paths that stand for others
use Rattle.std.proofs.Common.{◌≡◌, ℕ, List, [], ◌∷◌, ◌++◌, Bor, map, take, length, ◌<◌, ◌+◌, suc, get_or, refl, sym, ap, ◌∙◌, subst, append_assoc, add-one, inl, inr}
use Rattle.std.proofs.lemmas.List.{map-append}
use Rattle.std.proofs.Math.Seq.{take-suc}
use Rattle.cpgring.specs.Folders.{AreBehind, AreFrom, IsBehind, StandsFor}

-- one more path behind a directory's
pub behind_more : (directory : List ℕ) (paths more : List (List ℕ)) (path : List ℕ) → more ≡ paths ++ path ∷ [] → IsBehind directory path → AreBehind directory paths → AreBehind directory more
behind_more directory paths more path is behind all = (
  all.0 ++ behind.0 ∷ [],
  is ∙ ap (λ (p : List (List ℕ)). p ++ path ∷ []) all.1 ∙ ap (λ (p : List ℕ). map (λ name. directory ++ name) all.0 ++ p ∷ []) behind.1
      ∙ sym (map-append (λ name. directory ++ name) all.0 (behind.0 ∷ [])),
)

nothing_behind : (paths : List (List ℕ)) → paths ++ [] ≡ paths
nothing_behind [] = refl
nothing_behind (path ∷ paths) = ap (λ (p : List (List ℕ)). path ∷ p) (nothing_behind paths)

from_more : (given : List (List ℕ)) (paths : List (List ℕ)) (next : List ℕ) (here : List (List ℕ)) → AreFrom given paths → StandsFor next here → AreFrom (given ++ next ∷ []) (paths ++ here)
from_more [] paths next here from stands = (here, ([], ap (λ (p : List (List ℕ)). p ++ here) from ∙ sym (nothing_behind here), stands, refl))
from_more (first ∷ given) paths next here from stands = (
  from.0,
  (
    from.1.0 ++ here,
    ap (λ (p : List (List ℕ)). p ++ here) from.1.1 ∙ append_assoc from.0 from.1.0 here,
    from.1.2,
    from_more given from.1.0 next here from.1.3 stands,
  ),
)

-- one given path more
pub from_next : (given : List (Bor (List ℕ))) (next : Bor (List ℕ)) (paths more here : List (List ℕ)) → AreFrom (map (λ path. path.now) given) paths → StandsFor next.now here → more ≡ paths ++ here
    → AreFrom (map (λ path. path.now) (given ++ next ∷ [])) more
from_next given next paths more here from stands is =
    subst (λ (m : List (List ℕ)). AreFrom (map (λ path. path.now) (given ++ next ∷ [])) m) (sym is)
    (subst (λ (g : List (List ℕ)). AreFrom g (paths ++ here)) (sym (map-append (λ path. path.now) given (next ∷ [])))
    (from_more (map (λ path. path.now) given) paths next.now here from stands))

-- the same of the paths up to an index
pub from_taken : (given : List (Bor (List ℕ))) (i : ℕ) (d : Bor (List ℕ)) (paths more here : List (List ℕ)) → i < length given → AreFrom (map (λ path. path.now) (take i given)) paths
    → StandsFor (get_or given i d).now here → more ≡ paths ++ here → AreFrom (map (λ path. path.now) (take (i + 1) given)) more
from_taken given i d paths more here within from stands is =
    subst (λ (g : List (Bor (List ℕ))). AreFrom (map (λ path. path.now) g) more) (sym (ap (λ n. take n given) (add-one i) ∙ take-suc given i d within))
    (from_next (take i given) (get_or given i d) paths more here from stands is)
