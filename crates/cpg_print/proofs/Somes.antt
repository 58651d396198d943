-- whether there is a value
use Rattle.std.proofs.Common.{◌≡◌, false, Option, Some, None, option_map, is_some, refl}
use Rattle.cpg_text.specs.Words.{◌>>=◌}

-- what is made of a value is one
pub mapped : {A B : Type 0} (f : A → B) (o : Option A) → is_some (option_map f o) ≡ is_some o
mapped f None = refl
mapped f (Some x) = refl

pub then_some : {A B : Type 0} (f : A → B) (o : Option A) → is_some (o >>= λ x. Some (f x)) ≡ is_some o
then_some f None = refl
then_some f (Some x) = refl

-- where there is none
pub none_there : {A : Type 0} (o : Option A) → is_some o ≡ false → None ≡ o
none_there None is = refl
none_there (Some x) is = cc
