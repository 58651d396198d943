-- what is written of lines, piece after piece
use Rattle.std.proofs.Common.{◌≡◌, ℕ, ◌+◌, ◌<◌, suc, List, [], ◌∷◌, ◌++◌, length, map, take, drop, get_or, Option, Result, Ok, Err, IfErr, refl, sym, ap, subst, ◌∙◌, append_assoc, append-nil, add-zero, arith}
use Rattle.std.specs.Prelude.{OnOk}
use Rattle.std.specs.List.{concat, flat_map, enumerate_from}
use Rattle.std.specs.Io.KnownBytes.{Appends}
use Rattle.std.proofs.KnownBytes.{Appends-trans, Appends-nil}
use Rattle.std.proofs.lemmas.List.{drop_more, take_more, take-append-drop, map-append}
use Rattle.std.proofs.lemmas.List.Folds.{concat-append}
use Rattle.std.proofs.lemmas.List.Concat.{flat_map-append}
use Rattle.cpg_cred.specs.declared.refusals.Refusal.{Refusal}
use Rattle.cpg_cred.specs.declared.refusals.Refusal.TheVariants as refusal
use Rattle.cpg_text.specs.Streams.{AppendsFront}
use Rattle.cpg_text.specs.Written.{LeavesLines}

-- nothing was written yet
pub none_written : (a : Option (List ℕ)) (lines : List (List ℕ)) → LeavesLines lines refusal.Memory a a
none_written a lines = record { front = []; rest = lines; whole = refl; written = Appends-nil a }

-- a front of a line is a front of the text of that line
pub front_of_line : (a b : Option (List ℕ)) (line : List ℕ) → AppendsFront a b line → LeavesLines (line ∷ []) refusal.Write a b
front_of_line a b line f = record { front = f.front; rest = f.rest; whole = append-nil line ∙ f.whole; written = f.written }

-- a line is the text of that line
pub text_of_line : (a b : Option (List ℕ)) (line : List ℕ) → Appends a b line → Appends a b (concat (line ∷ []))
text_of_line a b line h = subst (Appends a b) (sym (append-nil line)) h

-- lines after lines
pub lines_after : (a b c : Option (List ℕ)) (done more : List (List ℕ)) → Appends a b (concat done) → Appends b c (concat more) → Appends a c (concat (done ++ more))
lines_after a b c done more h k = subst (Appends a c) (sym (concat-append done more)) (Appends-trans a b c (concat done) (concat more) h k)

-- what is left of lines that stand amid others, those before them written
pub leaves_amid : (a b c : Option (List ℕ)) (lines done cut rest : List (List ℕ)) (refused : Refusal)
    → lines ≡ done ++ (cut ++ rest) → Appends a b (concat done) → LeavesLines cut refused b c → LeavesLines lines refused a c
leaves_amid a b c lines done cut rest refusal.Write whole h f = record {
  front = concat done ++ f.front;
  rest = f.rest ++ concat rest;
  whole = ap concat whole ∙ concat-append done (cut ++ rest) ∙ ap (λ l. concat done ++ l) (concat-append cut rest ∙ ap (λ l. l ++ concat rest) f.whole ∙ append_assoc f.front f.rest (concat rest)) ∙ sym (append_assoc (concat done) f.front (f.rest ++ concat rest));
  written = Appends-trans a b c (concat done) f.front h f.written;
}
leaves_amid a b c lines done cut rest refusal.Memory whole h f = record {
  front = done ++ f.front;
  rest = f.rest ++ rest;
  whole = whole ∙ ap (λ l. done ++ l) (ap (λ l. l ++ rest) f.whole ∙ append_assoc f.front f.rest rest) ∙ sym (append_assoc done f.front (f.rest ++ rest));
  written = lines_after a b c done f.front h f.written;
}
leaves_amid a b c lines done cut rest _ whole h f = absurd f

-- the last of the lines
pub leaves_last : (a b c : Option (List ℕ)) (done cut : List (List ℕ)) (refused : Refusal)
    → Appends a b (concat done) → LeavesLines cut refused b c → LeavesLines (done ++ cut) refused a c
leaves_last a b c done cut refused h f =
    leaves_amid a b c (done ++ cut) done cut [] refused (ap (λ l. done ++ l) (sym (append-nil cut))) h f

-- the first of the lines
pub leaves_first : (a b : Option (List ℕ)) (cut rest : List (List ℕ)) (refused : Refusal)
    → LeavesLines cut refused a b → LeavesLines (cut ++ rest) refused a b
leaves_first a b cut rest refused f = leaves_amid a a b (cut ++ rest) [] cut rest refused refl (Appends-nil a) f

-- a list around one of its items
pub split_around : {A : Type 0} (xs : List A) (i : ℕ) (x : A) → i < length xs → get_or xs i x ≡ x → xs ≡ take i xs ++ (x ∷ drop (i + 1) xs)
split_around xs i x within e = sym (take-append-drop i xs) ∙ ap (λ l. take i xs ++ l) (drop_more xs i x within ∙ ap (λ y. y ∷ drop (i + 1) xs) e)

-- the lines of items, around those of one item
pub map_around : {A : Type 0} (f : A → List ℕ) (xs : List A) (i : ℕ) (x : A) → i < length xs → get_or xs i x ≡ x
    → map f xs ≡ map f (take i xs) ++ ((f x ∷ []) ++ map f (drop (i + 1) xs))
map_around f xs i x within e = ap (map f) (split_around xs i x within e) ∙ map-append f (take i xs) (x ∷ drop (i + 1) xs)

pub flat_around : {A : Type 0} (f : A → List (List ℕ)) (xs : List A) (i : ℕ) (x : A) → i < length xs → get_or xs i x ≡ x
    → flat_map f xs ≡ flat_map f (take i xs) ++ (f x ++ flat_map f (drop (i + 1) xs))
flat_around f xs i x within e = ap (flat_map f) (split_around xs i x within e) ∙ flat_map-append f (take i xs) (x ∷ drop (i + 1) xs)

-- one item more
pub map_one_more : {A : Type 0} (f : A → List ℕ) (xs : List A) (i : ℕ) (x : A) → i < length xs → get_or xs i x ≡ x
    → map f (take (i + 1) xs) ≡ map f (take i xs) ++ (f x ∷ [])
map_one_more f xs i x within e = ap (map f) (take_more xs i x within ∙ ap (λ y. take i xs ++ (y ∷ [])) e) ∙ map-append f (take i xs) (x ∷ [])

pub flat_one_more : {A : Type 0} (f : A → List (List ℕ)) (xs : List A) (i : ℕ) (x : A) → i < length xs → get_or xs i x ≡ x
    → flat_map f (take (i + 1) xs) ≡ flat_map f (take i xs) ++ f x
flat_one_more f xs i x within e =
    ap (flat_map f) (take_more xs i x within ∙ ap (λ y. take i xs ++ (y ∷ [])) e) ∙ flat_map-append f (take i xs) (x ∷ [])
    ∙ ap (λ l. flat_map f (take i xs) ++ l) (append-nil (f x))

-- the lines of items of items
pub map-flat_map : {A B C : Type 0} (f : B → C) (g : A → List B) (xs : List A) → map f (flat_map g xs) ≡ flat_map (λ x. map f (g x)) xs
map-flat_map f g [] = refl
map-flat_map f g (x ∷ xs) = map-append f (g x) (flat_map g xs) ∙ ap (λ l. map f (g x) ++ l) (map-flat_map f g xs)

-- numbered items, parted
pub enumerate_from-append : {A : Type 0} (n : ℕ) (xs ys : List A) → enumerate_from n (xs ++ ys) ≡ enumerate_from n xs ++ enumerate_from (n + length xs) ys
enumerate_from-append n [] ys = ap (λ m. enumerate_from m ys) (sym (add-zero n))
enumerate_from-append n (x ∷ xs) ys =
    let next : n + 1 + length xs ≡ n + suc (length xs) = omega arith in
    ap (λ l. (n, x) ∷ l) (enumerate_from-append (n + 1) xs ys ∙ ap (λ m. enumerate_from (n + 1) xs ++ enumerate_from m ys) next)

-- what a call that writes the rest makes of what was written before it
pub ok_after : (result : Result (Unit {0}) Refusal) (a b c : Option (List ℕ)) (lines done cut : List (List ℕ)) → lines ≡ done ++ cut → Appends a b (concat done)
    → OnOk result (Appends b c (concat cut)) → OnOk result (Appends a c (concat lines))
ok_after (Ok x) a b c lines done cut whole h k = subst (λ l. Appends a c (concat l)) (sym whole) (lines_after a b c done cut h k)
ok_after (Err refused) a b c lines done cut whole h k = tt

pub err_after : (result : Result (Unit {0}) Refusal) (a b c : Option (List ℕ)) (lines done cut : List (List ℕ)) → lines ≡ done ++ cut → Appends a b (concat done)
    → IfErr result (λ refused. LeavesLines cut refused b c) → IfErr result (λ refused. LeavesLines lines refused a c)
err_after (Ok x) a b c lines done cut whole h k = tt
err_after (Err refused) a b c lines done cut whole h k = subst (λ l. LeavesLines l refused a c) (sym whole) (leaves_last a b c done cut refused h k)

-- what memory leaves of lines of which the first were written
pub memory_amid : (a b : Option (List ℕ)) (lines done rest : List (List ℕ)) → lines ≡ done ++ rest → Appends a b (concat done) → LeavesLines lines refusal.Memory a b
memory_amid a b lines done rest whole h = record { front = done; rest = rest; whole = whole; written = h }
