-- the numbers of frames, put one after the other
use Rattle.std.proofs.Common.{◌≡◌, ℕ, suc, ◌+◌, ◌-◌, ◌<◌, ◌≤◌, List, [], ◌∷◌, ◌++◌, map, codes, decimal, sym, ap, ◌∙◌, append_assoc, append-nil, arith}
use Rattle.std.specs.List.{range_with_len}
use Rattle.std.proofs.lemmas.List.FromFn.{map-range_with_len_more}
use Rattle.cpg_json.proofs.Fields.{more_append}
use Rattle.cpg_json.specs.Marks.{frames_between}
use Rattle.cpg_json.specs.Objects.{after_comma, joined, more}

none_between : (before last : ℕ) → last ≤ before → frames_between before last ≡ []
none_between before last few =
    let none : last - before ≡ 0 = omega (arith, few) in
    ap (range_with_len (before + 1)) none

-- no frame was sent
pub none_joined : (old : List ℕ) (before last : ℕ) → last ≤ before → old ≡ old ++ joined (map decimal (frames_between before last))
none_joined old before last few = sym (ap (λ (ns : List ℕ). old ++ joined (map decimal ns)) (none_between before last few) ∙ append-nil old)

pub none_put : (old : List ℕ) (before last : ℕ) → last ≤ before → old ≡ old ++ more (map decimal (frames_between before last))
none_put old before last few = sym (ap (λ (ns : List ℕ). old ++ more (map decimal ns)) (none_between before last few) ∙ append-nil old)

-- the first one comes first
first_between : (before last : ℕ) → before < last → frames_between before last ≡ (before + 1) ∷ frames_between (before + 1) last
first_between before last some =
    let one : last - before ≡ suc (last - (before + 1)) = omega (arith, some) in
    ap (range_with_len (before + 1)) one

pub first_put : (old text new : List ℕ) (before last : ℕ) → before < last → text ≡ old ++ decimal (before + 1) → new ≡ text ++ more (map decimal (frames_between (before + 1) last))
    → new ≡ old ++ joined (map decimal (frames_between before last))
first_put old text new before last some first rest =
    rest ∙ ap (λ l. l ++ more (map decimal (frames_between (before + 1) last))) first
    ∙ append_assoc old (decimal (before + 1)) (more (map decimal (frames_between (before + 1) last)))
    ∙ ap (λ (ns : List ℕ). old ++ joined (map decimal ns)) (sym (first_between before last some))

-- one more comes last
last_between : (before i : ℕ) → before ≤ i → map decimal (frames_between before (i + 1)) ≡ map decimal (frames_between before i) ++ decimal (i + 1) ∷ []
last_between before i some =
    let one : i + 1 - before ≡ i - before + 1 = omega (arith, some) in
    ap (λ n. map decimal (range_with_len (before + 1) n)) one ∙ map-range_with_len_more decimal (before + 1) (i - before) (i + 1) (omega (arith, some))

pub last_put : {before i : ℕ} (old : List ℕ) {text comma new : List ℕ} → before ≤ i → text ≡ old ++ more (map decimal (frames_between before i)) → comma ≡ text ++ codes ","
    → new ≡ comma ++ decimal (i + 1) → new ≡ old ++ more (map decimal (frames_between before (i + 1)))
unfolding after_comma
last_put {before} {i} old {text} some known first second =
    let item : List ℕ = after_comma (decimal (i + 1)) in
    second ∙ ap (λ l. l ++ decimal (i + 1)) first ∙ append_assoc text (codes ",") (decimal (i + 1))
    ∙ ap (λ l. l ++ item) known ∙ append_assoc old (more (map decimal (frames_between before i))) item
    ∙ ap (λ l. old ++ (more (map decimal (frames_between before i)) ++ l)) (sym (append-nil item))
    ∙ ap (λ l. old ++ l) (sym (more_append (map decimal (frames_between before i)) (decimal (i + 1) ∷ [])))
    ∙ ap (λ (ns : List (List ℕ)). old ++ more ns) (sym (last_between before i some))
