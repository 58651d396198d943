-- The events of an inbox, place by place.
use Rattle.std.proofs.Common.{◌≡◌, ℕ, zero, suc, ◌+◌, ◌-◌, ◌<◌, ◌≤◌, List, [], ◌∷◌, ◌++◌, length, None, sym, ap, ◌∙◌, subst, arith, slice_get, length-append, append-nil}
use Rattle.std.specs.List.{flat_map, range_with_len}
use Rattle.std.proofs.lemmas.Grind.{flat_map-append}
use Rattle.std.proofs.lemmas.Option.{slice_get_past}
use Rattle.cpg_record.specs.declared.connections.ConnId.{ConnId}
use Rattle.cpg_record.specs.declared.events.Event.{Event}
use Rattle.cpg_record.specs.declared.records.Record.{Record}
use Rattle.cpg_record.specs.Events.{events, inbox}
use Rattle.cpg_record.proofs.Inboxes.{range_split, slice_get_front}

module _ {X : Type 0} where
  get_right : (xs ys : List X) (j : ℕ) → slice_get (xs ++ ys) (length xs + j) ≡ slice_get ys j
  get_right [] ys j = ap (slice_get ys) (zero_plus j)
    where
      zero_plus : (n : ℕ) → 0 + n ≡ n
      zero_plus n = omega arith
  get_right (x ∷ xs) ys j = ap (slice_get (x ∷ xs ++ ys)) (suc_plus (length xs) j) ∙ get_right xs ys j
    where
      suc_plus : (m k : ℕ) → suc m + k ≡ suc (m + k)
      suc_plus m k = omega arith

-- what the places up to i + 1 tell
pub told_more : (f : ℕ → List Event) (i : ℕ) → flat_map f (range_with_len 1 (i + 1)) ≡ flat_map f (range_with_len 1 i) ++ f (1 + i)
told_more f i = ap (flat_map f) (range_split 1 i 1) ∙ (flat_map-append f (range_with_len 1 i) (range_with_len (1 + i) 1) ∙ ap (λ l. flat_map f (range_with_len 1 i) ++ l) (append-nil (f (1 + i))))

-- item k of an inbox, where place i + 1 tells it
pub told_item : (f : ℕ → List Event) (n i j : ℕ) → i < n → j < length (f (1 + i)) → slice_get (flat_map f (range_with_len 1 n)) (length (flat_map f (range_with_len 1 i)) + j) ≡ slice_get (f (1 + i)) j
told_item f n i j below within =
    ap (λ l. slice_get (flat_map f l) (length (flat_map f (range_with_len 1 i)) + j)) (ap (range_with_len 1) whole ∙ range_split 1 i (suc (n - (i + 1))))
    ∙ (ap (λ l. slice_get l (length (flat_map f (range_with_len 1 i)) + j)) (flat_map-append f (range_with_len 1 i) (range_with_len (1 + i) (suc (n - (i + 1)))))
    ∙ (get_right (flat_map f (range_with_len 1 i)) _ j
    ∙ slice_get_front (f (1 + i)) _ j within))
  where
    whole : n ≡ i + suc (n - (i + 1))
    whole = omega arith

-- places that tell nothing add nothing
quiet : (f : ℕ → List Event) (low count : ℕ) → ((place : ℕ) → low < place → place ≤ low + count → f place ≡ []) → flat_map f (range_with_len 1 (low + count)) ≡ flat_map f (range_with_len 1 low)
quiet f low zero none = ap (λ n. flat_map f (range_with_len 1 n)) (plus_zero low)
  where
    plus_zero : (n : ℕ) → n + 0 ≡ n
    plus_zero n = omega arith
quiet f low (suc count) none =
    let sum : low + suc count ≡ low + count + 1 = omega arith in
    ap (λ n. flat_map f (range_with_len 1 n)) sum ∙ (told_more f (low + count)
    ∙ (ap (λ l. flat_map f (range_with_len 1 (low + count)) ++ l) (none (1 + (low + count)) (omega arith) (omega arith))
    ∙ (append-nil (flat_map f (range_with_len 1 (low + count)))
    ∙ quiet f low count (λ place above below. none place above (omega (arith, below))))))

pub quiet_to : (f : ℕ → List Event) (low high : ℕ) → low ≤ high → ((place : ℕ) → low < place → place ≤ high → f place ≡ []) → flat_map f (range_with_len 1 high) ≡ flat_map f (range_with_len 1 low)
quiet_to f low high within none =
    let sum : high ≡ low + (high - low) = omega (arith, within) in
    ap (λ n. flat_map f (range_with_len 1 n)) sum ∙ quiet f low (high - low) (λ place above below. none place above (omega (arith, within, below)))

-- so many events are told before the next place that tells any
pub counted_before : (f : ℕ → List Event) (after place told : ℕ) → after < place → ((earlier : ℕ) → after < earlier → earlier < place → f earlier ≡ [])
    → told ≡ length (flat_map f (range_with_len 1 after)) → told ≡ length (flat_map f (range_with_len 1 (place - 1)))
counted_before f after place told above none counted =
    counted ∙ ap length (sym (quiet_to f after (place - 1) (omega (arith, above)) (λ earlier higher lower. none earlier higher (omega (arith, above, lower)))))

one_more : (i : ℕ) → 1 + i ≡ i + 1
one_more i = omega arith

-- how many events the places up to i + 1 tell
pub told_count : (rs : List Record) (conn : ConnId) (i before : ℕ) (list : List Event) → before ≡ length (flat_map (λ place. events rs place conn) (range_with_len 1 i)) → list ≡ events rs (i + 1) conn → before + length list ≡ length (flat_map (λ place. events rs place conn) (range_with_len 1 (i + 1)))
told_count rs conn i before list counted is =
    let told : ℕ → List Event = λ place. events rs place conn in
    sym (ap length (told_more told i) ∙ (length-append (flat_map told (range_with_len 1 i)) (told (1 + i)) ∙ (ap (λ n. n + length (told (1 + i))) (sym counted) ∙ ap (λ l. before + length l) (ap told (one_more i) ∙ sym is))))

-- the item of an index that place i + 1 tells
pub told_at : (rs : List Record) (conn : ConnId) (n i before index : ℕ) (list : List Event) → i < n → n ≡ length rs → before ≡ length (flat_map (λ place. events rs place conn) (range_with_len 1 i)) → before ≤ index → list ≡ events rs (i + 1) conn → index - before < length list → slice_get list (index - before) ≡ slice_get (inbox rs conn) index
told_at rs conn n i before index list below all counted passed is within =
    let told : ℕ → List Event = λ place. events rs place conn in
    let same : list ≡ told (1 + i) = is ∙ ap told (sym (one_more i)) in
    let j : ℕ = index - before in
    let whole : length (flat_map told (range_with_len 1 i)) + j ≡ index = let c = counted in omega arith in
    let inside : j < length (told (1 + i)) = subst (λ l. j < length l) same within in
    sym (ap (slice_get (inbox rs conn)) (sym whole) ∙ (told_item told (length rs) i j (let a = all in omega arith) inside ∙ ap (λ l. slice_get l j) (sym same)))

-- past the last place nothing is told
pub told_end : (rs : List Record) (conn : ConnId) (n i before index : ℕ) → n ≡ length rs → n ≤ i → i ≤ n → before ≡ length (flat_map (λ place. events rs place conn) (range_with_len 1 i)) → before ≤ index → None ≡ slice_get (inbox rs conn) index
told_end rs conn n i before index all low high counted passed =
    let told : ℕ → List Event = λ place. events rs place conn in
    let same : i ≡ length rs = let a = all in omega arith in
    let whole : before ≡ length (inbox rs conn) = counted ∙ ap (λ k. length (flat_map told (range_with_len 1 k))) same in
    sym (slice_get_past (inbox rs conn) index (let w = whole in omega arith))
