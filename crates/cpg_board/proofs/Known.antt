-- What a seat's notes know.
use Rattle.std.proofs.Common.{◌≡◌, ◌<◌, ◌≤◌, ◌+◌, ◌-◌, ℕ, zero, suc, List, [], ◌∷◌, ◌++◌, length, take, get_or, map, refl, sym, ap, subst, ◌∙◌, Option, Some, None, slice_get, arith}
use Rattle.std.proofs.Math.Seq.{take-suc}
use Rattle.std.proofs.lemmas.List.{map-append, length-append, take_at}
use Rattle.std.proofs.lemmas.Option.{slice_get_within, get_or_from_slice_get, slice_get_read, slice_get-map}
use Rattle.std.specs.Option.{option_map}
use Rattle.std.specs.declared.alloc.Global.{Global}
use Rattle.once_cell.specs.Once.{cell_name}
use Rattle.once_cell.specs.declared.race.note.Note.{Note}
use Rattle.cpg_record.specs.declared.records.Record.{Record}
use Rattle.cpg_record.specs.Places.{record_at, Begins}
use Rattle.cpg_record.proofs.Placing.{record_at-index}
use Rattle.cpg_board.specs.Noted.{known_of, with_known, AllKnow}
use Rattle.cpg_board.specs.Seats.{SeatValue, IsSeatOf, records_of}

-- notes that all know something know as many cells as there are notes
pub known_length : {X : Type 0} (ns : List (Note X)) → AllKnow ns → length (known_of ns) ≡ length ns
known_length [] k = refl
known_length {X} (n ∷ ns) k = ap (λ o. length (with_known n.cell o (known_of ns))) k.0.1 ∙ ap suc (known_length ns k.1)

with_known-append : {X : Type 0} (c : ℕ) (o : Option X) (xs ys : List (ℕ × X)) → with_known c o (xs ++ ys) ≡ with_known c o xs ++ ys
with_known-append c None xs ys = refl
with_known-append c (Some x) xs ys = refl

-- one note more, which knows something
pub known_push : {X : Type 0} (ns : List (Note X)) (n : Note X) (x : X) → n.known ≡ Some x → known_of (ns ++ n ∷ []) ≡ known_of ns ++ (n.cell, x) ∷ []
known_push [] n x k = ap (λ o. with_known n.cell o []) k
known_push {X} (m ∷ ns) n x k = ap (with_known m.cell m.known) (known_push ns n x k) ∙ with_known-append m.cell m.known (known_of ns) ((n.cell, x) ∷ [])

pub all_push : {X : Type 0} (ns : List (Note X)) (n : Note X) (x : X) → AllKnow ns → n.known ≡ Some x → AllKnow (ns ++ n ∷ [])
all_push [] n x all k = ((x, k), tt)
all_push (m ∷ ns) n x all k = (all.0, all_push ns n x all.1 k)

-- the next item of a list, beside the ones before it
pub take_next : {X : Type 0} (xs : List X) (k : ℕ) (x : X) → slice_get xs k ≡ Some x → take (suc k) xs ≡ take k xs ++ x ∷ []
take_next xs k x at = take-suc xs k x (slice_get_within xs k x at) ∙ ap (λ y. take k xs ++ y ∷ []) (get_or_from_slice_get xs k x x at)

-- a seat that knows the board's next cell too is a seat of the board
pub seat_push : (board : List ℕ) (seat : SeatValue) (cell : ℕ) (x : Record) → IsSeatOf board seat → slice_get board (length seat) ≡ Some cell → IsSeatOf board (seat ++ (cell, x) ∷ [])
seat_push board seat cell x is at =
    let n : length (seat ++ (cell, x) ∷ []) ≡ suc (length seat) = omega (arith, length-append seat ((cell, x) ∷ [])) in
    ap (λ n. take n board) n ∙ take_next board (length seat) cell at ∙ ap (λ l. l ++ cell ∷ []) is ∙ sym (map-append (λ (k : ℕ × Record). k.0) seat ((cell, x) ∷ []))

pub records_push : (seat : SeatValue) (cell : ℕ) (x : Record) → records_of (seat ++ (cell, x) ∷ []) ≡ records_of seat ++ x ∷ []
records_push seat cell x = map-append (λ (k : ℕ × Record). k.1) seat ((cell, x) ∷ [])

-- notes of a board's first cells, with a note more that knows the board's next cell
pub grown_seat : (board : List ℕ) (seat : SeatValue) (old new : List (Note Record)) (n : Note Record) (x : Record)
    → known_of old ≡ seat → IsSeatOf board seat → slice_get board (length seat) ≡ Some n.cell → n.known ≡ Some x → new ≡ old ++ n ∷ [] → IsSeatOf board (known_of new)
grown_seat board seat old new n x known is at knows more =
    subst (λ l. IsSeatOf board l) (sym (ap known_of more ∙ known_push old n x knows ∙ ap (λ l. l ++ (n.cell, x) ∷ []) known)) (seat_push board seat n.cell x is at)

pub grown_begins : (seat : SeatValue) (old new : List (Note Record)) (n : Note Record) (x : Record) → known_of old ≡ seat → n.known ≡ Some x → new ≡ old ++ n ∷ [] → Begins seat (known_of new)
grown_begins seat old new n x known knows more =
    ap (take (length seat)) (ap known_of more ∙ known_push old n x knows ∙ ap (λ l. l ++ (n.cell, x) ∷ []) known) ∙ take_at seat ((n.cell, x) ∷ []) (length seat) refl

pub grown_records : (seat : SeatValue) (old new : List (Note Record)) (n : Note Record) (x : Record) → known_of old ≡ seat → n.known ≡ Some x → new ≡ old ++ n ∷ [] → records_of (known_of new) ≡ records_of seat ++ x ∷ []
grown_records seat old new n x known knows more =
    ap records_of (ap known_of more ∙ known_push old n x knows ∙ ap (λ l. l ++ (n.cell, x) ∷ []) known) ∙ records_push seat n.cell x

-- the name of the cell of an index
pub cell_at : (cells : List (Global × ℕ)) (k : ℕ) (c : Global × ℕ) → k < length cells → c ≡ get_or cells k c → slice_get (map cell_name cells) k ≡ Some (cell_name c)
cell_at cells k c short is = slice_get-map cell_name cells k ∙ ap (option_map cell_name) (slice_get_read cells (length cells) k c refl short is)

-- the note of an index knows what the seat knows there
pub known_at : {X : Type 0} (ns : List (Note X)) (k : ℕ) (n : Note X) → AllKnow ns → k < length ns → n ≡ get_or ns k n → (x : X) × (n.known ≡ Some x) × (slice_get (known_of ns) k ≡ Some (n.cell, x))
known_at [] k n all short is = absurd (omega (arith, short))
known_at {X} (m ∷ ns) zero n all short is =
    (all.0.0, ap (λ (y : Note X). y.known) is ∙ all.0.1, ap (λ o. slice_get (with_known m.cell o (known_of ns)) 0) all.0.1 ∙ ap (λ (y : Note X). Some (y.cell, all.0.0)) (sym is))
known_at {X} (m ∷ ns) (suc k) n all short is =
    let below : k < length ns = omega (arith, short) in let r = known_at ns k n all.1 below is in
    (r.0, r.1, ap (λ o. slice_get (with_known m.cell o (known_of ns)) (suc k)) all.0.1 ∙ r.2)

get_from_take : {X : Type 0} (xs : List X) (n k : ℕ) (x : X) → slice_get (take n xs) k ≡ Some x → slice_get xs k ≡ Some x
get_from_take [] zero k x at = at
get_from_take [] (suc n) k x at = at
get_from_take (y ∷ ys) zero k x at = absurd (grind arith)
get_from_take (y ∷ ys) (suc n) zero x at = at
get_from_take (y ∷ ys) (suc n) (suc k) x at = get_from_take ys n k x at

-- a cell that a seat of the board knows is the board's at that index
pub seat_cell : (board : List ℕ) (seat : SeatValue) (k cell : ℕ) (x : Record) → IsSeatOf board seat → slice_get seat k ≡ Some (cell, x) → slice_get board k ≡ Some cell
seat_cell board seat k cell x is at =
    get_from_take board (length seat) k cell (ap (λ l. slice_get l k) is ∙ slice_get-map (λ (y : ℕ × Record). y.0) seat k ∙ ap (option_map (λ (y : ℕ × Record). y.0)) at)

-- where two lists agree up to an index, and at it
pub take_both : {X : Type 0} (xs ys : List X) (k : ℕ) (x : X) → take k xs ≡ take k ys → slice_get xs k ≡ Some x → slice_get ys k ≡ Some x → take (suc k) xs ≡ take (suc k) ys
take_both xs ys k x same a b = take_next xs k x a ∙ ap (λ l. l ++ x ∷ []) same ∙ sym (take_next ys k x b)

-- notes that know the front of a list, with a note more that knows its next item
pub extended : {X : Type 0} (ns : List (Note X)) (n : Note X) (x : X) (k : ℕ) (ys : List (ℕ × X)) → AllKnow ns → known_of ns ≡ take k ys → n.known ≡ Some x → slice_get ys k ≡ Some (n.cell, x)
    → AllKnow (ns ++ n ∷ []) × (known_of (ns ++ n ∷ []) ≡ take (k + 1) ys)
extended {X} ns n x k ys all is known at =
    let next : suc k ≡ k + 1 = omega arith in
    (all_push ns n x all known, known_push ns n x known ∙ ap (λ l. l ++ (n.cell, x) ∷ []) is ∙ sym (take_next ys k (n.cell, x) at) ∙ ap (λ m. take m ys) next)

-- the record at a place from 1 on is that of the index one lower
pub at_place : (rs : List Record) (place : ℕ) → 1 ≤ place → record_at rs place ≡ slice_get rs (place - 1)
at_place rs place first = record_at-index rs place first
