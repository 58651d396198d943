-- records by their places, which are counted from 1
use Rattle.std.specs.Prelude.{ℕ, ◌≡◌, ◌<◌, zero, suc, ◌-◌, Bool, true, false, List, [], ◌∷◌, length, take, Option, Some, None, nat_le, if◌then◌else◌}
use Rattle.std.specs.List.{slice_get}
use Rattle.cpg_record.specs.declared.records.Record.{Record}

-- the record at a place, if one stands there; none stands at place 0
abbrev pub record_at : List Record → ℕ → Option Record
record_at records zero = None
record_at records (suc index) = slice_get records index

-- the records before a place
abbrev pub records_before : List Record → ℕ → List Record
records_before records place = take (place - 1) records

-- the places of the records that pass the test, the first record standing at that place
abbrev pub places_from : (Record → Bool) → ℕ → List Record → List ℕ
places_from test place [] = []
places_from test place (r ∷ later) = if test r then place ∷ places_from test (suc place) later else places_from test (suc place) later

-- the places of the records that pass the test, ascending
abbrev pub places_of : (Record → Bool) → List Record → List ℕ
places_of test records = places_from test 1 records

-- the place is the least above that one whose record passes the test; there is none where none passes
abbrev pub IsNextOf : (Record → Bool) → List Record → ℕ → Option ℕ → Type 0
IsNextOf test records after None = (place : ℕ) (r : Record) → after < place → record_at records place ≡ Some r → test r ≡ false
IsNextOf test records after (Some next) =
    (after < next) × ((r : Record) × (record_at records next ≡ Some r) × (test r ≡ true))
    × ((place : ℕ) (r : Record) → after < place → place < next → record_at records place ≡ Some r → test r ≡ false)

-- the lesser of the places that are there
abbrev pub sooner : Option ℕ → Option ℕ → Option ℕ
sooner None other = other
sooner (Some place) None = Some place
sooner (Some place) (Some other) = if nat_le place other then Some place else Some other

-- xs begins ys
abbrev pub Begins : {X : Type 0} → List X → List X → Type 0
Begins xs ys = take (length xs) ys ≡ xs
