-- One ring after another, and the story of a client over them.
use Rattle.std.specs.Prelude.{◌≡◌, ◌+◌, ℕ, suc, List, [], ◌∷◌, ◌++◌, length}
use Rattle.std.specs.List.{flat_map}
use Rattle.cpg_cred.specs.Listed.{Listed}
use Rattle.cpg_cred.specs.declared.credentials.Cred.{Cred}
use Rattle.cpg_ring.specs.declared.settings.Settings.{Settings}
use Rattle.cpg_node.specs.Nodes.{records_of}
use Rattle.cpg_ask.specs.Asks.{Ask}
use Rattle.cpg_ask.specs.Spelling.{spelling}
use Rattle.cpg_serve.specs.Serving.{ServedValue}
use Rattle.cpg_serve.specs.Stories.{Note, Before, StoryAt, IsToldIn, nothing_before}
use Rattle.cpg_serve.specs.Runs.{Did, Arrives, Goes, IsGone, IsKeptBy, arrives, heard_by, written_by}
use Rattle.cpg_serve.specs.Settling.{MovesOn}
use Rattle.cpg_serve.specs.Carrying.{IsAtRest, IsRenewed, number_at}

-- a ring as it ended, the next one as it began, and the new number of each connection
pub record Renewal : Type 0 where
  pub ended : ServedValue
  pub numbers : List ℕ
  pub next : ServedValue

-- What happened: one call of a ring; the ring moved by itself; or it came to rest, and the next one took its place.
pub data Step : Type 0 where
  Does : Did → Step
  Moves : Step
  Renews : Renewal → Step

abbrev pub IsRenewal : Renewal → Type 0
IsRenewal r = IsAtRest r.ended × ((s : Settings) × (list : Listed) × IsRenewed s list r.numbers r.ended r.next)

abbrev pub GoesBy : ServedValue → Step → ServedValue → Type 0
GoesBy x (Does did) y = Goes x did y
GoesBy x Moves y = MovesOn x y
GoesBy x (Renews r) y = MovesOn x r.ended × IsRenewal r × (y ≡ r.next)

-- one step after another
abbrev pub Life : ServedValue → List Step → ServedValue → Type 0
Life x [] y = y ≡ x
Life x (step ∷ steps) y = (z : ServedValue) × GoesBy x step z × Life z steps y

-- ---- a client, whose number is another in each ring

abbrev pub number_by : ℕ → Step → ℕ
number_by conn (Renews r) = number_at r.numbers conn
number_by conn _ = conn

-- its number after these steps
abbrev pub number_over : ℕ → List Step → ℕ
number_over conn [] = conn
number_over conn (step ∷ steps) = number_over (number_by conn step) steps

abbrev pub IsKeptIn : ℕ → Step → Type 0
IsKeptIn conn (Does did) = IsKeptBy conn did
IsKeptIn conn _ = Unit {0}

-- it was not lost
abbrev pub IsKeptOver : ℕ → List Step → Type 0
IsKeptOver conn [] = Unit {0}
IsKeptOver conn (step ∷ steps) = IsKeptIn conn step × IsKeptOver (number_by conn step) steps

-- what the steps have of it, one after another
abbrev pub bytes_over : (ℕ → Step → List ℕ) → ℕ → List Step → List ℕ
bytes_over part conn [] = []
bytes_over part conn (step ∷ steps) = part conn step ++ bytes_over part (number_by conn step) steps

abbrev pub heard_in : ℕ → Step → List ℕ
heard_in conn (Does did) = heard_by conn did
heard_in conn _ = []

abbrev pub written_in : ℕ → Step → List ℕ
written_in conn (Does did) = written_by conn did
written_in conn _ = []

-- the bytes that were heard of it, and those that were written to it
abbrev pub heard_over : ℕ → List Step → List ℕ
heard_over conn steps = bytes_over heard_in conn steps

abbrev pub written_over : ℕ → List Step → List ℕ
written_over conn steps = bytes_over written_in conn steps

-- ---- the rings that ended

abbrev pub renewals : List Step → List Renewal
renewals [] = []
renewals (Renews r ∷ steps) = r ∷ renewals steps
renewals (_ ∷ steps) = renewals steps

-- with how many places the next ring began: what these tell is told nobody
abbrev pub places_of : Renewal → ℕ
places_of r = length (records_of r.next.node)

-- The notes of each ring that ended have all that it told the client since it came, or since the ring began.
abbrev pub AreToldIn : ℕ → ℕ → List Renewal → List (List Note) → Type 0
AreToldIn conn places [] [] = Unit {0}
AreToldIn conn places (r ∷ rs) (notes ∷ more) = IsToldIn conn places r.ended.greeting r.ended.node [] notes × AreToldIn (number_at r.numbers conn) (places_of r) rs more
AreToldIn conn places _ _ = ⊥

-- what there was of the client before the ring that these led to
abbrev pub before_next : Before → List Renewal → List (List Note) → Before
before_next before (r ∷ rs) (notes ∷ more) = before_next (record { notes = before.notes ++ notes; places = places_of r }) rs more
before_next before _ _ = before

-- ---- the headline

-- What was heard of the client are asks; and all bytes that it was told, in whatever rings, are the spellings of what
-- the notes of these rings tell, one ring after another: of which the asks are those, in order, and the events are all
-- that each ring told it, in order, but for what the last one has left.
abbrev pub IsToldOver : Before → ℕ → List Ask → List ℕ → List Step → ServedValue → Type 0
IsToldOver before conn asks written steps y = (more : List Ask) × (past : List (List Note))
    × (heard_over conn steps ≡ flat_map spelling more)
    × AreToldIn conn before.places (renewals steps) past
    × StoryAt (before_next before (renewals steps) past) (number_over conn steps) (asks ++ more) (written ++ written_over conn steps) y

-- so for each client that is there, and is not lost
abbrev pub AllThatIsToldInLife : ServedValue → List Step → ServedValue → Type 0
AllThatIsToldInLife x steps y = (before : Before) (conn : ℕ) (asks : List Ask) (written : List ℕ) → IsKeptOver conn steps → StoryAt before conn asks written x → IsToldOver before conn asks written steps y

-- how many connections there are after a step, and after these
abbrev pub count_by : ℕ → Step → ℕ
count_by count (Does did) = count + arrives did
count_by count Moves = count
count_by count (Renews r) = length r.next.desks

abbrev pub count_over : ℕ → List Step → ℕ
count_over count [] = count
count_over count (step ∷ steps) = count_over (count_by count step) steps

-- the number of the client that comes next after these
abbrev pub next_comer : ServedValue → List Step → ℕ
next_comer x first = suc (count_over (length x.desks) first)

-- and for each that comes, from its coming on
abbrev pub AllThatNewcomersAreToldInLife : ServedValue → List Step → ServedValue → Type 0
AllThatNewcomersAreToldInLife x steps y = (first after : List Step) (pid : ℕ) (cred : Cred) → steps ≡ first ++ Does (Arrives pid cred) ∷ after
    → IsKeptOver (next_comer x first) after → IsToldOver nothing_before (next_comer x first) [] [] after y

-- a client that is gone is heard no more, and nothing is written to it
abbrev pub NothingAfterTheEndInLife : ServedValue → List Step → ServedValue → Type 0
NothingAfterTheEndInLife x steps y = (conn : ℕ) → IsGone conn x → IsGone (number_over conn steps) y × (heard_over conn steps ≡ []) × (written_over conn steps ≡ [])

-- It is so over any life of a node that has as many desks as connections.
pub record EachLifeTells (x : ServedValue) (steps : List Step) (y : ServedValue) : Type 0 where
  pub told : AllThatIsToldInLife x steps y
  pub newcomers : AllThatNewcomersAreToldInLife x steps y
  pub after : NothingAfterTheEndInLife x steps y

abbrev pub LivesTell : Type 0
LivesTell = (x y : ServedValue) (steps : List Step) → length x.desks ≡ length x.node.clients → Life x steps y → EachLifeTells x steps y
