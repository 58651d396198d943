-- Runs of calls, and the story of a client over one.
use Rattle.std.specs.Prelude.{◌≡◌, ◌≢◌, ◌≤◌, ◌+◌, ◌==◌, ℕ, suc, List, [], ◌∷◌, ◌++◌, length, take, if◌then◌else◌, Some, None, Result}
use Rattle.std.specs.List.{flat_map, AllByRecursion}
use Rattle.cpg_cred.specs.declared.credentials.Cred.{Cred}
use Rattle.cpg_cred.specs.declared.refusals.Refusal.{Refusal}
use Rattle.cpg_ring.specs.Worlds.{item}
use Rattle.cpg_node.specs.Nodes.{records_of, open_client}
use Rattle.cpg_node.specs.Calls.{node_after_delivery}
use Rattle.cpg_ask.specs.Asks.{Ask}
use Rattle.cpg_ask.specs.Spelling.{spelling}
use Rattle.cpg_serve.specs.declared.hearing.Stop.{Stop}
use Rattle.cpg_serve.specs.Telling.{DeskValue, new_desk}
use Rattle.cpg_serve.specs.Serving.{ServedValue, with_node, arrived, parted, IsHeard, IsCaughtUp, IsWritten}
use Rattle.cpg_serve.specs.Stories.{Before, StoryAt, nothing_before}

-- What was called: a client came; so many of a client's bytes were heard; a frame was heard; a place was delivered; a
-- client was told what was left, or some of it; bytes were written to a client; a client was lost; or nothing was done.
pub data Did : Type 0 where
  Arrives : ℕ → Cred → Did
  Hears : ℕ → List ℕ → ℕ → Stop → Did
  Frames : Did
  Delivers : Did
  Tells : ℕ → Did
  Writes : ℕ → List ℕ → Did
  Loses : ℕ → Did
  Nothing : Did

-- a frame changes nothing that was delivered, and no connection
pub record IsFramed (x y : ServedValue) : Type 0 where
  pub records : records_of y.node ≡ records_of x.node
  pub number : y.node.ring.node ≡ x.node.ring.node
  pub clients : y.node.clients ≡ x.node.clients
  pub desks : y.desks ≡ x.desks
  pub greeting : y.greeting ≡ x.greeting

-- what the contract of each call says where it does something: `tell` does, too, where memory ends it
abbrev pub Goes : ServedValue → Did → ServedValue → Type 0
Goes x (Arrives pid cred) y = y ≡ arrived x pid cred
Goes x (Hears conn bytes count stop) y = IsHeard conn x bytes count stop y
Goes x Frames y = IsFramed x y
Goes x Delivers y = y ≡ with_node x (node_after_delivery x.node)
Goes x (Tells conn) y = (result : Result Unit Refusal) × IsCaughtUp conn x (item x.desks conn) result y
Goes x (Writes conn bytes) y = IsWritten conn x bytes y
Goes x (Loses conn) y = y ≡ parted x conn
Goes x Nothing y = y ≡ x

-- one call after another
abbrev pub Run : ServedValue → List Did → ServedValue → Type 0
Run x [] y = y ≡ x
Run x (did ∷ more) y = (z : ServedValue) × Goes x did z × Run z more y

-- the client was not lost
abbrev pub IsKeptBy : ℕ → Did → Type 0
IsKeptBy conn (Loses other) = conn ≢ other
IsKeptBy conn _ = Unit {0}

-- the bytes that were heard of the client
abbrev pub heard_by : ℕ → Did → List ℕ
heard_by conn (Hears other bytes count stop) = if other == conn then take count bytes else []
heard_by conn _ = []

-- the bytes that were written to it
abbrev pub written_by : ℕ → Did → List ℕ
written_by conn (Writes other bytes) = if other == conn then bytes else []
written_by conn _ = []

-- The headline. Over any run of calls in which a client is not lost: what was heard of it are asks, and all bytes that
-- it was told are the spellings of what notes tell, of which the asks are those, in order, and the events are its
-- inbox, in order, but for what is left.
abbrev pub AllThatIsToldOver : ServedValue → List Did → ServedValue → Type 0
AllThatIsToldOver x dids y = (before : Before) (conn : ℕ) (asks : List Ask) (written : List ℕ) → AllByRecursion (IsKeptBy conn) dids → StoryAt before conn asks written x
    → (more : List Ask) × (flat_map (heard_by conn) dids ≡ flat_map spelling more) × StoryAt before conn (asks ++ more) (written ++ flat_map (written_by conn) dids) y

abbrev pub AllThatIsTold : Type 0
AllThatIsTold = (x y : ServedValue) (dids : List Did) → Run x dids y → AllThatIsToldOver x dids y

-- A client that comes to a node that has as many desks as connections begins with the story of no asks, and nothing
-- written.
abbrev pub StoriesBegin : Type 0
StoriesBegin = (pid : ℕ) (cred : Cred) (x : ServedValue) → length x.desks ≡ length x.node.clients → StoryAt nothing_before (suc (length x.desks)) [] [] (arrived x pid cred)

-- The connection ended, and its desk holds nothing.
pub record IsGone (conn : ℕ) (x : ServedValue) : Type 0 where
  pub ended : open_client x.node conn ≡ None
  pub known : conn ≤ length x.node.clients
  pub empty : (d : DeskValue) → item x.desks conn ≡ Some d → d ≡ new_desk x.greeting

-- a client that is lost is gone
abbrev pub LostIsGone : Type 0
LostIsGone = (before : Before) (conn : ℕ) (asks : List Ask) (written : List ℕ) (x : ServedValue) → StoryAt before conn asks written x → IsGone conn (parted x conn)

-- A client that is gone stays so over any run, is heard no more, and nothing is written to it.
abbrev pub NothingAfterTheEndOver : ServedValue → List Did → ServedValue → Type 0
NothingAfterTheEndOver x dids y = (conn : ℕ) → IsGone conn x → IsGone conn y × (flat_map (heard_by conn) dids ≡ []) × (flat_map (written_by conn) dids ≡ [])

abbrev pub NothingAfterTheEnd : Type 0
NothingAfterTheEnd = (x y : ServedValue) (dids : List Did) → Run x dids y → NothingAfterTheEndOver x dids y

-- how many clients came
abbrev pub arrives : Did → ℕ
arrives (Arrives pid cred) = 1
arrives _ = 0

abbrev pub arrivals : List Did → ℕ
arrivals [] = 0
arrivals (did ∷ dids) = arrives did + arrivals dids

-- the number of the client that comes next after these
abbrev pub newcomer : ServedValue → List Did → ℕ
newcomer x before = suc (length x.desks + arrivals before)

-- The same of a client that comes in the run: from its coming on, what was heard of it are asks, and that is its story.
abbrev pub AllThatNewcomersAreToldOver : ServedValue → List Did → ServedValue → Type 0
AllThatNewcomersAreToldOver x dids y = (before after : List Did) (pid : ℕ) (cred : Cred) → dids ≡ before ++ Arrives pid cred ∷ after
    → AllByRecursion (IsKeptBy (newcomer x before)) after
    → (more : List Ask) × (flat_map (heard_by (newcomer x before)) after ≡ flat_map spelling more) × StoryAt nothing_before (newcomer x before) more (flat_map (written_by (newcomer x before)) after) y

-- It is so at a node that has as many desks as connections.
abbrev pub AllThatNewcomersAreTold : Type 0
AllThatNewcomersAreTold = (x y : ServedValue) (dids : List Did) → length x.desks ≡ length x.node.clients → Run x dids y → AllThatNewcomersAreToldOver x dids y
