-- The rule of a link, and what its ends are seen as.
use Rattle.std.specs.Prelude.{ℕ, ◌≡◌, ◌≤◌, Bool, true, List, [], ◌∷◌, ◌++◌, length}
use mathlib.Core.Option.{some}
use lib.ListN.{get_elem?}
use Rattle.atomic_table.specs.Seated.{TableId}
use Rattle.crossbeam_queue.specs.Passes.{Pass, view}
use Rattle.cpg_cred.specs.declared.refusals.Refusal.{Refusal}
use Rattle.cpg_cred.specs.declared.refusals.Refusal.TheVariants.{Memory, Range}
use Rattle.cpg_link.specs.declared.ends.TheConstants.{MOST_FRAMES}
use Rattle.cpg_link.specs.declared.passes.Known.{Known}

-- An end of a link: which link it is, how many frames it has room for, and the frames that were put there, or taken.
pub record LinkEnd (T : Type 0) : Type 0 where
  pub link : TableId
  pub room : ℕ
  pub frames : List T

-- as far as a sender knows, its link may be full: it has put as many frames as there is room for, or more
abbrev pub MayBeFull : {T : Type 0} → LinkEnd T → Type 0
MayBeFull sender = sender.room ≤ length sender.frames

-- the end with one frame more
abbrev pub with_frame : {T : Type 0} → LinkEnd T → T → LinkEnd T
with_frame end frame = record { link = end.link; room = end.room; frames = end.frames ++ frame ∷ [] }

-- the two are ends of one link
abbrev pub AreEnds : {T : Type 0} → LinkEnd T → LinkEnd T → Type 0
AreEnds sender receiver = sender.link ≡ receiver.link

-- the most frames that a link may have room for
abbrev pub most_frames : ℕ
most_frames = MOST_FRAMES

-- a link may have room for so many frames
abbrev pub HasLink : ℕ → Type 0
HasLink capacity = (1 ≤ capacity) × (capacity ≤ most_frames)

-- why a link with room for so many isn't made
abbrev pub IsNoLink : ℕ → Refusal → Type 0
IsNoLink capacity Range = ¬ HasLink capacity
IsNoLink capacity Memory = HasLink capacity
IsNoLink capacity _ = ⊥

-- what a pass of the queue knows
abbrev pub told : {T : Type 0} → Pass T (Known T) → Known T
told pass = view pass

-- a pass that may put, or take, and knows that these were put and those taken
abbrev pub known : {T : Type 0} → Bool → Bool → List T → List T → Known T
known puts takes put taken = record { puts = puts; takes = takes; put = put; taken = taken }

-- these stand in the queue, behind some that were taken
abbrev pub StandBehind : {T : Type 0} → Known T → List T → Type 0
StandBehind {T} v items = (taken : List T) × (v.put ≡ taken ++ items)

-- where the pass may put, it is the sender's and knows what was put; where it may take, it is the receiver's and knows what was taken
abbrev pub FitsPass : {T : Type 0} → ℕ → ℕ → List T → List T → ℕ → Known T → Type 0
FitsPass sender receiver put taken pass v = (v.puts ≡ true → (pass ≡ sender) × (v.put ≡ put)) × (v.takes ≡ true → (pass ≡ receiver) × (v.taken ≡ taken))

-- What was put is what was taken, followed by what stands in the queue. One pass at most may put, and it knows what was put; one at most may take, and it knows what was taken.
abbrev pub Carries : {T : Type 0} → List T → List (Known T) → Type 0
Carries {T} items views = (sender : ℕ) × (receiver : ℕ) × (put : List T) × (taken : List T) × (put ≡ taken ++ items)
    × ((pass : ℕ) (v : Known T) → get_elem? views pass ≡ some v → FitsPass sender receiver put taken pass v)
