-- What calls at a handle answer, and what is in the handle after them.
use Rattle.std.specs.Prelude.{◌≡◌, ◌⊎◌, ℕ, List, Option, Some, None, Result, Ok, Err}
use Rattle.cpg_cred.specs.declared.refusals.Refusal.{Refusal}
use Rattle.cpg_cred.specs.declared.refusals.Refusal.TheVariants.{Memory}
use Rattle.cpg_cred.specs.Listed.{Listed}
use Rattle.cpg_embed.specs.Endpoints.{EndpointValue}
use Rattle.cpg_embed.specs.Closing.{with_remains}
use Rattle.cpg_conf.specs.Names.{Known}
use Rattle.cpg_embed.specs.Opening.{IsOpened, IsConfOpened}
use Rattle.cpg_cred.specs.Shown.{number}
use Rattle.cpg_embed.specs.declared.opening.Setup.{Setup}
use Rattle.cpg_embed.specs.declared.opening.Fault.{Fault}
use Rattle.cpg_embed.specs.declared.statuses.TheConstants.{OK, CLOSED, BUSY}

-- A call at a handle: Closed where nothing is in it, and nothing happens; else what the call says of the endpoint, or of the node with
-- its clients, before it and after it, which stays in the handle.
abbrev pub AtHandle : {A : Type 0} → Option A → ℕ → Option A → (A → A → Type 0) → Type 0
AtHandle None status new says = (status ≡ CLOSED) × (new ≡ None)
AtHandle (Some e) status None says = ⊥
AtHandle (Some e) status (Some new) says = says e new

-- A call that only looks: the endpoint stays as it is.
abbrev pub SeenAt : {A : Type 0} → Option A → ℕ → Option A → (A → Type 0) → Type 0
SeenAt old status new says = AtHandle old status new (λ e after. (after ≡ e) × says e)

-- An endpoint that was opened is kept, where there is room for it; or the status says why there is none.
abbrev pub IsKept : Result EndpointValue ℕ → ℕ → Option EndpointValue → Type 0
IsKept (Ok e) status (Some kept) = (status ≡ OK) × (kept ≡ e)
IsKept (Ok e) status None = status ≡ number Memory
IsKept (Err why) status (Some kept) = ⊥
IsKept (Err why) status None = status ≡ why

-- Open: Busy where the handle is open already, which stays so; else an endpoint of a new node is in it, or the status says why not.
abbrev pub IsOpenedAt : Setup → Listed → Option EndpointValue → ℕ → Option EndpointValue → Type 0
IsOpenedAt setup list (Some e) status new = (status ≡ BUSY) × (new ≡ Some e)
IsOpenedAt setup list None status (Some e) = (status ≡ OK) × IsOpened setup list (Ok e)
IsOpenedAt setup list None status None = IsOpened setup list (Err status)

-- The same with texts; Memory where the endpoint finds no room.
abbrev pub IsConfOpenedAt : Setup → Result Known Refusal → List ℕ → Option EndpointValue → ℕ → Option EndpointValue → Fault → Type 0
IsConfOpenedAt setup known conf (Some e) status new fault = (status ≡ BUSY) × (new ≡ Some e)
IsConfOpenedAt setup known conf None status (Some e) fault = (status ≡ OK) × IsConfOpened setup known conf (Ok e) fault
IsConfOpenedAt setup known conf None status None fault = IsConfOpened setup known conf (Err status) fault ⊎ (status ≡ number Memory)

-- Close: nothing is in the handle then.
abbrev pub IsEmptied : {A : Type 0} → Option A → ℕ → Option A → Type 0
IsEmptied None status new = (status ≡ CLOSED) × (new ≡ None)
IsEmptied (Some e) status new = (status ≡ OK) × (new ≡ None)

-- Close into another: Closed where one of both is not open, and nothing happens; else nothing is in the handle then, and what is
-- left of its node is at the other, whose own node stays as it is.
abbrev pub IsClosedInto : Option EndpointValue → Option EndpointValue → ℕ → Option EndpointValue → Option EndpointValue → Type 0
IsClosedInto (Some ended) (Some e) status new keeper = (status ≡ OK) × (new ≡ None) × (keeper ≡ Some (with_remains e ended.node))
IsClosedInto old None status new keeper = (status ≡ CLOSED) × (new ≡ old) × (keeper ≡ None)
IsClosedInto None (Some e) status new keeper = (status ≡ CLOSED) × (new ≡ None) × (keeper ≡ Some e)
