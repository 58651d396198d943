-- What the calls that tell of events answer, and the endpoint after them.
use Rattle.std.specs.Prelude.{◌≡◌, ℕ, Option, Some, None, ◌⊎◌}
use Rattle.cpg_cred.specs.declared.refusals.Refusal.TheVariants as refusal
use Rattle.cpg_record.specs.declared.events.Event.{Event}
use Rattle.cpg_node.specs.declared.connections.Client.{Client}
use Rattle.cpg_node.specs.Calls.{next_event, took}
use Rattle.cpg_cred.specs.Shown.{number}
use Rattle.cpg_embed.specs.Endpoints.{EndpointValue, at_node, with_event}
use Rattle.cpg_embed.specs.Telling.{told_of}
use Rattle.cpg_embed.specs.declared.processes.Process.{Process}
use Rattle.cpg_embed.specs.declared.statuses.TheConstants.{OK, NONE}
use Rattle.cpg_embed.specs.declared.told.Told.{Told}

-- The connection's next event is taken and told, or there is none.
abbrev pub IsTold : EndpointValue → ℕ → Option Event → ℕ → Told → EndpointValue → Type 0
IsTold e conn None status told new = (status ≡ NONE) × (new ≡ e)
IsTold e conn (Some event) status told new =
    (status ≡ OK) × (told ≡ told_of event) × (new ≡ with_event (at_node e (took e.node conn)) event)

-- Take: NoConnection where the connection is not open; Memory may be refused in place of an answer.
abbrev pub IsTaken : EndpointValue → ℕ → Option Client → ℕ → Told → EndpointValue → Type 0
IsTaken e conn None status told new = (status ≡ number refusal.NoConnection) × (new ≡ e)
IsTaken e conn (Some c) status told new =
    IsTold e conn (next_event e.node conn c) status told new ⊎ ((status ≡ number refusal.Memory) × (new ≡ e))

-- A process is told, if it is there.
abbrev pub IsProcess : Option Process → ℕ → Process → Type 0
IsProcess None status told = status ≡ NONE
IsProcess (Some process) status told = (status ≡ OK) × (told ≡ process)
