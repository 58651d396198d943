-- What the calls of connections answer, and the endpoint after them.
use Rattle.std.specs.Prelude.{◌≡◌, ℕ, suc, List, length, Option, Some, None, ◌⊎◌}
use Rattle.cpg_cred.specs.declared.credentials.Cred.{Cred}
use Rattle.cpg_cred.specs.declared.refusals.Refusal.TheVariants as refusal
use Rattle.cpg_rules.specs.declared.rules.Rule.{Rule}
use Rattle.cpg_entry.specs.declared.calls.Call.{Call}
use Rattle.cpg_entry.specs.declared.calls.Call.TheVariants.{Insert}
use Rattle.cpg_node.specs.Nodes.{open_client}
use Rattle.cpg_node.specs.Calls.{connect_refusal, connected, submit_refusal, submitted, closed_refusal, disconnected}
use Rattle.cpg_cred.specs.Shown.{number}
use Rattle.cpg_embed.specs.Statuses.{IsStatus}
use Rattle.cpg_embed.specs.Endpoints.{EndpointValue, at_node}

-- Connect: the connection's number is the next one.
abbrev pub IsConnected : EndpointValue → ℕ → Cred → ℕ → ℕ → EndpointValue → Type 0
IsConnected e pid cred status conn new =
    IsStatus (connect_refusal e.node cred) status (new ≡ e) ((conn ≡ suc (length e.node.clients)) × (new ≡ at_node e (connected e.node pid cred)))

-- Submit: the call waits.
abbrev pub IsSubmitted : EndpointValue → ℕ → Call → ℕ → EndpointValue → Type 0
IsSubmitted e conn call status new =
    IsStatus (submit_refusal e.node conn call) status (new ≡ e) (new ≡ at_node e (submitted e.node conn call))

-- Submit of a call that is made from the caller's bytes: memory for the copy may be refused before anything else.
abbrev pub IsCopied : EndpointValue → ℕ → Call → ℕ → EndpointValue → Type 0
IsCopied e conn call status new = ((status ≡ number refusal.Memory) × (new ≡ e)) ⊎ IsSubmitted e conn call status new

-- Insert: Range where the numbers say no rule.
abbrev pub IsInserted : EndpointValue → ℕ → List ℕ → ℕ → Option Rule → ℕ → EndpointValue → Type 0
IsInserted e conn group index None status new = (status ≡ number refusal.Range) × (new ≡ e)
IsInserted e conn group index (Some rule) status new = IsCopied e conn (Insert group index rule) status new

-- Disconnect: the connection's end waits.
abbrev pub IsDisconnected : EndpointValue → ℕ → ℕ → EndpointValue → Type 0
IsDisconnected e conn status new =
    IsStatus (closed_refusal (open_client e.node conn)) status (new ≡ e) (new ≡ at_node e (disconnected e.node conn))
