-- What opening a node answers.
use Rattle.std.specs.Prelude.{◌≡◌, ◌≤◌, ℕ, List, [], Result, Ok, Err, ◌⊎◌}
use Rattle.cpg_cred.specs.declared.refusals.Refusal.{Refusal}
use Rattle.cpg_cred.specs.declared.refusals.Refusal.TheVariants as refusal
use Rattle.cpg_cred.specs.Listed.{Listed, with_listed}
use Rattle.cpg_ring.specs.Rings.{IsRingNode}
use Rattle.cpg_ring.specs.declared.settings.Settings.{Settings}
use Rattle.cpg_node.specs.Nodes.{NodeValue, new_value}
use Rattle.cpg_cred.specs.Shown.{number}
use Rattle.cpg_embed.specs.Endpoints.{EndpointValue, new_endpoint}
use Rattle.cpg_conf.specs.Listed.{Grows, listed, nothing}
use Rattle.cpg_conf.specs.Names.{Known}
use Rattle.cpg_embed.specs.declared.opening.Setup.{Setup}
use Rattle.cpg_embed.specs.declared.opening.Fault.{Fault}

-- the settings of a setup
abbrev pub settings_of : Setup → Settings
settings_of setup = record { ring = setup.ring; nodes = setup.nodes; places = setup.places; hops = setup.hops }

-- the settings are in range, and the ring has that node
abbrev pub IsThere : Setup → Type 0
IsThere setup = (1 ≤ setup.node) × IsRingNode (settings_of setup) setup.node

-- the accept list of those numbers
abbrev pub listing_of : List ℕ → List ℕ → Listed
listing_of users groups = with_listed (record { users = []; groups = [] }) (record { users = users; groups = groups })

-- the new node of a setup
abbrev pub node_of : Setup → Listed → NodeValue
node_of setup list = new_value (settings_of setup) setup.node list

-- A new node, or Range exactly where the ring has none such, or Memory.
abbrev pub IsNodeOpened : Setup → Listed → Result NodeValue Refusal → Type 0
IsNodeOpened setup list (Ok node) = IsThere setup × (node ≡ node_of setup list)
IsNodeOpened setup list (Err why) = ((why ≡ refusal.Range) × ¬ IsThere setup) ⊎ (why ≡ refusal.Memory)

-- An endpoint of a new node, or the status that says why there is none.
abbrev pub IsOpened : Setup → Listed → Result EndpointValue ℕ → Type 0
IsOpened setup list (Ok e) = IsThere setup × (e ≡ new_endpoint (node_of setup list))
IsOpened setup list (Err status) = ((status ≡ number refusal.Range) × ¬ IsThere setup) ⊎ (status ≡ number refusal.Memory)

-- the line that a refusal tells, else 0
abbrev pub line_in : Refusal → ℕ
line_in (refusal.BadLine line) = line
line_in (refusal.Unopened line) = line
line_in (refusal.BadItem line) = line
line_in (refusal.BadValue line) = line
line_in (refusal.UnknownName line) = line
line_in _ = 0

-- where a text could not be read
abbrev pub fault_in : ℕ → Refusal → Fault
fault_in text why = record { text = text; line = line_in why }

-- no fault
abbrev pub no_fault : Fault
no_fault = record { text = 0; line = 0 }

-- A text is not read: its fault is told, with its line, where it has one, and else Memory.
abbrev pub IsFaultOf : {A : Type 0} → ℕ → Result A Refusal → ℕ → Fault → Type 0
IsFaultOf text (Err why) status fault = (status ≡ number why) × (fault ≡ fault_in text why)
IsFaultOf text (Ok read) status fault = (status ≡ number refusal.Memory) × (fault ≡ fault_in text refusal.Memory)

-- The list of a conf text, its names by the names text; or the text's fault.
abbrev pub IsListOf : Result Known Refusal → List ℕ → Result Listed ℕ → Fault → Type 0
IsListOf (Err why) conf (Ok list) fault = ⊥
IsListOf (Err why) conf (Err status) fault = (status ≡ number why) × (fault ≡ fault_in 1 why)
IsListOf (Ok names) conf (Ok list) fault = Grows (listed names conf) nothing list × (fault ≡ no_fault)
IsListOf (Ok names) conf (Err status) fault =
    IsFaultOf 2 (listed names conf) status fault ⊎ ((status ≡ number refusal.Memory) × (fault ≡ fault_in 1 refusal.Memory))

-- What is told of texts that have no fault: with an endpoint nothing, and else nothing, or that memory was refused for the conf text.
abbrev pub TellsNoFault : Result EndpointValue ℕ → Fault → Type 0
TellsNoFault (Ok e) fault = fault ≡ no_fault
TellsNoFault (Err status) fault = (fault ≡ no_fault) ⊎ (fault ≡ fault_in 2 refusal.Memory)

-- An endpoint that lets in what a conf text lists, or the text's fault.
abbrev pub IsListOpened : Setup → Result Listed Refusal → Result EndpointValue ℕ → Fault → Type 0
IsListOpened setup (Err why) answer fault = (answer ≡ Err (number why)) × (fault ≡ fault_in 2 why)
IsListOpened setup (Ok more) answer fault =
    IsOpened setup (with_listed nothing more) answer × TellsNoFault answer fault

-- The same with the names text before it.
abbrev pub IsConfOpened : Setup → Result Known Refusal → List ℕ → Result EndpointValue ℕ → Fault → Type 0
IsConfOpened setup (Err why) conf answer fault = (answer ≡ Err (number why)) × (fault ≡ fault_in 1 why)
IsConfOpened setup (Ok names) conf answer fault =
    IsListOpened setup (listed names conf) answer fault ⊎ ((answer ≡ Err (number refusal.Memory)) × (fault ≡ fault_in 1 refusal.Memory))
