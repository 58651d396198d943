-- What the calls of a node with its clients answer, and the node and its clients after them.
use Rattle.std.specs.Prelude.{◌≡◌, ◌<◌, ◌≤◌, ◌⊎◌, ℕ, suc, List, ◌++◌, drop, length, nat_lt, Option, Some, None, Result, Ok, Err}
use Rattle.cpg_cred.specs.declared.credentials.Cred.{Cred}
use Rattle.cpg_cred.specs.declared.refusals.Refusal.{Refusal}
use Rattle.cpg_cred.specs.declared.refusals.Refusal.TheVariants as refusal
use Rattle.cpg_cred.specs.Listed.{Listed}
use Rattle.cpg_cred.specs.Shown.{number}
use Rattle.cpg_entry.specs.declared.entries.Entry.{Entry}
use Rattle.cpg_entry.specs.declared.frames.Token.{Token}
use Rattle.cpg_conf.specs.Names.{Known}
use Rattle.cpg_ring.specs.declared.settings.Settings.{Settings}
use Rattle.cpg_ring.specs.Rings.{RingNode}
use Rattle.cpg_ring.specs.Worlds.{item}
use Rattle.cpg_node.specs.Nodes.{delivered_entries, open_client}
use Rattle.cpg_node.specs.Calls.{closed_refusal, connect_refusal}
use Rattle.cpg_embed.specs.declared.opening.Setup.{Setup}
use Rattle.cpg_embed.specs.declared.opening.Fault.{Fault}
use Rattle.cpg_embed.specs.declared.statuses.TheConstants.{OK, SPACE, BUSY}
use Rattle.cpg_embed.specs.Opening.{IsListOf, IsThere, node_of}
use Rattle.cpg_embed.specs.Statuses.{IfElse, IsStatus}
use Rattle.cpg_serve.specs.declared.hearing.Stop.{Stop}
use Rattle.cpg_serve.specs.declared.hearing.Stop.TheVariants as stops
use Rattle.cpg_serve.specs.Alone.{IsAlone, LacksNone}
use Rattle.cpg_serve.specs.Carrying.{ComesToNext, IsAtRest}
use Rattle.cpg_serve.specs.Refusals.{WhyNotRenewed}
use Rattle.cpg_serve.specs.Serving.{ServedValue, AreWritten, IsAway, IsHeard, alone, arrived, out_of, parted}
use Rattle.cpg_serve.specs.Settling.{IsBrisk, IsLone, MovesTo, StaysLone, WhyMoving}

-- the status of what was done, or not
abbrev pub status_of : Result Unit Refusal → ℕ
status_of (Ok done) = OK
status_of (Err why) = number why

-- a new node without clients, or the status that says why there is none
abbrev pub IsServedOpened : Setup → Listed → Result ServedValue ℕ → Type 0
IsServedOpened setup list (Ok x) = IsThere setup × (x ≡ alone (node_of setup list))
IsServedOpened setup list (Err status) = ((status ≡ number refusal.Range) × ¬ IsThere setup) ⊎ (status ≡ number refusal.Memory)

-- The same by the list of a conf text.
abbrev pub IsServedByConf : Setup → Result Known Refusal → List ℕ → Result ServedValue ℕ → Fault → Type 0
IsServedByConf setup known conf (Ok x) fault = (list : Listed) × IsListOf known conf (Ok list) fault × IsServedOpened setup list (Ok x)
IsServedByConf setup known conf (Err status) fault =
    IsListOf known conf (Err status) fault ⊎ ((list : Listed) × IsListOf known conf (Ok list) fault × IsServedOpened setup list (Err status))

-- Open: Busy where the handle is open already, which stays so; else a node without clients is in it, or the status says why not.
abbrev pub IsServedOpenedAt : Setup → Result Known Refusal → List ℕ → Option ServedValue → ℕ → Option ServedValue → Fault → Type 0
IsServedOpenedAt setup known conf (Some x) status new fault = (status ≡ BUSY) × (new ≡ Some x)
IsServedOpenedAt setup known conf None status (Some x) fault = (status ≡ OK) × IsServedByConf setup known conf (Ok x) fault
IsServedOpenedAt setup known conf None status None fault = IsServedByConf setup known conf (Err status) fault

-- why no client arrives: its user is not let in, or no number is left, or there was no memory
abbrev pub IsNoArrival : Option Refusal → ℕ → Type 0
IsNoArrival None status = status ≡ number refusal.Memory
IsNoArrival (Some why) status = (status ≡ number why) ⊎ (status ≡ number refusal.Memory)

-- Arrive: the client's connection has the next number.
abbrev pub HasArrived : ServedValue → ℕ → Cred → ℕ → ℕ → ServedValue → Type 0
HasArrived x pid cred status conn y =
    ((status ≡ OK) × (connect_refusal x.node cred ≡ None) × (conn ≡ suc (length x.desks)) × (y ≡ arrived x pid cred))
    ⊎ (IsNoArrival (connect_refusal x.node cred) status × (y ≡ x))

-- why no more of a client's bytes was heard, as a number
abbrev pub stop_number : Stop → ℕ
stop_number stops.Part = 0
stop_number stops.Broken = 1
stop_number stops.Full = 2
stop_number stops.Memory = 3

-- Hear: the client's asks were done, as far as they were heard; or there is no such client.
abbrev pub HasHeard : ServedValue → ℕ → List ℕ → ℕ → ℕ → ℕ → ServedValue → Type 0
HasHeard x conn bytes status count why y =
    ((status ≡ OK) × ((stop : Stop) × (why ≡ stop_number stop) × IsHeard conn x bytes count stop y))
    ⊎ ((status ≡ number refusal.NoConnection) × IsAway x conn × (y ≡ x))

-- Lost: the client's connection ends, behind its calls.
abbrev pub HasLost : ServedValue → ℕ → ℕ → ServedValue → Type 0
HasLost x conn status y = IsStatus (closed_refusal (open_client x.node conn)) status (y ≡ x) (y ≡ parted x conn)

-- all that was admitted was delivered, in its order, after one turn for each eight entries that waited
pub record HasPlacedAll (x y : RingNode) : Type 0 where
  pub placed : (t : Token) (placed : List Entry) → IsLone x t placed → delivered_entries y.state ≡ placed ++ x.state.waiting
  pub turns : IsBrisk x y

-- it came to rest, or the status says why not
abbrev pub CameToRest : ServedValue → ℕ → ServedValue → Type 0
CameToRest x status y = ((status ≡ OK) × IsAtRest y × HasPlacedAll x.node.ring y.node.ring)
    ⊎ ((why : Refusal) × (status ≡ number why) × ((t : Token) (placed : List Entry) → IsLone x.node.ring t placed → WhyMoving x.node.ring y.node.ring why))

-- Settle: the ring turned by itself, and clients were told what it delivered.
pub record HasSettled (x : ServedValue) (status : ℕ) (y : ServedValue) : Type 0 where
  pub moves : MovesTo x y
  pub lone : StaysLone x.node.ring y.node.ring
  pub rest : CameToRest x status y

-- Output: how many bytes are lent, which the client is to be written.
abbrev pub IsOutput : ServedValue → ℕ → ℕ → ℕ → Type 0
IsOutput x conn status len = (status ≡ OK) × (len ≡ length (out_of (item x.desks conn)))

-- Wrote: so many bytes were written to the client; Range where there were not so many.
abbrev pub HasWritten : ServedValue → ℕ → ℕ → ℕ → ServedValue → Type 0
HasWritten x conn count status y =
    IfElse (nat_lt (length (out_of (item x.desks conn))) count) ((status ≡ number refusal.Range) × (y ≡ x)) ((status ≡ OK) × AreWritten conn x (item x.desks conn) count y)

-- the new numbers stand at the buffer's front
abbrev pub AreGiven : List ℕ → List ℕ → List ℕ → Type 0
AreGiven numbers buffer filled = filled ≡ numbers ++ drop (length numbers) buffer

-- The next ring began by that list, with the new numbers at the buffer's front; or the status says why not, and the buffer stays.
abbrev pub HasBegunNext : Settings → Listed → ServedValue → ℕ → List ℕ → List ℕ → ServedValue → Type 0
HasBegunNext s list x status buffer filled y = ((status ≡ OK) × ((numbers : List ℕ) × ComesToNext s list numbers x y × AreGiven numbers buffer filled))
    ⊎ ((why : Refusal) × (status ≡ number why) × (filled ≡ buffer) × MovesTo x y × ((t : Token) (placed : List Entry) → IsLone x.node.ring t placed → WhyNotRenewed s list x y why) × (IsAlone x → LacksNone why))

-- The same by the list of a conf text, if it is read.
abbrev pub HasRenewedByConf : Settings → Result Known Refusal → List ℕ → ServedValue → ℕ → Fault → List ℕ → List ℕ → ServedValue → Type 0
HasRenewedByConf s known conf x status fault buffer filled y =
    (IsListOf known conf (Err status) fault × (y ≡ x) × (filled ≡ buffer)) ⊎ ((list : Listed) × IsListOf known conf (Ok list) fault × HasBegunNext s list x status buffer filled y)

-- Renew: Space where the buffer has no room for a number of each connection, and nothing is done.
pub record HasRenewed (s : Settings) (known : Result Known Refusal) (conf : List ℕ) (x : ServedValue) (status : ℕ) (fault : Fault) (buffer filled : List ℕ) (y : ServedValue) : Type 0 where
  pub short : length buffer < length x.desks → (status ≡ SPACE) × (y ≡ x) × (filled ≡ buffer)
  pub room : length x.desks ≤ length buffer → HasRenewedByConf s known conf x status fault buffer filled y
