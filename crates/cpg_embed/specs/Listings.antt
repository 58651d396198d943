-- What the calls that list answer, and the endpoint after them.
use Rattle.std.specs.Prelude.{◌≡◌, ℕ, List, length, Option, Some, None, option_map, Result, Ok, Err, ◌⊎◌}
use Rattle.std.specs.List.{slice_get}
use Rattle.cpg_cred.specs.declared.bases.By.{By}
use Rattle.cpg_cred.specs.declared.refusals.Refusal.TheVariants as refusal
use Rattle.cpg_rules.specs.declared.rules.Rule.{Rule}
use Rattle.cpg_record.specs.Listings.{AreGroups}
use Rattle.cpg_ring.specs.States.{Token}
use Rattle.cpg_node.specs.declared.connections.Client.{Client}
use Rattle.cpg_node.specs.Nodes.{records_of, asker_by}
use Rattle.cpg_node.specs.Calls.{list_for}
use Rattle.cpg_cred.specs.Shown.{number}
use Rattle.cpg_embed.specs.Statuses.{IsHanded}
use Rattle.cpg_embed.specs.Endpoints.{EndpointValue}
use Rattle.cpg_embed.specs.Processes.{listed_of}
use Rattle.cpg_embed.specs.Rules.{line_of}
use Rattle.cpg_embed.specs.declared.processes.Process.{Process}
use Rattle.cpg_embed.specs.declared.rules.RuleLine.{RuleLine}
use Rattle.cpg_embed.specs.declared.statuses.TheConstants.{OK, NONE}

-- The listing is kept and its length told, or the denial is answered, and nothing changes; Memory in place of the listing.
abbrev pub IsShown : EndpointValue → Result (List (ℕ × ℕ)) By → ℕ → ℕ → EndpointValue → Type 0
IsShown e (Ok list) status count new =
    ((status ≡ OK) × (count ≡ length list) × (new ≡ record e { processes = Some list })) ⊎ ((status ≡ number refusal.Memory) × (new ≡ e))
IsShown e (Err by) status count new = (status ≡ number (refusal.Denied by)) × (new ≡ e)

-- List: NoConnection where the connection is not open.
abbrev pub IsListed : EndpointValue → List ℕ → Option Client → ℕ → ℕ → EndpointValue → Type 0
IsListed e group None status count new = (status ≡ number refusal.NoConnection) × (new ≡ e)
IsListed e group (Some c) status count new = IsShown e (list_for e.node c group) status count new

-- a process of a listing, if there is a listing
abbrev pub process_at : Option (List (ℕ × ℕ)) → ℕ → Option Process
process_at None index = None
process_at (Some list) index = option_map listed_of (slice_get list index)

-- a name of a listing, if there is a listing
abbrev pub name_at : Option (List (List ℕ)) → ℕ → Option (List ℕ)
name_at None index = None
name_at (Some names) index = slice_get names index

-- The groups' names are kept and their number told.
pub record AreKept (e : EndpointValue) (c : Client) (count : ℕ) (new : EndpointValue) (names : List (List ℕ)) : Type 0 where
  pub shown : AreGroups (records_of e.node) (asker_by e.node c) names
  pub counted : count ≡ length names
  pub kept : new ≡ record e { names = Some names }

-- Groups: NoConnection where the connection is not open; Memory in place of the names.
abbrev pub AreNamed : EndpointValue → Option Client → ℕ → ℕ → EndpointValue → Type 0
AreNamed e None status count new = (status ≡ number refusal.NoConnection) × (new ≡ e)
AreNamed e (Some c) status count new =
    ((status ≡ OK) × ((names : List (List ℕ)) × AreKept e c count new names)) ⊎ ((status ≡ number refusal.Memory) × (new ≡ e))

-- A name is handed over, with its length, if it is there.
abbrev pub IsNamed : Option (List ℕ) → List ℕ → ℕ → List ℕ → ℕ → Type 0
IsNamed None buffer status filled len = (status ≡ NONE) × (filled ≡ buffer)
IsNamed (Some name) buffer status filled len = (len ≡ length name) × IsHanded name buffer status filled

-- A rule of a table is told, if it is there.
abbrev pub IsRuleLine : Option (ℕ × Rule) → ℕ → RuleLine → Type 0
IsRuleLine None status line = status ≡ NONE
IsRuleLine (Some entry) status line = (status ≡ OK) × (line ≡ line_of entry.0 entry.1)

-- The places and hops of the last token that was sent are told, if there is one.
abbrev pub IsReached : Option Token → ℕ → ℕ → ℕ → Type 0
IsReached None status places hops = status ≡ NONE
IsReached (Some t) status places hops = (status ≡ OK) × (places ≡ t.seq) × (hops ≡ t.hop)
