-- What a client asks of its node.
use Rattle.std.specs.Prelude.{◌≡◌, ℕ, Bool, true, false, List, [], ◌∷◌, ◌++◌, map, Option, Some, None, option_map, if◌then◌else◌}
use Rattle.std.specs.List.{fold}
use Rattle.cpg_cred.specs.declared.refusals.Refusal.{Refusal}
use Rattle.cpg_cred.specs.declared.refusals.Refusal.TheVariants as refusal
use Rattle.cpg_rules.specs.declared.rules.Rule.{Rule}
use Rattle.cpg_entry.specs.declared.calls.Call.{Call}
use Rattle.cpg_entry.specs.declared.calls.Call.TheVariants as calls
use Rattle.cpg_rules.specs.declared.rules.Asker.{Asker}
use Rattle.cpg_record.specs.declared.records.Record.{Record}
use Rattle.cpg_node.specs.Nodes.{NodeValue, records_of}
use Rattle.cpg_node.specs.Calls.{submit_refusal, submitted}
use Rattle.cpg_ask.specs.Asks.{Want, Hello, Join, Leave, Send, Members, Groups, Insert, Remove, Ask, code_of}
use Rattle.cpg_ask.specs.Naming.{coded_name}
use Rattle.cpg_ask.specs.Rules.{insert_meant}
use Rattle.cpg_ask.specs.Statuses.{refusal_status, no_denial}
use Rattle.cpg_ask.specs.Tells.{Tell, Answer, Denied, Named, tell_bytes}
use Rattle.cpg_ask.specs.declared.statuses.Status.TheVariants as status
use Rattle.cpg_serve.specs.declared.desks.Owed.{Owed}
use Rattle.cpg_serve.specs.Telling.{DeskValue, told, is_send}
use Rattle.cpg_serve.specs.Answering.{asker_of, IsNamed, listing_of, plain_tell}

abbrev pub insert_of : Option (List ℕ) → Option (ℕ × Rule) → Option Call
insert_of None rule = None
insert_of (Some group) None = None
insert_of (Some group) (Some rule) = Some (calls.Insert group rule.0 rule.1)

-- the call that is asked for, if one is; none where the name is too long, or the words of a rule mean none
abbrev pub call_of : Want → Option Call
call_of (Hello version wishes) = None
call_of (Join name) = option_map (λ group. calls.Join group) (coded_name name)
call_of Leave = Some calls.Leave
call_of (Send message) = Some (calls.Send message)
call_of (Members name) = None
call_of (Groups members) = None
call_of (Insert rule name) = insert_of (coded_name name) (insert_meant rule)
call_of (Remove id name) = option_map (λ group. calls.Remove group id) (coded_name name)

-- what is owed to an ask that is a call
abbrev pub owed_to : Ask → Owed
owed_to ask = record { code = code_of ask.want; tag = ask.tag }

-- the node with the desk of one of its connections
pub record At : Type 0 where
  pub node : NodeValue
  pub desk : DeskValue

abbrev pub at_of : NodeValue → DeskValue → At
at_of x d = record { node = x; desk = d }

-- these are the node and the desk there
abbrev pub IsAt : NodeValue → DeskValue → At → Type 0
IsAt x d s = (x ≡ s.node) × (d ≡ s.desk)

-- an ask, with the names of the groups, where it asks for them
pub record Turn : Type 0 where
  pub ask : Ask
  pub names : List (List ℕ)

-- what a client is told of a call that the node refuses
abbrev pub refused_tell : Owed → Refusal → Tell
refused_tell owed why = if is_send owed.code then Denied (refusal_status why) no_denial else Answer owed.code owed.tag (refusal_status why)

-- the desk where a verdict on that is owed, too
abbrev pub owing : DeskValue → Owed → DeskValue
owing d owed = record { greeting = d.greeting; owed = d.owed ++ owed ∷ []; next = d.next; out = d.out }

-- a call is made, and its verdict is owed; or the client is told why not. A full queue changes nothing.
abbrev pub called_by : ℕ → At → Owed → Call → Option Refusal → At
called_by conn s owed call None = record { node = submitted s.node conn call; desk = owing s.desk owed }
called_by conn s owed call (Some refusal.QueueFull) = s
called_by conn s owed call (Some why) = record { node = s.node; desk = told s.desk (refused_tell owed why) }

abbrev pub called : ℕ → At → Owed → Call → At
called conn s owed call = called_by conn s owed call (submit_refusal s.node conn call)

-- a full queue stops the client
abbrev pub goes_on : Option Refusal → Bool
goes_on (Some refusal.QueueFull) = false
goes_on _ = true

-- what the client is answered at once, at its node as it is
abbrev pub plain_answer : ℕ → At → Turn → Tell
plain_answer conn s turn = plain_tell s.desk.greeting (asker_of s.node conn) (records_of s.node) turn.names turn.ask.tag turn.ask.want

abbrev pub asked_by : ℕ → At → Turn → Option Call → At
asked_by conn s turn None = record { node = s.node; desk = told s.desk (plain_answer conn s turn) }
asked_by conn s turn (Some call) = called conn s (owed_to turn.ask) call

-- the node and the desk after an ask of its client
abbrev pub asked : ℕ → At → Turn → At
asked conn s turn = asked_by conn s turn (call_of turn.ask.want)

abbrev pub asked_all : ℕ → At → List Turn → At
asked_all conn s turns = fold (asked conn) s turns

abbrev pub takes_by : ℕ → At → Option Call → Bool
takes_by conn s None = true
takes_by conn s (Some call) = goes_on (submit_refusal s.node conn call)

-- the node takes the ask in, or the client is answered at once
abbrev pub takes_in : ℕ → At → Ask → Bool
takes_in conn s ask = takes_by conn s (call_of ask.want)

-- the names of the groups are those at the node as it is
abbrev pub IsTurn : ℕ → At → Turn → Type 0
IsTurn conn s turn = IsNamed (records_of s.node) (asker_of s.node conn) turn.ask.want turn.names

-- the client was answered at once, and nothing else was done
abbrev pub IsAnswered : ℕ → At → Ask → DeskValue → Type 0
IsAnswered conn s ask d = (names : List (List ℕ)) × IsTurn conn s (record { ask = ask; names = names }) × (d ≡ told s.desk (plain_answer conn s (record { ask = ask; names = names })))

-- The ask was done, or answered; or the node's queue is full for it, and nothing was done.
abbrev pub IsAsked : ℕ → At → Ask → Bool → At → Type 0
IsAsked conn s ask done t = (names : List (List ℕ)) × IsTurn conn s (record { ask = ask; names = names }) × (done ≡ takes_in conn s ask) × (t ≡ asked conn s (record { ask = ask; names = names }))

-- the client was told the groups that it may list, with members where they are wanted
abbrev pub ToldGroups : List Record → Option Asker → ℕ → ℕ → DeskValue → DeskValue → Type 0
ToldGroups records asker tag wanted d e = (names : List (List ℕ)) × IsNamed records asker (Groups wanted) names
    × (e ≡ told d (Named tag status.Fine (map (listing_of records asker wanted) names)))

-- the same, of the bytes alone
abbrev pub PutsGroups : List Record → Option Asker → ℕ → ℕ → List ℕ → List ℕ → Type 0
PutsGroups records asker tag wanted old new = (names : List (List ℕ)) × IsNamed records asker (Groups wanted) names
    × (new ≡ old ++ tell_bytes (Named tag status.Fine (map (listing_of records asker wanted) names)))
