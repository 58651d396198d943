-- What a node's answers are.
use Rattle.std.specs.Prelude.{◌≡◌, ◌⊎◌, List, [], ◌∷◌, ◌++◌, map, Option, Some, None}
use Rattle.std.specs.List.{flat_map}
use Rattle.cpg_entry.specs.declared.frames.Frame.TheVariants as frames
use Rattle.cpg_record.specs.declared.records.Record.{Record}
use Rattle.cpg_record.specs.Membership.{Membership, memberships, taken}
use Rattle.cpg_record.specs.Places.{record_at}
use Rattle.cpg_ring.specs.States.{Frame, Packet, Token}
use Rattle.cpg_node.specs.Nodes.{NodeValue}
use Rattle.cpg_node.specs.Calls.{answers_to}
use Rattle.cpg_embed.specs.Seats.{seats_from}

-- packets, and then one token
abbrev pub EndsWithToken : List Frame → Type 0
EndsWithToken answer = (packets : List Packet) × (t : Token) × (answer ≡ map frames.Packet packets ++ frames.Token t ∷ [])

-- an answer is nothing, or packets and then one token
abbrev pub AnswersEndWithTheirToken : Type 0
AnswersEndWithTheirToken = (x : NodeValue) (f : Frame) → (answers_to x f ≡ []) ⊎ EndsWithToken (answers_to x f)

-- the membership that a record takes, if it is there and takes one
abbrev pub taken_in : Option Record → List Membership
taken_in None = []
taken_in (Some r) = taken r

-- the records at the places that are told take the memberships that last, in their order
abbrev pub SeatsAreMemberships : Type 0
SeatsAreMemberships = (records : List Record) → flat_map (λ place. taken_in (record_at records place)) (seats_from 1 records) ≡ memberships records
