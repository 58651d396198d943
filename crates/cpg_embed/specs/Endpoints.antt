-- What an endpoint is seen as.
use Rattle.std.specs.Prelude.{ℕ, List, [], Option, Some, None}
use Rattle.cpg_record.specs.declared.events.Event.{Event}
use Rattle.cpg_node.specs.Nodes.{NodeValue}

-- A node with what it still has to hand over.
pub record EndpointValue : Type 0 where
  pub node : NodeValue
  -- the frames of the last answer, as bytes, and how many of them were handed over
  pub made : List (List ℕ)
  pub given : ℕ
  -- the event that was taken last
  pub event : Option Event
  -- the processes, by node and pid, and the names that were listed last
  pub processes : Option (List (ℕ × ℕ))
  pub names : Option (List (List ℕ))
  -- the places of the members' joins, as they were told last
  pub seats : Option (List ℕ)
  -- how many places are left of an endpoint that was closed into it
  pub remains : Option ℕ

-- an endpoint of that node, which has nothing to hand over
abbrev pub new_endpoint : NodeValue → EndpointValue
new_endpoint node = record { node = node; made = []; given = 0; event = None; processes = None; names = None; seats = None; remains = None }

-- the endpoint with its node changed
abbrev pub at_node : EndpointValue → NodeValue → EndpointValue
at_node e node = record e { node = node }

-- the endpoint with frames to hand over, none of which was
abbrev pub with_frames : EndpointValue → List (List ℕ) → EndpointValue
with_frames e frames = record e { made = frames; given = 0 }

-- the endpoint with an event to tell of
abbrev pub with_event : EndpointValue → Event → EndpointValue
with_event e event = record e { event = Some event }
