-- an item of an inbox that was found
use Rattle.std.specs.Prelude.{Option, Some, None}
use Rattle.std.specs.List.{slice_get}
use Rattle.cpg_record.specs.declared.events.Event.{Event}
use Rattle.cpg_record.specs.Events.{events}
use Rattle.cpg_node.specs.declared.inboxes.Found.{Found}

-- the event of that index among those that the place has for the connection
abbrev pub found_item : Option Found → Option Event
found_item None = None
found_item (Some found) = slice_get (events found.heard.records found.heard.place found.heard.conn) found.at
