use Rattle.cpg_station.proofs.Inboxes.{inboxes_keep_their_items}
use Rattle.cpg_station.proofs.laws.inboxes_keep_their_items.Goals as goal

pub returns : goal.returns
returns c = inboxes_keep_their_items
