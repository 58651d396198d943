use Rattle.cpg_record.proofs.Inboxes.{places_tell_at_most_two}
use Rattle.cpg_record.proofs.laws.places_tell_at_most_two.Goals as goal

pub returns : goal.returns
returns c = places_tell_at_most_two
