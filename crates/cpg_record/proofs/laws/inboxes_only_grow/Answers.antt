use Rattle.cpg_record.proofs.Inboxes.{inboxes_only_grow}
use Rattle.cpg_record.proofs.laws.inboxes_only_grow.Goals as goal

pub returns : goal.returns
returns c = inboxes_only_grow
