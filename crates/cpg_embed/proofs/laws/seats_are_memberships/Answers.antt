use Rattle.cpg_embed.proofs.Standing.{seats_last}
use Rattle.cpg_embed.proofs.laws.seats_are_memberships.Goals as goal

pub returns : goal.returns
returns c = seats_last
