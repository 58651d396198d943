use Rattle.cpg_embed.proofs.Answering.{answers_end}
use Rattle.cpg_embed.proofs.laws.answers_end_with_their_token.Goals as goal

pub returns : goal.returns
returns c = answers_end
