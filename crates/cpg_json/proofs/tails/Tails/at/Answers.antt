use Rattle.std.proofs.Common.{length, ◌∙◌, arith}
use Rattle.cpg_json.specs.Tails.{tails_upto}
use Rattle.cpg_json.proofs.Told.{tail_cut, tails_counted}
use Rattle.cpg_json.proofs.tails.Tails.at.Goals as goal

pub returns : goal.returns
returns c = λ rs are within.
    c.range.ensures (tails_upto rs (length rs)) are (omega arith) (omega (arith, within, tails_counted rs (length rs))) ∙ tail_cut rs c.args.place c.requires within
