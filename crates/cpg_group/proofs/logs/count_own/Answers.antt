use Rattle.cpg_record.specs.Nexts.{is_made_by}
use Rattle.cpg_record.proofs.Cuts.{non_decreasing}
use Rattle.cpg_group.proofs.Counted.{count_there}
use Rattle.cpg_group.proofs.Stops.{place_of}
use Rattle.cpg_group.proofs.logs.count_own.Goals as goal

pub returns : goal.returns
returns c =
    λ rs conn are. count_there (is_made_by conn) rs c.args.last place_of c.args.log.now are.0 c.cut_near.result c.cut_near.ensures.within (record { place = 0; join = 0 })
    (c.cut_near.ensures.cut (non_decreasing place_of c.args.log.now (is_made_by conn) rs are.0))
