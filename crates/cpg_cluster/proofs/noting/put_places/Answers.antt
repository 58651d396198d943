use Rattle.std.proofs.Common.{decimal}
use Rattle.cpg_cluster.proofs.Pieces.{two_put}
use Rattle.cpg_cluster.specs.Notes.{of_places_text}
use Rattle.cpg_cluster.proofs.noting.put_places.Goals as goal

pub returns-clause-ok : goal.returns-clause-ok
returns-clause-ok c =
    two_put c.put_of_places.result c.args.text.now.items (decimal c.args.seen) (of_places_text c.args.settings.now)
    c.push_number.new.line.items c.put_of_places.new.text.items c.in_ok-push_number.ensures.ok c.put_of_places.ensures.ok
