use Rattle.std.proofs.Common.{ℕ, List, ◌∷◌, sym, subst}
use Rattle.cpg_conf.specs.Names.{next_number}
use Rattle.cpg_accept.specs.Parts.{Piece}
use Rattle.cpg_accept.specs.Steps.{parts_of_head, part_seen, StopsIn}
use Rattle.cpg_accept.proofs.Stopping.{stops_amid, stops_here}
use Rattle.cpg_accept.proofs.accepting.take_all.Goals as goal

pub returns-in-Err-clause-err : goal.returns-in-Err-clause-err
returns-in-Err-clause-err c =
    let rest = parts_of_head c.next.new.self.head in
    let piece = part_seen c.in-Some.part in
    let here = stops_here c.saturating_add-number.result piece rest c.loop-part.admitting c.in-Err.fault c.in-Err.ensures.err in
    let numbered = subst (λ (number : ℕ). StopsIn number (piece ∷ rest) c.loop-part.admitting c.in-Err.fault) c.saturating_add-number.ensures here in
    let left = subst (λ (parts : List Piece). StopsIn (next_number c.loop-part.number) parts c.loop-part.admitting c.in-Err.fault) (sym c.in-Some.ensures.steps) numbered in
    stops_amid (parts_of_head c.args.parts.head) (parts_of_head c.loop-part.part-iterator.head) (next_number c.loop-part.number)
    c.args.admitting.now c.loop-part.admitting c.in-Err.fault c.loop-part.invariant.same (c.loop-part.invariant.amid c.in-Err.fault) left
