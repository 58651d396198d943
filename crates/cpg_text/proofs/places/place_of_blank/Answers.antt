use Rattle.std.proofs.Common.{Some, sym, ap, ◌∙◌, arith}
use lib.Count.{count_trailing_zeros}
use Rattle.cpg_text.specs.Lines.{is_blank}
use Rattle.cpg_text.proofs.Fronts.{near_place}
use Rattle.cpg_text.proofs.places.place_of_blank.Goals as goal

pub returns-then-found-ne0 : goal.returns-then-found-ne0
returns-then-found-ne0 c =
    let found = c.blanks_in_32-found in
    ap (λ bits. Some (count_trailing_zeros 64 bits)) found.ensures
    ∙ sym (near_place is_blank c.args.line.now 32 (omega arith) (omega arith) (omega (arith, found.ensures)))
