use Rattle.std.proofs.Common.{◌≡◌, ◌<◌, ◌+◌, ◌++◌, ◌∷◌, [], List, Some, length, take, slice_get, sym, ap, ◌∙◌, arith}
use Rattle.std.proofs.lemmas.List.{take_more}
use Rattle.std.proofs.lemmas.Option.{slice_get-get_or}
use Rattle.cpg_entry.specs.declared.entries.Entry.{Entry}
use Rattle.cpg_why.proofs.Denied.{denied_next}
use Rattle.cpg_why.proofs.walk.find_denials.Goals as goal

pub loop-entry-preserved : goal.loop-entry-preserved
loop-entry-preserved c =
    let entries = c.args.entries.now in
    let index = c.loop-entry.entry-index in
    let entry = c.entry-item.result in
    let within : index < length entries = omega arith in
    let stands : slice_get entries index ≡ Some entry = slice_get-get_or entries index entry within ∙ ap Some (sym c.entry-item.is) in
    let more : take (index + 1) entries ≡ take index entries ++ entry ∷ [] =
    take_more entries index entry within ∙ ap (λ (e : Entry). take index entries ++ e ∷ []) (sym c.entry-item.is) in
    record {
      passed = c.in_ok-pass_denied.ensures.ok ∙ ap (λ (es : List Entry). es ++ entry ∷ []) c.loop-entry.invariant.passed ∙ sym more;
      moves = c.in_ok-pass_denied.ensures.moves;
      list =
          denied_next entries c.loop-entry.walk.policy index entry c.loop-entry.list.items c.pass_denied.new.list.items
          stands c.loop-entry.invariant.passed c.loop-entry.invariant.list c.in_ok-pass_denied.ensures.list;
    }
