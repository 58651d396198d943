-- Inboxes over more records.
use Rattle.std.proofs.Common.{◌≡◌, ℕ, zero, suc, List, [], ◌∷◌, ◌++◌, length, drop, Some, sym, ap, ◌∙◌, slice_get, take-append-drop}
use Rattle.std.proofs.lemmas.Option.{none-some}
use Rattle.cpg_record.specs.declared.events.Event.{Event}
use Rattle.cpg_record.specs.declared.records.Record.{Record}
use Rattle.cpg_record.specs.Events.{inbox}
use Rattle.cpg_record.proofs.Inboxes.{inbox_grows}
use Rattle.cpg_station.specs.Laws.{InboxesKeepTheirItems}

get_front : (xs ys : List Event) (k : ℕ) (e : Event) → slice_get xs k ≡ Some e → slice_get (xs ++ ys) k ≡ Some e
get_front [] ys k e at = absurd (none-some e at)
get_front (x ∷ xs) ys zero e at = at
get_front (x ∷ xs) ys (suc k) e at = get_front xs ys k e at

pub inboxes_keep_their_items : InboxesKeepTheirItems
inboxes_keep_their_items first all conn index e begins at =
    let rest = drop (length first) all in
    let whole : all ≡ first ++ rest = sym (take-append-drop (length first) all) ∙ ap (λ l. l ++ rest) begins in
    let grown = inbox_grows first rest conn in
    ap (λ (l : List Record). slice_get (inbox l conn) index) whole ∙ ap (λ l. slice_get l index) grown.1 ∙ get_front (inbox first conn) grown.0 index e at
