-- What one place more tells.
use Rattle.std.proofs.Common.{◌≡◌, ℕ, suc, ◌+◌, ◌-◌, true, false, List, [], ◌∷◌, ◌++◌, length, drop, is_some, Option, Some, None, option_map, refl, sym, ap, ◌∙◌, arith, length-append, append-nil, append_assoc}
use Rattle.std.specs.Prelude.{option_to_list}
use Rattle.std.specs.List.{flat_map, range_with_len}
use Rattle.std.proofs.lemmas.List.{drop-append-le}
use Rattle.std.proofs.lemmas.List.Sums.{fold_push}
use Rattle.cpg_entry.specs.declared.entries.Entry.{Entry}
use Rattle.cpg_record.specs.declared.connections.ConnId.{ConnId}
use Rattle.cpg_record.specs.declared.events.Event.{Event}
use Rattle.cpg_record.specs.declared.records.Record.{Record}
use Rattle.cpg_record.specs.Events.{events, inbox}
use Rattle.cpg_record.specs.Judging.{judged, record_of, with_judgement}
use Rattle.cpg_record.proofs.Inboxes.{events_front, flat_same}
use Rattle.cpg_ring.specs.States.{NodeState}
use Rattle.cpg_ring.specs.Moves.{next_entry}
use Rattle.cpg_ring.specs.Worlds.{deliver}
use Rattle.cpg_node.specs.declared.connections.Client.{Client}
use Rattle.cpg_node.specs.Nodes.{NodeValue, delivered_entries, records_of, inbox_of, conn_id, open_client}
use Rattle.cpg_node.specs.Calls.{node_after_delivery, next_record}
use Rattle.cpg_node.proofs.Keeping.{delivered_more}
use Rattle.cpg_node.proofs.Telling.{told_more}
use Rattle.cpg_serve.specs.Telling.{DeskValue}
use Rattle.cpg_serve.specs.Asking.{at_of}
use Rattle.cpg_serve.specs.Coming.{rest_of, left_of, IsCounted}
use Rattle.cpg_serve.specs.Stories.{told_by, told_next}

-- ---- an inbox over one record more

pub inbox_push : (rs : List Record) (r : Record) (conn : ConnId) → inbox (rs ++ r ∷ []) conn ≡ inbox rs conn ++ events (rs ++ r ∷ []) (suc (length rs)) conn
inbox_push rs r conn =
    let told : ℕ → List Event = λ p. events (rs ++ r ∷ []) p conn in
    let place : 1 + length rs ≡ suc (length rs) = omega arith in
    ap (λ n. flat_map told (range_with_len 1 n)) (length-append rs (r ∷ []))
    ∙ told_more told (length rs)
    ∙ ap (λ l. l ++ told (1 + length rs)) (flat_same told (λ p. events rs p conn) 1 (length rs) (events_front rs (r ∷ []) conn))
    ∙ ap (λ p. inbox rs conn ++ told p) place

-- ---- a delivery

entries_by : (r : NodeState) (o : Option Entry) → next_entry r ≡ o → delivered_entries (deliver r).0 ≡ delivered_entries r ++ option_to_list o
entries_by r None e =
    let closed : is_some (next_entry r) ≡ false = ap is_some e in
    rw closed (sym (append-nil (delivered_entries r)))
entries_by r (Some entry) e =
    let held : is_some (next_entry r) ≡ true = ap is_some e in
    rw held (delivered_more r entry e)

records_by : (x : NodeValue) (o : Option Entry) → next_entry x.ring.state ≡ o → records_of (node_after_delivery x) ≡ records_of x ++ option_to_list (option_map (record_of (records_of x)) o)
records_by x None e = ap judged (entries_by x.ring.state None e ∙ append-nil (delivered_entries x.ring.state)) ∙ sym (append-nil (records_of x))
records_by x (Some entry) e = ap judged (entries_by x.ring.state (Some entry) e) ∙ fold_push with_judgement [] (delivered_entries x.ring.state) entry

-- a delivery brings the record of the next place, if it is held
pub records_delivered : (x : NodeValue) → records_of (node_after_delivery x) ≡ records_of x ++ option_to_list (next_record x)
records_delivered x = records_by x (next_entry x.ring.state) refl

inbox_by : (x : NodeValue) (conn : ℕ) (o : Option Entry) → next_entry x.ring.state ≡ o
    → inbox_of (node_after_delivery x) conn ≡ inbox_of x conn ++ told_by x conn (option_map (record_of (records_of x)) o)
inbox_by x conn None e =
    ap (λ (es : List Entry). inbox (judged es) (conn_id x conn)) (entries_by x.ring.state None e ∙ append-nil (delivered_entries x.ring.state)) ∙ sym (append-nil (inbox_of x conn))
inbox_by x conn (Some entry) e =
    ap (λ (es : List Entry). inbox (judged es) (conn_id x conn)) (entries_by x.ring.state (Some entry) e)
    ∙ ap (λ (rs : List Record). inbox rs (conn_id x conn)) (fold_push with_judgement [] (delivered_entries x.ring.state) entry)
    ∙ inbox_push (records_of x) (record_of (records_of x) entry) (conn_id x conn)

pub inbox_delivered : (x : NodeValue) (conn : ℕ) → inbox_of (node_after_delivery x) conn ≡ inbox_of x conn ++ told_next x conn
inbox_delivered x conn = inbox_by x conn (next_entry x.ring.state) refl

pub left_delivered : (x : NodeValue) (conn : ℕ) (d : DeskValue) (c : Client) → open_client x conn ≡ Some c → IsCounted conn x
    → left_of conn (at_of (node_after_delivery x) d) ≡ left_of conn (at_of x d) ++ told_next x conn
left_delivered x conn d c found counted =
    let rest : rest_of (node_after_delivery x) conn (Some c) ≡ drop c.taken (inbox_of x conn) ++ told_next x conn =
    ap (drop c.taken) (inbox_delivered x conn) ∙ drop-append-le c.taken (inbox_of x conn) (told_next x conn) (counted c found) in
    rw found (ap (λ (l : List Event). option_to_list d.next ++ l) rest ∙ sym (append_assoc (option_to_list d.next) (drop c.taken (inbox_of x conn)) (told_next x conn)))
