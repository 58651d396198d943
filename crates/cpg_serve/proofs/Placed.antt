-- A connection's records are those of the first of its admitted entries.
use Rattle.std.proofs.Common.{◌≡◌, ℕ, zero, suc, Bool, true, false, cond, eqb, eq-eqb, ◌&&◌, List, [], ◌∷◌, ◌++◌, map, take, drop, refl, sym, ap, subst, ◌∙◌, append_assoc, take-append-drop}
use Rattle.std.proofs.lemmas.Bool.{eqb-true}
use Rattle.std.proofs.lemmas.List.Elements.{filter-append}
use Rattle.cpg_entry.specs.declared.entries.Entry.{Entry}
use Rattle.cpg_record.specs.declared.connections.ConnId.{ConnId}
use Rattle.cpg_record.specs.declared.records.Record.{Record}
use Rattle.cpg_record.specs.Connections.{conn_of, is_conn}
use Rattle.cpg_record.specs.Judging.{judged}
use Rattle.cpg_record.specs.Laws.{EachEntryIsJudged}
use Rattle.cpg_ring.specs.States.{IsSettings}
use Rattle.cpg_ring.specs.Worlds.{item, agreed}
use Rattle.cpg_ring.specs.Claims.{by_node, waiting_at}
use Rattle.cpg_node.specs.Nodes.{records_of}
use Rattle.cpg_world_laws.specs.declared.events.WorldEvent.{WorldEvent}
use Rattle.cpg_world_laws.specs.Worlds.{WorldValue, happens, runs, Reached, ring_world}
use Rattle.cpg_world_laws.specs.Replies.{Answer, AreReplies}
use Rattle.cpg_world_laws.specs.Claims.{admitted, node_entries, IsTrueWorld, IsTrueRun}
use Rattle.cpg_world_laws.proofs.Reached.{reached_on, same_settings}
use Rattle.cpg_serve.specs.Verdicts.{own_records, VerdictsAreItsOwn}
use Rattle.cpg_serve.specs.Orders.{conn_at, own_entries, VerdictsInOrder}

-- ---- a world after a run

settings_all : (w : WorldValue) (es : List WorldEvent) → IsSettings w.settings → IsSettings (runs w es).settings
settings_all w [] h = h
settings_all w (e ∷ es) h = settings_all (happens w e) es (subst IsSettings (sym (same_settings w e).0) h)

reached_all : (w : WorldValue) (es : List WorldEvent) → Reached w → Reached (runs w es)
reached_all w [] h = h
reached_all w (e ∷ es) h = reached_all (happens w e) es (reached_on w e h)

-- ---- the entries of a connection

pub entries_own : (rs : List Record) (conn : ConnId) → map (λ (r : Record). r.entry) (own_records rs conn) ≡ own_entries conn (map (λ (r : Record). r.entry) rs)
entries_own [] conn = refl
entries_own (r ∷ rs) conn = by (is_conn conn (conn_of r.entry)) (entries_own rs conn)
  where
    by : (b : Bool) → map (λ (q : Record). q.entry) (own_records rs conn) ≡ own_entries conn (map (λ (q : Record). q.entry) rs)
        → map (λ (q : Record). q.entry) (cond b (r ∷ own_records rs conn) (own_records rs conn)) ≡ cond b (r.entry ∷ own_entries conn (map (λ (q : Record). q.entry) rs)) (own_entries conn (map (λ (q : Record). q.entry) rs))
    by true later = ap (λ (l : List Entry). r.entry ∷ l) later
    by false later = later

map_take : (n : ℕ) (rs : List Record) → map (λ (r : Record). r.entry) (take n rs) ≡ take n (map (λ (r : Record). r.entry) rs)
map_take zero rs = refl
map_take (suc n) [] = refl
map_take (suc n) (r ∷ rs) = ap (λ (l : List Entry). r.entry ∷ l) (map_take n rs)

other_way : (a b : ℕ) → eqb a b ≡ false → eqb b a ≡ false
other_way a b h = by_same (eqb b a) refl
  where
    by_same : (c : Bool) → eqb b a ≡ c → c ≡ false
    by_same false k = refl
    by_same true k = let bad : true ≡ false = sym (eq-eqb a b (sym (eqb-true b a k))) ∙ h in absurd cc

abbrev own_at : ℕ → ℕ → List Entry → List Entry
own_at n conn es = own_entries (conn_at n conn) es

own_step : (n conn : ℕ) (e : Entry) (es : List Entry) (b : Bool) → eqb e.node n ≡ b → own_at n conn (by_node n es) ≡ own_at n conn es
    → own_at n conn (cond b (e ∷ by_node n es) (by_node n es)) ≡ cond (eqb n e.node && eqb conn e.conn) (e ∷ own_at n conn es) (own_at n conn es)
own_step n conn e es true h later = ap (λ (l : List Entry). cond (eqb n e.node && eqb conn e.conn) (e ∷ l) l) later
own_step n conn e es false h later = later ∙ sym (ap (λ (c : Bool). cond (c && eqb conn e.conn) (e ∷ own_at n conn es) (own_at n conn es)) (other_way e.node n h))

-- a connection's entries are its node's
own_by_node : (n conn : ℕ) (es : List Entry) → own_at n conn (by_node n es) ≡ own_at n conn es
own_by_node n conn [] = refl
own_by_node n conn (e ∷ es) = own_step n conn e es (eqb e.node n) refl (own_by_node n conn es)

module _ (each : EachEntryIsJudged) (world : (w : WorldValue) → IsSettings w.settings → Reached w → IsTrueWorld w) (run : (w : WorldValue) (events : List WorldEvent) (answers : List Answer) → IsSettings w.settings → Reached w → AreReplies w events answers → IsTrueRun w events answers) (own : VerdictsAreItsOwn) where
  pub verdicts_in_order : VerdictsInOrder
  verdicts_in_order w events answers settings reached replies n conn x at =
      let v : WorldValue = runs w events in
      let id : ConnId = conn_at n conn in
      let all : List Entry = agreed v.sent in
      let d : ℕ = x.ring.state.delivered in
      let waits : List Entry = waiting_at (item (ring_world v).nodes n) in
      let truth : IsTrueWorld v = world v (settings_all w events settings) (reached_all w events reached) in
      let records : records_of x ≡ take d (judged all) = (truth.judged_alike n x at).records in
      let entries : map (λ (r : Record). r.entry) (records_of x) ≡ take d all =
      ap (map (λ (r : Record). r.entry)) records ∙ map_take d (judged all) ∙ ap (take d) (each all).1 in
      let mine : map (λ (r : Record). r.entry) (own_records (records_of x) id) ≡ own_entries id (take d all) = entries_own (records_of x) id ∙ ap (own_entries id) entries in
      let placed : node_entries v n ≡ node_entries w n ++ admitted w n events = (run w events answers settings reached replies).placed_in_order n in
      let split : own_entries id all ≡ own_entries id (take d all) ++ own_entries id (drop d all) =
      ap (own_entries id) (sym (take-append-drop d all)) ∙ filter-append (λ (e : Entry). is_conn id (conn_of e)) (take d all) (drop d all) in
      record {
        waiting = own_entries id (drop d all) ++ own_entries id waits;
        entries = ap (own_entries id) (sym placed) ∙ filter-append (λ (e : Entry). is_conn id (conn_of e)) (by_node n all) waits
            ∙ ap (λ (l : List Entry). l ++ own_entries id waits) (own_by_node n conn all ∙ split)
            ∙ append_assoc (own_entries id (take d all)) (own_entries id (drop d all)) (own_entries id waits)
            ∙ ap (λ (l : List Entry). l ++ (own_entries id (drop d all) ++ own_entries id waits)) (sym mine);
        verdicts = own (records_of x) id;
      }
