-- Every open connection can take its whole inbox, and nothing else changes.
use Rattle.std.proofs.Common.{◌≡◌, ◌≢◌, ℕ, zero, suc, ◌+◌, ◌≤◌, Bool, true, false, List, [], ◌∷◌, ◌++◌, length, Option, Some, None, All, slice_get, refl, sym, ap, ◌∙◌, subst, ⊎_elim, arith, append-nil, if◌then◌else◌}
use Rattle.std.proofs.lemmas.Option.{none-some, same_Some}
use Rattle.std.proofs.lemmas.Bool.{cases_eq}
use Rattle.std.proofs.lemmas.List.Elements.{All-nil, All-append, All-from_recursion}
use Rattle.cpg_record.specs.declared.events.Event.{Event}
use Rattle.cpg_record.specs.Events.{inbox}
use Rattle.cpg_record.specs.Judging.{judged}
use Rattle.cpg_ring.specs.Rings.{RingNode}
use Rattle.cpg_ring.specs.Worlds.{item}
use Rattle.cpg_ring.proofs.Lists.{item_within, item_with_same, with_item_cases, length-with_item}
use Rattle.cpg_node.specs.declared.connections.Client.{Client}
use Rattle.cpg_node.specs.Nodes.{NodeValue, delivered_entries, inbox_of, if_open, open_client}
use Rattle.cpg_node.specs.Calls.{next_event, counted, took, node_after_take, with_client}
use Rattle.cpg_world_laws.specs.declared.events.WorldEvent.{WorldEvent}
use Rattle.cpg_world_laws.specs.declared.events.WorldEvent.TheVariants.{Take}
use Rattle.cpg_world_laws.specs.Worlds.{WorldValue, moved, happens, runs, ring_world}
use Rattle.cpg_world_laws.proofs.Projecting.{still}
use Rattle.cpg_world_laws.proofs.Reached.{runs_on}
use Rattle.cpg_world_laws.proofs.Received.{open_is}

-- What taking leaves of a node: all but how many events its connections took.
record Kept (x y : NodeValue) : Type 0 where
  ring : y.ring ≡ x.ring
  count : length y.clients ≡ length x.clients
  clients : (conn : ℕ) (d : Client) → item y.clients conn ≡ Some d → (c : Client) × (item x.clients conn ≡ Some c) × (d.ended ≡ c.ended) × (c.taken ≤ d.taken)

kept_same : (x : NodeValue) → Kept x x
kept_same x = record { ring = refl; count = refl; clients = λ conn d at. (d, at, refl, omega arith) }

kept_then : (x y z : NodeValue) → Kept x y → Kept y z → Kept x z
kept_then x y z a b = record {
  ring = b.ring ∙ a.ring;
  count = b.count ∙ a.count;
  clients = λ conn e at.
      let d = b.clients conn e at in
      let c = a.clients conn d.0 d.1 in
      let l = d.3 in
      let m = c.3 in
      (c.0, c.1, d.2 ∙ c.2, omega arith);
}

-- and of a world
pub record Takes (w v : WorldValue) : Type 0 where
  pub sent : v.sent ≡ w.sent
  pub ring : ring_world v ≡ ring_world w
  pub count : length v.nodes ≡ length w.nodes
  nodes : (n : ℕ) (y : NodeValue) → item v.nodes n ≡ Some y → (x : NodeValue) × (item w.nodes n ≡ Some x) × Kept x y

takes_same : (w : WorldValue) → Takes w w
takes_same w = record { sent = refl; ring = refl; count = refl; nodes = λ n y at. (y, at, kept_same y) }

takes_then : (w v u : WorldValue) → Takes w v → Takes v u → Takes w u
takes_then w v u a b = record {
  sent = b.sent ∙ a.sent;
  ring = b.ring ∙ a.ring;
  count = b.count ∙ a.count;
  nodes = λ n z at.
      let y = b.nodes n z at in
      let x = a.nodes n y.0 y.1 in
      (x.0, x.1, kept_then x.0 y.0 z x.2 y.2);
}

-- the connection of that number, if it is open, took its whole inbox
abbrev pub TookAll : ℕ → ℕ → WorldValue → Type 0
TookAll n conn w = (x : NodeValue) (c : Client) → item w.nodes n ≡ Some x → open_client x conn ≡ Some c → length (inbox_of x conn) ≤ c.taken

-- every open connection did
abbrev pub AllTook : WorldValue → Type 0
AllTook w = (n conn : ℕ) → TookAll n conn w

not_ended : (o : Option Client) (c : Client) → if_open o ≡ Some c → c.ended ≡ false
not_ended None c h = absurd (none-some c h)
not_ended (Some d) c h = by_ended d.ended refl h
  where
    by_ended : (b : Bool) → d.ended ≡ b → (if b then None else Some d) ≡ Some c → c.ended ≡ false
    by_ended true is h = absurd (none-some c h)
    by_ended false is h = ap (λ (x : Client). x.ended) (sym (same_Some d c h)) ∙ is

is_open : (c : Client) → c.ended ≡ false → if_open (Some c) ≡ Some c
is_open c is = ap (λ b. if b then None else Some c) is

same_inbox : (x y : NodeValue) (conn : ℕ) → y.ring ≡ x.ring → inbox_of y conn ≡ inbox_of x conn
same_inbox x y conn same = ap (λ (r : RingNode). inbox (judged (delivered_entries r.state)) (record { node = r.node; conn = conn })) same

took_on : (w v : WorldValue) (n conn : ℕ) → Takes w v → TookAll n conn w → TookAll n conn v
took_on w v n conn t all y d at opens =
    let x = t.nodes n y at in
    let c = x.2.clients conn d (open_is y conn d opens) in
    let ended : c.0.ended ≡ false = sym c.2 ∙ not_ended (item y.clients conn) d opens in
    let had : length (inbox_of x.0 conn) ≤ c.0.taken = all x.0 c.0 x.1 (ap if_open c.1 ∙ is_open c.0 ended) in
    let same = ap (λ (l : List Event). length l) (same_inbox x.0 y conn x.2.ring) in
    let more = c.3 in
    omega arith

none_past : {X : Type 0} (xs : List X) (k : ℕ) → slice_get xs k ≡ None → length xs ≤ k
none_past [] k e = omega arith
none_past (x ∷ xs) zero e = absurd (none-some x (sym e))
none_past (x ∷ xs) (suc k) e = let l = none_past xs k e in omega arith

-- a connection whose inbox ends at what it took
took_now : (w : WorldValue) (n conn : ℕ) (x : NodeValue) (c : Client) → item w.nodes n ≡ Some x → open_client x conn ≡ Some c → length (inbox_of x conn) ≤ c.taken → TookAll n conn w
took_now w n conn x c is opens l y d at there =
    let same : x ≡ y = same_Some x y (sym is ∙ at) in
    let c_d : c ≡ d = same_Some c d (sym opens ∙ (ap (λ (z : NodeValue). open_client z conn) same ∙ there)) in
    let long = ap (λ (z : NodeValue). length (inbox_of z conn)) same in
    let took = ap (λ (e : Client). e.taken) c_d in
    omega arith

-- one event is taken
one_taken : (w : WorldValue) (n conn : ℕ) (x : NodeValue) (c : Client) → item w.nodes n ≡ Some x → item x.clients conn ≡ Some c → let y = with_client x conn (record c { taken = suc c.taken }) in Takes w (moved w n (Some x) (λ _. (y, [])))
one_taken w n conn x c is there = record {
  sent = append-nil w.sent;
  ring = still w n x (y, []) is (record { state = refl; sent = refl });
  count = length-with_item w.nodes n y;
  nodes = λ m z at. ⊎_elim
      (λ (here : (m ≡ n) × (y ≡ z)). (x, ap (item w.nodes) here.0 ∙ is, subst (Kept x) here.1 kept))
      (λ (apart : (m ≢ n) × (item w.nodes m ≡ Some z)). (z, apart.1, kept_same z))
      (with_item_cases w.nodes n m y z at);
}
  where
    d : Client
    d = record c { taken = suc c.taken }

    y : NodeValue
    y = with_client x conn d

    kept : Kept x y
    kept = record {
      ring = refl;
      count = length-with_item x.clients conn d;
      clients = λ k e at. ⊎_elim
          (λ (here : (k ≡ conn) × (d ≡ e)). (c, ap (item x.clients) here.0 ∙ there, ap (λ (q : Client). q.ended) (sym here.1), subst (λ (q : Client). c.taken ≤ q.taken) here.1 (omega arith)))
          (λ (apart : (k ≢ conn) × (item x.clients k ≡ Some e)). (e, apart.1, refl, omega arith))
          (with_item_cases x.clients conn k d e at);
    }

module _ (Other : WorldEvent → Type 0) (may : (n conn : ℕ) → Other (Take n conn)) where
  -- events by which connections take, and what they lead to
  pub record Leads (w : WorldValue) (Goal : WorldValue → Type 0) : Type 0 where
    pub events : List WorldEvent
    pub kind : All Other events
    pub takes : Takes w (runs w events)
    pub goal : Goal (runs w events)

  leads_now : (w : WorldValue) (Goal : WorldValue → Type 0) → Goal w → Leads w Goal
  leads_now w Goal h = record { events = []; kind = All-nil Other; takes = takes_same w; goal = h }

  leads_then : (w : WorldValue) (Middle Goal : WorldValue → Type 0) → Leads w Middle → ((v : WorldValue) → Takes w v → Middle v → Leads v Goal) → Leads w Goal
  leads_then w Middle Goal a more =
      let v = runs w a.events in
      let b = more v a.takes a.goal in
      let joined : runs w (a.events ++ b.events) ≡ runs v b.events = runs_on w a.events b.events in
      record {
        events = a.events ++ b.events;
        kind = All-append Other a.events b.events a.kind b.kind;
        takes = subst (Takes w) (sym joined) (takes_then w v (runs v b.events) a.takes b.takes);
        goal = subst Goal (sym joined) b.goal;
      }

  after_take : (w v : WorldValue) (n conn : ℕ) (Goal : WorldValue → Type 0) → happens w (Take n conn) ≡ v → Takes w v → Leads v Goal → Leads w Goal
  after_take w v n conn Goal is t a =
      let whole : runs w (Take n conn ∷ a.events) ≡ runs v a.events = ap (λ (u : WorldValue). runs u a.events) is in
      record {
        events = Take n conn ∷ a.events;
        kind = All-append Other (Take n conn ∷ []) a.events (All-from_recursion Other (Take n conn ∷ []) (may n conn, tt)) a.kind;
        takes = subst (Takes w) (sym whole) (takes_then w v (runs v a.events) t a.takes);
        goal = subst Goal (sym whole) a.goal;
      }

  -- one connection takes so many events at most
  drains : (more : ℕ) (w : WorldValue) (n conn : ℕ) (x : NodeValue) (c : Client) → item w.nodes n ≡ Some x → open_client x conn ≡ Some c → length (inbox_of x conn) ≤ c.taken + more → Leads w (TookAll n conn)
  drains zero w n conn x c is opens l = leads_now w (TookAll n conn) (took_now w n conn x c is opens (omega arith))
  drains (suc more) w n conn x c is opens l = by_event (next_event x conn c) refl (λ v y d at there m. drains more v n conn y d at there m)
    where
      by_event : (o : Option Event) → next_event x conn c ≡ o → ((v : WorldValue) (y : NodeValue) (d : Client) → item v.nodes n ≡ Some y → open_client y conn ≡ Some d → length (inbox_of y conn) ≤ d.taken + more → Leads v (TookAll n conn)) → Leads w (TookAll n conn)
      by_event None none on = leads_now w (TookAll n conn) (took_now w n conn x c is opens (none_past (inbox_of x conn) c.taken none))
      by_event (Some event) some on =
          let d : Client = record c { taken = suc c.taken } in
          let y : NodeValue = with_client x conn d in
          let there : item x.clients conn ≡ Some c = open_is x conn c opens in
          let v : WorldValue = moved w n (Some x) (λ _. (y, [])) in
          let took_is : took x conn ≡ y = ap (node_after_take x conn) opens ∙ ap (counted x conn c) some in
          let happened : happens w (Take n conn) ≡ v = ap (λ o. moved w n o (λ z. (took z conn, []))) is ∙ ap (λ (z : NodeValue). moved w n (Some x) (λ _. (z, []))) took_is in
          let ended : c.ended ≡ false = not_ended (item x.clients conn) c opens in
          let opened : open_client y conn ≡ Some d = ap if_open (item_with_same x.clients conn d c there) ∙ is_open d ended in
          after_take w v n conn (TookAll n conn) happened (one_taken w n conn x c is there)
          (on v y d (item_with_same w.nodes n y x is) opened (omega arith))

  one_connection : (w : WorldValue) (n conn : ℕ) → Leads w (TookAll n conn)
  one_connection w n conn = by_node (item w.nodes n) refl
    where
      by_client : (x : NodeValue) → item w.nodes n ≡ Some x → (o : Option Client) → open_client x conn ≡ o → Leads w (TookAll n conn)
      by_client x is None none = leads_now w (TookAll n conn) (λ y d at opens. absurd (none-some d (sym none ∙ (ap (λ (z : NodeValue). open_client z conn) (same_Some x y (sym is ∙ at)) ∙ opens))))
      by_client x is (Some c) opens = drains (length (inbox_of x conn)) w n conn x c is opens (omega arith)

      by_node : (o : Option NodeValue) → item w.nodes n ≡ o → Leads w (TookAll n conn)
      by_node None none = leads_now w (TookAll n conn) (λ y d at opens. absurd (none-some y (sym none ∙ at)))
      by_node (Some x) is = by_client x is (open_client x conn) refl

  -- connections 1 to so many of a node
  abbrev Connections : ℕ → ℕ → WorldValue → Type 0
  Connections n j w = (conn : ℕ) → 1 ≤ conn → conn ≤ j → TookAll n conn w

  connections : (j : ℕ) (w : WorldValue) (n : ℕ) → Leads w (Connections n j)
  connections zero w n = leads_now w (Connections n zero) (λ conn low high. absurd (omega arith))
  connections (suc j) w n = leads_then w (Connections n j) (Connections n (suc j)) (connections j w n) (λ v t before.
      let one = one_connection v n (suc j) in
      record {
        events = one.events;
        kind = one.kind;
        takes = one.takes;
        goal = λ conn low high. ⊎_elim
            (λ (here : conn ≡ suc j). subst (λ k. TookAll n k (runs v one.events)) (sym here) one.goal)
            (λ (apart : conn ≢ suc j). took_on v (runs v one.events) n conn one.takes (before conn low (omega arith)))
            (cases_eq conn (suc j));
      })

  -- all connections of a node
  abbrev Node : ℕ → WorldValue → Type 0
  Node n w = (conn : ℕ) → TookAll n conn w

  one_node : (w : WorldValue) (n : ℕ) → Leads w (Node n)
  one_node w n = by_node (item w.nodes n) refl
    where
      by_node : (o : Option NodeValue) → item w.nodes n ≡ o → Leads w (Node n)
      by_node None none = leads_now w (Node n) (λ conn y d at opens. absurd (none-some y (sym none ∙ at)))
      by_node (Some x) is =
          let all = connections (length x.clients) w n in
          record {
            events = all.events;
            kind = all.kind;
            takes = all.takes;
            goal = λ conn y d at opens.
                let there = item_within y.clients conn d (open_is y conn d opens) in
                let z = all.takes.nodes n y at in
                let same = ap (λ (q : NodeValue). length q.clients) (same_Some x z.0 (sym is ∙ z.1)) in
                let count = z.2.count in
                all.goal conn there.0 (omega arith) y d at opens;
          }

  -- nodes 1 to so many
  abbrev Nodes : ℕ → WorldValue → Type 0
  Nodes j w = (n : ℕ) → 1 ≤ n → n ≤ j → Node n w

  so_many : (j : ℕ) (w : WorldValue) → Leads w (Nodes j)
  so_many zero w = leads_now w (Nodes zero) (λ n low high. absurd (omega arith))
  so_many (suc j) w = leads_then w (Nodes j) (Nodes (suc j)) (so_many j w) (λ v t before.
      let one = one_node v (suc j) in
      record {
        events = one.events;
        kind = one.kind;
        takes = one.takes;
        goal = λ n low high. ⊎_elim
            (λ (here : n ≡ suc j). subst (λ k. Node k (runs v one.events)) (sym here) one.goal)
            (λ (apart : n ≢ suc j) conn. took_on v (runs v one.events) n conn one.takes (before n low (omega arith) conn))
            (cases_eq n (suc j));
      })

  pub all_take : (w : WorldValue) → Leads w AllTook
  all_take w =
      let all = so_many (length w.nodes) w in
      record {
        events = all.events;
        kind = all.kind;
        takes = all.takes;
        goal = λ n conn y d at opens.
            let there = item_within (runs w all.events).nodes n y at in
            let count = all.takes.count in
            all.goal n there.0 (omega arith) conn y d at opens;
      }
