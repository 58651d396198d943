-- A take that finds nothing changes nothing for the next.
use Rattle.std.proofs.Common.{◌≡◌, ℕ, zero, suc, List, [], ◌∷◌, ◌++◌, length, Option, Some, None, IfSome, IfNone, Ok, slice_get, inl, inr, refl, sym, ap, ◌∙◌, subst, arith, append-nil}
use Rattle.std.proofs.lemmas.List.{take_all, length-map}
use Rattle.std.proofs.lemmas.Option.{none-some}
use Rattle.cpg_record.specs.declared.connections.ConnId.{ConnId}
use Rattle.cpg_record.specs.declared.events.Event.{Event}
use Rattle.cpg_record.specs.declared.records.Record.{Record}
use Rattle.cpg_record.specs.Events.{inbox}
use Rattle.cpg_record.specs.Places.{Begins}
use Rattle.cpg_board.specs.Seats.{records_of}
use Rattle.cpg_ring.specs.Worlds.{item, with_item}
use Rattle.cpg_ring.proofs.Lists.{item_with_same}
use Rattle.cpg_node.specs.declared.connections.Client.{Client}
use Rattle.cpg_node.specs.declared.connections.Connection.{Connection}
use Rattle.cpg_node.specs.Nodes.{NodeValue, open_client}
use Rattle.cpg_node.specs.Calls.{counted, node_after_take, took}
use Rattle.cpg_world_laws.specs.declared.events.WorldEvent.{WorldEvent}
use Rattle.cpg_world_laws.specs.declared.events.WorldEvent.TheVariants.{Take}
use Rattle.cpg_world_laws.specs.declared.replies.Reply.TheVariants.{Took}
use Rattle.cpg_world_laws.specs.Replies.{Answer, IsReply, IsAnswerOf, take_answer}
use Rattle.cpg_world_laws.specs.Worlds.{WorldValue, moves, moved, happens, runs}
use Rattle.cpg_world_laws.proofs.Reached.{runs_on}
use Rattle.cpg_station.specs.Serving.{IsAtEnd, moved_on}
use Rattle.cpg_station.specs.Stations.{audit_of}
use Rattle.cpg_history.specs.Members.{Told}
use Rattle.cpg_daemon.specs.Sessions.{SessionValue}
use Rattle.cpg_daemon.specs.Taking.{take_of, HasNone, AnswersNone, TakeTold, TakesOne, TakesOnto, IsTakenMany}

-- ---- in the world

-- the event that an answer gives
abbrev event_in : Answer → Option Event
event_in (Ok (Took event)) = event
event_in answer = None

-- a node that answers a take with none is as it was
stays_none : (x : NodeValue) (conn : ℕ) (o : Option Client) → ◌≡◌ {A = Answer} (Ok (Took None)) (take_answer x conn o) → node_after_take x conn o ≡ x
stays_none x conn None is = absurd (cc (is))
stays_none x conn (Some c) is = ap (counted x conn c) (sym (ap event_in is))

-- and answers the next so
none_again : (w : WorldValue) (n conn : ℕ) → IsReply w (Take n conn) (Ok (Took None)) → IsReply (happens w (Take n conn)) (Take n conn) (Ok (Took None))
none_again w n conn = by_node (item w.nodes n) refl
  where
    e : WorldEvent
    e = Take n conn

    by_node : (o : Option NodeValue) → item w.nodes n ≡ o → IsAnswerOf w.sent e o (Ok (Took None)) → IsReply (moved w n o (moves w.sent e)) e (Ok (Took None))
    by_node None at told = absurd told
    by_node (Some x) at told =
        let same : item (with_item w.nodes n (took x conn)) n ≡ Some x = item_with_same w.nodes n (took x conn) x at ∙ ap Some (stays_none x conn (open_client x conn) told) in
        subst (λ o. IsAnswerOf (w.sent ++ []) e o (Ok (Took None))) (sym same) told

-- ---- in a session

-- whoever was told that there is nothing has seen a world that answers so
answers_none : (start : WorldValue) (before after : SessionValue) → after.who.id ≡ before.who.id → Told start before.seen (take_of before) (Ok (Took None)) after.seen → AnswersNone start after
answers_none start before after same told =
    let e = take_of before in
    let again : IsReply (runs start (told.log ++ e ∷ [])) e (Ok (Took None)) = subst (λ w. IsReply w e (Ok (Took None))) (sym (runs_on start told.log (e ∷ []))) (none_again (runs start told.log) before.who.id.node before.who.id.conn told.reply) in
    subst (λ l. IsReply (runs start l) (take_of after) (Ok (Took None))) (sym told.seen) (subst (λ (id : ConnId). IsReply (runs start (told.log ++ e ∷ [])) (Take id.node id.conn) (Ok (Took None))) (sym same) again)

-- records that begin as many are these
begins_all : {X : Type 0} (xs ys : List X) → Begins xs ys → length xs ≡ length ys → xs ≡ ys
begins_all xs ys begins same = sym begins ∙ take_all (length xs) ys (omega (arith, same))

-- what a session keeps in mind of a node whose records its seat knows, and no other
pub keeps_none : (start : WorldValue) (before after : SessionValue) (node : NodeValue) (event : Option Event) (told : Option ℕ) → event ≡ None → after.who ≡ moved_on before.who event → IfNone event (IsAtEnd node before.who after.seat)
    → Told start before.seen (take_of before) (Ok (Took event)) after.seen → IfSome told (λ _. length (audit_of node) ≡ length after.seat) → IfSome told (λ _. HasNone start after)
keeps_none start before after node event None none who end history same = tt
keeps_none start before after node (Some event) (Some told) none who end history same = absurd (none-some event (sym none))
keeps_none start before after node None (Some told) none who end history same =
    let l : length (records_of after.seat) ≡ length after.seat = length-map after.seat (λ known. known.1) in
    let all : audit_of node ≡ records_of after.seat = begins_all (audit_of node) (records_of after.seat) end.1 (same ∙ sym l) in
    record {
      records = subst (λ (w : Connection). slice_get (inbox (records_of after.seat) w.id) w.taken ≡ None) (sym who) (subst (λ (rs : List Record). slice_get (inbox rs before.who.id) before.who.taken ≡ None) all end.0);
      history = answers_none start before after (ap (λ (w : Connection). w.id) who) history;
    }

-- what a take under the lock leaves seen
pub told_takes : (start : WorldValue) (before : SessionValue) (after : List WorldEvent) (event : Option Event) → Told start before.seen (take_of before) (Ok (Took event)) after → TakeTold start before after event
told_takes start before after None told = inl told
told_takes start before after (Some event) told = told

-- a take that repeats the last none
pub repeats : (start : WorldValue) (session : SessionValue) → HasNone start session → TakesOne start session (Ok None) session
repeats start session none =
    let l : length (records_of session.seat) ≡ length session.seat = length-map session.seat (λ known. known.1) in
    record {
      answers = (records_of session.seat, take_all (length (records_of session.seat)) (records_of session.seat) (omega arith), omega (arith, l), sym none.records);
      history = inr (none.history, refl);
      who = refl;
      err = tt;
      seat = take_all (length session.seat) session.seat (omega arith);
    }

-- a go that begins with it
pub repeats_many : (start : WorldValue) (most : ℕ) (session : SessionValue) (old : List Event) → TakesOne start session (Ok None) session → IsTakenMany start most session old (Ok 0) old session
repeats_many start most session old last = by_most most
  where
    nothing : TakesOnto start session old 0 old session
    nothing = record { events = []; each = refl; many = refl; list = sym (append-nil old) }

    by_most : (m : ℕ) → IsTakenMany start m session old (Ok 0) old session
    by_most zero = inl (refl, nothing)
    by_most (suc m) = inr (omega arith, record { between = session; taken = nothing; last = last })
