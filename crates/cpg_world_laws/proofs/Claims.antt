-- What holds of every world and every run, from what holds of every ring.
use Rattle.std.proofs.Common.{◌≡◌, ℕ, ◌≤◌, List, [], ◌∷◌, ◌++◌, length, take, Some, refl, sym, ap, ◌∙◌, subst, append-nil, option_map, append_assoc}
use Rattle.cpg_record.specs.Judging.{judged}
use Rattle.cpg_record.specs.Laws.{PrefixesAreJudgedAlike, EachEntryIsJudged, EachIsJudgedByThoseBefore, DenialChangesNothing}
use Rattle.cpg_record.specs.Reasons.{VerdictsNameWhatDecided}
use Rattle.cpg_record.specs.Receiving.{ReceivesExactly, ToldInOrder}
use Rattle.cpg_ring.specs.States.{Entry, IsSettings}
use Rattle.cpg_ring.specs.declared.settings.Settings.{Settings}
use Rattle.cpg_ring.specs.Worlds as ring
use Rattle.cpg_ring.specs.Worlds.{item, with_item, start, agreed}
use Rattle.cpg_ring.specs.Claims as claims
use Rattle.cpg_ring.specs.Claims.{Chain, Agreement, Safe, OnceInOrder}
use Rattle.cpg_node.specs.Nodes.{delivered_entries, records_of, conn_id}
use Rattle.cpg_world_laws.specs.declared.events.WorldEvent.{WorldEvent}
use Rattle.cpg_world_laws.specs.Worlds.{WorldValue, happens, runs, Reached, ring_world}
use Rattle.cpg_world_laws.specs.Replies.{Answer, AtEach, IsReply, AreReplies}
use Rattle.cpg_world_laws.specs.Claims.{JudgedByThoseBefore, had, given, gives, admitted, node_entries, IsTrueWorld, IsTrueRun, AdmitsExactly, ListsExactly, EndsExactly, ChangesNothing}
use Rattle.cpg_world_laws.proofs.Lists.{item_map}
use Rattle.cpg_world_laws.proofs.Growing.{delivered_are}
use Rattle.cpg_world_laws.proofs.Projecting.{Numbered, ring_events, state_of}
use Rattle.cpg_world_laws.proofs.Reached.{RingReached, ring_reached, reached_on, runs_ring, numbered_on, same_settings}
use Rattle.cpg_world_laws.proofs.Received.{AllAgreed, AllWithin, within_step, gift_step, within_new}
use Rattle.cpg_world_laws.proofs.Orders.{run_admits}
use Rattle.cpg_world_laws.proofs.Asking.{Listings, ends_exactly, lists_exactly}
use Rattle.cpg_world_laws.proofs.Later.{run_agrees, goes_on, judge_alike}
use Rattle.cpg_world_laws.proofs.Refusals.{admits_exactly, changes_nothing}

-- What the layers below promise of every ring and of all records.
pub record Below : Type 0 where
  pub chain : (s : Settings) (w : ring.World) → IsSettings s → ring.Reached s w → Chain s w
  pub agreement : (s : Settings) (w : ring.World) → IsSettings s → ring.Reached s w → Agreement s w
  pub in_order : (s : Settings) (w : ring.World) → IsSettings s → ring.Reached s w → OnceInOrder s w
  pub safe : (s : Settings) (w : ring.World) → IsSettings s → ring.Reached s w → Safe s w
  pub prefixes : PrefixesAreJudgedAlike
  pub each : EachEntryIsJudged
  pub before : EachIsJudgedByThoseBefore
  pub denials : DenialChangesNothing
  pub named : VerdictsNameWhatDecided
  pub receives : ReceivesExactly
  pub told : ToldInOrder
  pub listings : Listings

module _ (below : Below) where
  all_agreed : (w : WorldValue) → IsSettings w.settings → RingReached w → AllAgreed w
  all_agreed w settings r n x at = record {
    reached = are.0;
    records = ap judged are.1 ∙ below.prefixes (agreed w.sent) x.ring.state.delivered;
  }
    where
      held : Agreement w.settings (ring_world w)
      held = below.agreement w.settings (ring_world w) settings (r.events, r.run)

      there : item (ring_world w).nodes n ≡ Some x.ring.state
      there = item_map state_of w.nodes n ∙ ap (option_map state_of) at

      are : (x.ring.state.delivered ≤ length (agreed w.sent)) × (delivered_entries x.ring.state ≡ take x.ring.state.delivered (agreed w.sent))
      are = delivered_are x.ring.state.held (agreed w.sent) x.ring.state.delivered
          (λ place low high. held.delivered_held n x.ring.state place there low high)
          (λ place e g. held.held_as_agreed n x.ring.state place e there g)

  by_those_before : (A : List Entry) → JudgedByThoseBefore (judged A)
  by_those_before A i r at = (below.before A i r at).1

  pub true_world : (w : WorldValue) → IsSettings w.settings → Reached w → IsTrueWorld w
  true_world w settings reached = record {
    chain = below.chain w.settings (ring_world w) settings (r.events, r.run);
    held_as_agreed = λ n x place e at. (below.agreement w.settings (ring_world w) settings (r.events, r.run)).held_as_agreed n x.ring.state place e (item_map state_of w.nodes n ∙ ap (option_map state_of) at);
    judged_alike = all_agreed w settings r;
    by_rules_before = by_those_before (agreed w.sent);
    named = λ place q at verdict. below.named (agreed w.sent) place q at verdict;
    receives = λ n x at. record {
      messages = λ conn. below.receives (delivered_entries x.ring.state) (conn_id x conn);
      in_order = λ conn. below.told (records_of x) (conn_id x conn);
    };
    denials = λ i q at denied. below.denials (take i (judged (agreed w.sent))) q denied;
    safe = below.safe w.settings (ring_world w) settings (r.events, r.run);
  }
    where
      r : RingReached w
      r = ring_reached w reached

  agreed_of : (w : WorldValue) → IsSettings w.settings → Reached w → AllAgreed w
  agreed_of w settings reached = all_agreed w settings (ring_reached w reached)

  settings_on : (w : WorldValue) (e : WorldEvent) → IsSettings w.settings → IsSettings (happens w e).settings
  settings_on w e settings = subst IsSettings (sym (same_settings w e).0) settings

  received : (w : WorldValue) (es : List WorldEvent) (answers : List Answer) → IsSettings w.settings → Reached w → AllWithin w → AreReplies w es answers → (n conn : ℕ) → had (item w.nodes n) conn ++ given n conn es answers ≡ had (item (runs w es).nodes n) conn
  received w [] [] settings reached within replies n conn = append-nil _
  received w [] (a ∷ answers) settings reached within replies n conn = absurd replies
  received w (e ∷ es) [] settings reached within replies n conn = absurd replies
  received w (e ∷ es) (a ∷ answers) settings reached within replies n conn =
      let before = agreed_of w settings reached in
      let after = agreed_of (happens w e) (settings_on w e settings) (reached_on w e reached) in
      sym (append_assoc (had (item w.nodes n) conn) (gives n conn e a) (given n conn es answers))
      ∙ (ap (λ l. l ++ given n conn es answers) (gift_step below.prefixes w e a before after within replies.0 n conn)
      ∙ received (happens w e) es answers (settings_on w e settings) (reached_on w e reached) (within_step below.prefixes w e before after within) replies.1 n conn)

  -- a run keeps what was taken within the inboxes, from a new world on
  within_run : (w : WorldValue) (es : List WorldEvent) → IsSettings w.settings → Reached w → AllWithin w → AllWithin (runs w es)
  within_run w [] settings reached within = within
  within_run w (e ∷ es) settings reached within = within_run (happens w e) es (settings_on w e settings) (reached_on w e reached) (within_step below.prefixes w e (agreed_of w settings reached) (agreed_of (happens w e) (settings_on w e settings) (reached_on w e reached)) within)

  within_reached : (w : WorldValue) → IsSettings w.settings → Reached w → AllWithin w
  within_reached w settings reached = subst AllWithin reached.1 (within_run _ reached.0 settings ([], refl) (within_new w.settings w.list))

  -- and so all is agreed after a run
  agreed_after : (w : WorldValue) (es : List WorldEvent) → IsSettings w.settings → Reached w → AllAgreed (runs w es)
  agreed_after w [] settings reached = agreed_of w settings reached
  agreed_after w (e ∷ es) settings reached = agreed_after (happens w e) es (settings_on w e settings) (reached_on w e reached)

  in_order : (w : WorldValue) (es : List WorldEvent) → IsSettings w.settings → Reached w → (n : ℕ) → node_entries (runs w es) n ≡ node_entries w n ++ admitted w n es
  in_order w es settings reached n =
      ap (λ (v : ring.World). claims.ring_entries v n) (runs_ring w es r.numbered)
      ∙ ((below.in_order w.settings (ring_world w) settings (r.events, r.run)).later_after n later
      ∙ ap (λ l. node_entries w n ++ l) (run_admits w n es r.numbered))
    where
      r : RingReached w
      r = ring_reached w reached

      later : List ring.Event
      later = ring_events w es

  at_each : (P : WorldValue → WorldEvent → Answer → Type 0) → ((w : WorldValue) (e : WorldEvent) (a : Answer) → Numbered w → IsReply w e a → P w e a) → (w : WorldValue) (es : List WorldEvent) (answers : List Answer) → Numbered w → AreReplies w es answers → AtEach P w es answers
  at_each P p w [] [] numbered replies = tt
  at_each P p w [] (a ∷ answers) numbered replies = absurd replies
  at_each P p w (e ∷ es) [] numbered replies = absurd replies
  at_each P p w (e ∷ es) (a ∷ answers) numbered replies = (p w e a numbered replies.0, at_each P p (happens w e) es answers (numbered_on w e numbered) replies.1)

  pub true_run : (w : WorldValue) (es : List WorldEvent) (answers : List Answer) → IsSettings w.settings → Reached w → AreReplies w es answers → IsTrueRun w es answers
  true_run w es answers settings reached replies = record {
    admission = at_each AdmitsExactly admits_exactly w es answers numbered replies;
    received = received w es answers settings reached (within_reached w settings reached) replies;
    ends = at_each EndsExactly ends_exactly w es answers numbered replies;
    listings = at_each ListsExactly (lists_exactly below.listings) w es answers numbered replies;
    placed_in_order = in_order w es settings reached;
    agreed_grows = run_agrees w es;
    goes_on = λ n x later at after. goes_on below.prefixes w es n x later at after (before n x at) (then n later after);
    alike_later = λ n m x y at after. judge_alike below.prefixes w es x y (before n x at) (then m y after);
    refusals = at_each ChangesNothing changes_nothing w es answers numbered replies;
  }
    where
      before : AllAgreed w
      before = agreed_of w settings reached

      then : AllAgreed (runs w es)
      then = agreed_after w es settings reached

      numbered : Numbered w
      numbered = (ring_reached w reached).numbered
