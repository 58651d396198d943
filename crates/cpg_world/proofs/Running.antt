-- A run goes on by one event.
use Rattle.std.proofs.Common.{◌≡◌, ℕ, zero, suc, ◌+◌, ◌<◌, List, [], ◌∷◌, ◌++◌, length, take, Option, Some, None, refl, sym, ap, ◌∙◌, subst, arith, slice_get, get_or, length-append}
use Rattle.std.proofs.lemmas.List.{length-set, length-map}
use Rattle.std.proofs.lemmas.Option.{none-some, same_Some, slice_get_within, slice_get-get_or}
use Rattle.cpg_ring.specs.States.{IsSettings}
use Rattle.cpg_ring.specs.Worlds.{item, with_item}
use Rattle.cpg_ring.specs.Visits.{up_to}
use Rattle.cpg_node.specs.Nodes.{NodeValue, new_value}
use Rattle.cpg_world_laws.specs.declared.events.WorldEvent.{WorldEvent}
use Rattle.cpg_world_laws.specs.Worlds.{WorldValue, moves, moved, node_in, happens, runs, new_world, Reached}
use Rattle.cpg_world_laws.specs.Replies.{Answer, AtEach, IsReply, AreReplies}
use Rattle.cpg_world_laws.proofs.Reached.{runs_on, length-up_to, reached_on, same_settings}
use Rattle.cpg_world_laws.specs.Claims.{IsTrueWorld}
use Rattle.cpg_world.specs.Kept.{IsAnswered}
use Rattle.cpg_world.specs.Runs.{HaveRun}

length-with : {X : Type 0} (xs : List X) (n : ℕ) (x : X) → length (with_item xs n x) ≡ length xs
length-with xs zero x = refl
length-with xs (suc i) x = length-set xs i x

-- an event leaves as many nodes
pub as_many_nodes : (w : WorldValue) (e : WorldEvent) → length (happens w e).nodes ≡ length w.nodes
as_many_nodes w e = by_node (item w.nodes (node_in e))
  where
    by_node : (o : Option NodeValue) → length (moved w (node_in e) o (moves w.sent e)).nodes ≡ length w.nodes
    by_node None = refl
    by_node (Some x) = length-with w.nodes (node_in e) (moves w.sent e x).0

pub as_many_after : (w : WorldValue) (es : List WorldEvent) → length (runs w es).nodes ≡ length w.nodes
as_many_after w [] = refl
as_many_after w (e ∷ es) = as_many_after (happens w e) es ∙ as_many_nodes w e

at_push : (P : WorldValue → WorldEvent → Answer → Type 0) (w : WorldValue) (es : List WorldEvent) (answers : List Answer) (e : WorldEvent) (a : Answer) → AtEach P w es answers → P (runs w es) e a → AtEach P w (es ++ e ∷ []) (answers ++ a ∷ [])
at_push P w [] [] e a all p = (p, tt)
at_push P w [] (b ∷ answers) e a all p = absurd all
at_push P w (d ∷ es) [] e a all p = absurd all
at_push P w (d ∷ es) (b ∷ answers) e a all p = (all.0, at_push P (happens w d) es answers e a all.1 p)

take_more : {X : Type 0} (xs : List X) (i : ℕ) (x : X) → slice_get xs i ≡ Some x → take (suc i) xs ≡ take i xs ++ x ∷ []
take_more [] i x is = absurd (none-some x is)
take_more (y ∷ xs) zero x is = ap (λ z. z ∷ []) (same_Some y x is)
take_more (y ∷ xs) (suc i) x is = ap (λ l. y ∷ l) (take_more xs i x is)

-- before the first event
pub run_none : (w : WorldValue) (events : List WorldEvent) (answers : List Answer) → answers ≡ [] → HaveRun w events answers w
run_none w events answers none = subst (λ l. HaveRun w events l w) (sym none) (record { within = omega arith; replies = tt; world = refl })

-- one event more was answered
pub run_more : (w : WorldValue) (events : List WorldEvent) (answers later : List Answer) (v after : WorldValue) (e : WorldEvent) → HaveRun w events answers v → slice_get events (length answers) ≡ Some e → IsAnswered v e answers later after → HaveRun w events later after
run_more w events answers later v after e ran at more = record {
  within = let a = more_by_one in let b = slice_get_within events (length answers) e at in omega arith;
  replies = subst (λ l. AreReplies w l later) (sym begun) (subst (λ l. AreReplies w (take (length answers) events ++ e ∷ []) l) (sym more.stands) (at_push IsReply w (take (length answers) events) answers e more.reply ran.replies (subst (λ u. IsReply u e more.reply) ran.world more.replied)));
  world = more.happened ∙ (ap (λ (u : WorldValue). happens u e) ran.world ∙ (sym (runs_on w (take (length answers) events) (e ∷ [])) ∙ ap (runs w) (sym begun)));
}
  where
    more_by_one : length later ≡ suc (length answers)
    more_by_one = let a = ap length more.stands in let b = length-append answers (more.reply ∷ []) in omega arith

    begun : take (length later) events ≡ take (length answers) events ++ e ∷ []
    begun = ap (λ n. take n events) more_by_one ∙ take_more events (length answers) e at

-- a world has as many nodes as its settings say
pub as_many_as_set : (w : WorldValue) → Reached w → length w.nodes ≡ w.settings.nodes
as_many_as_set w reached =
    ap (λ (v : WorldValue). length v.nodes) (sym reached.1)
    ∙ (as_many_after (new_world w.settings w.list) reached.0
    ∙ (length-map (up_to w.settings.nodes) (λ n. new_value w.settings n w.list) ∙ length-up_to w.settings.nodes))

-- the loop's step
pub record OneMore (w : WorldValue) (events : List WorldEvent) (later : List Answer) (v after : WorldValue) (i : ℕ) : Type 0 where
  pub ran : HaveRun w events later after
  pub count : length later ≡ i + 1
  pub nodes : length after.nodes ≡ length v.nodes

pub one_more : (w : WorldValue) (events : List WorldEvent) (answers later : List Answer) (v after : WorldValue) (e : WorldEvent) (i : ℕ) → i < length events → e ≡ get_or events i e → HaveRun w events answers v → length answers ≡ i → IsAnswered v e answers later after → OneMore w events later v after i
one_more w events answers later v after e i low is ran count more = record {
  ran = run_more w events answers later v after e ran (ap (slice_get events) count ∙ (slice_get-get_or events i e low ∙ ap Some (sym is))) more;
  count = let a = ap length more.stands in let b = length-append answers (more.reply ∷ []) in omega arith;
  nodes = ap (λ (u : WorldValue). length u.nodes) more.happened ∙ as_many_nodes v e;
}

pub reached_after : (w : WorldValue) (es : List WorldEvent) → Reached w → Reached (runs w es)
reached_after w [] reached = reached
reached_after w (e ∷ es) reached = reached_after (happens w e) es (reached_on w e reached)

pub settings_after : (w : WorldValue) (es : List WorldEvent) → (runs w es).settings ≡ w.settings
settings_after w [] = refl
settings_after w (e ∷ es) = settings_after (happens w e) es ∙ (same_settings w e).0

pub true_after : ((w : WorldValue) → IsSettings w.settings → Reached w → IsTrueWorld w) → (w after : WorldValue) (es : List WorldEvent) → IsSettings w.settings → Reached w → after ≡ runs w es → IsTrueWorld after
true_after law w after es settings reached is = subst IsTrueWorld (sym is) (law (runs w es) (subst IsSettings (sym (settings_after w es)) settings) (reached_after w es reached))
