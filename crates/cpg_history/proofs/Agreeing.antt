-- A history leads to worlds that are reached, and to a list of agreed entries that only grows.
use Rattle.std.proofs.Common.{◌≡◌, ℕ, zero, suc, ◌≤◌, List, [], ◌∷◌, ◌++◌, length, take, Option, Some, None, option_map, refl, sym, ap, ◌∙◌, subst, arith, append_assoc, length-append}
use mathlib.Core.List.{IsPrefix}
use Rattle.std.proofs.lemmas.List.{append-nil}
use Rattle.cpg_record.specs.Judging.{judged}
use Rattle.cpg_record.specs.Laws.{PrefixesAreJudgedAlike}
use Rattle.cpg_ring.specs.States.{Entry, Frame}
use Rattle.cpg_ring.specs.Worlds.{item, agreed}
use Rattle.cpg_node.specs.Nodes.{NodeValue, new_value}
use Rattle.cpg_world_laws.specs.declared.events.WorldEvent.{WorldEvent}
use Rattle.cpg_world_laws.specs.Worlds.{WorldValue, NodeOutcome, moved, moves, node_in, happens, runs, new_world, Reached}
use Rattle.cpg_world_laws.specs.Claims.{IsAgreed, JudgeAlike}
use Rattle.cpg_world_laws.proofs.Later.{judge_alike}
use Rattle.cpg_ring.proofs.Growth.{agreed_grows}
use Rattle.cpg_world_laws.proofs.Reached.{runs_on, same_settings, length-up_to, up_to_at, ring_reached}
use Rattle.cpg_world_laws.proofs.Lists.{item_map}
use Rattle.cpg_ring.proofs.Lists.{item_there}
use Rattle.cpg_ring.specs.Visits.{up_to}
use Rattle.cpg_history.specs.declared.histories.Beginning.{Beginning}
use Rattle.cpg_history.specs.Histories.{first_world}
use Rattle.cpg_history.specs.Members.{IsAt, IsNewWorld}

pub same_on : (w : WorldValue) (es : List WorldEvent) → ((runs w es).settings ≡ w.settings) × ((runs w es).list ≡ w.list)
same_on w [] = (refl, refl)
same_on w (e ∷ es) = let later = same_on (happens w e) es in let one = same_settings w e in (later.0 ∙ one.0, later.1 ∙ one.1)

pub reached_by : (w : WorldValue) (es : List WorldEvent) → w ≡ new_world w.settings w.list → Reached (runs w es)
reached_by w es new = let same = same_on w es in (es, ap (λ s. runs (new_world s (runs w es).list) es) same.0 ∙ (ap (λ l. runs (new_world w.settings l) es) same.1 ∙ ap (λ (u : WorldValue). runs u es) (sym new)))

moved_more : (w : WorldValue) (n : ℕ) (o : Option NodeValue) (move : NodeValue → NodeOutcome) → (more : List Frame) × ((moved w n o move).sent ≡ w.sent ++ more)
moved_more w n None move = ([], sym (append-nil w.sent))
moved_more w n (Some x) move = ((move x).1, refl)

pub sends_more : (w : WorldValue) (es : List WorldEvent) → (more : List Frame) × ((runs w es).sent ≡ w.sent ++ more)
sends_more w [] = ([], sym (append-nil w.sent))
sends_more w (e ∷ es) =
    let one = moved_more w (node_in e) (item w.nodes (node_in e)) (moves w.sent e) in
    let later = sends_more (happens w e) es in
    (one.0 ++ later.0, later.1 ∙ (ap (λ l. l ++ later.0) one.1 ∙ append_assoc w.sent one.0 later.0))

take_front : {X : Type 0} (d : ℕ) (xs ys : List X) → d ≤ length xs → take d (xs ++ ys) ≡ take d xs
take_front zero xs ys h = refl
take_front (suc d) [] ys h = absurd (omega arith)
take_front (suc d) (x ∷ xs) ys h = ap (λ l. x ∷ l) (take_front d xs ys (omega arith))

pub agreed_on : PrefixesAreJudgedAlike → (start : WorldValue) (xs ys : List WorldEvent) (x : NodeValue) → IsPrefix xs ys → IsAgreed (runs start xs).sent x → IsAgreed (runs start ys).sent x
agreed_on law start xs ys x pre is =
    let more = sends_more (runs start xs) pre.0 in
    let F = (runs start xs).sent in
    let sent : (runs start ys).sent ≡ F ++ more.0 = ap (λ l. (runs start l).sent) (sym pre.1) ∙ (ap (λ (w : WorldValue). w.sent) (runs_on start xs pre.0) ∙ more.1) in
    let grown = agreed_grows F more.0 in
    let all : agreed (runs start ys).sent ≡ agreed F ++ grown.0 = ap (λ l. agreed l) sent ∙ grown.1 in
    let d = x.ring.state.delivered in
    let long = length-append (agreed F) grown.0 in
    let reached : d ≤ length (agreed F ++ grown.0) = omega (arith, is.reached, long) in
    record {
      reached = subst (λ (l : List Entry). d ≤ length l) (sym all) reached;
      records = is.records ∙ (sym (law (agreed F) d) ∙ (ap (λ l. judged l) (sym (take_front d (agreed F) grown.0 is.reached)) ∙ (law (agreed F ++ grown.0) d ∙ ap (λ l. take d (judged l)) (sym all))));
    }

-- nodes that agree with the same frames judge alike
pub judges_alike : PrefixesAreJudgedAlike → (w : WorldValue) (x y : NodeValue) → IsAgreed w.sent x → IsAgreed w.sent y → JudgeAlike x y
judges_alike law w x y = judge_alike law w [] x y

-- each node of a new world is new
pub first_at : (b : Beginning) (n : ℕ) → 1 ≤ n → n ≤ b.settings.nodes → IsAt (first_world b) [] n (new_value b.settings n b.list)
first_at b zero low high = absurd (omega arith)
first_at b (suc k) low high =
    let N = b.settings.nodes in
    let long = length-up_to N in
    let there = item_there (up_to N) (suc k) low (omega (arith, high, long)) in
    item_map (λ m. new_value b.settings m b.list) (up_to N) (suc k) ∙ (ap (option_map (λ m. new_value b.settings m b.list)) there.1 ∙ ap (λ m. Some (new_value b.settings m b.list)) (up_to_at N k there.0 there.1))

-- each node of a world after a new one has its number and the world's list
pub stands_at : (start : WorldValue) (seen : List WorldEvent) (n : ℕ) (x : NodeValue) → IsNewWorld start → IsAt start seen n x → (x.ring.node ≡ n) × (x.list ≡ start.list)
stands_at start seen n x new at =
    let is : start ≡ new_world start.settings start.list = subst (λ (w : WorldValue). w ≡ new_world w.settings w.list) new.1 refl in
    let stands = (ring_reached (runs start seen) (reached_by start seen is)).numbered n x at in
    (stands.number, stands.list ∙ (same_on start seen).1)
