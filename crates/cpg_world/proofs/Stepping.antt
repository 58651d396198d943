-- What one step at a node makes of a world.
use Rattle.std.proofs.Common.{◌≡◌, ◌⊎◌, ℕ, zero, suc, ◌-◌, ◌≤◌, List, ◌++◌, length, get_or, set, Some, Ok, Err, refl, sym, ap, ◌∙◌, subst, inl, inr, ⊎_elim, arith}
use Rattle.std.proofs.lemmas.Option.{slice_get-get_or}
use Rattle.cpg_cred.specs.declared.refusals.Refusal.TheVariants as refusal
use Rattle.cpg_ring.specs.States.{Frame}
use Rattle.cpg_ring.specs.Worlds.{item, with_item}
use Rattle.cpg_node.specs.Nodes.{NodeValue}
use Rattle.cpg_world_laws.specs.declared.events.WorldEvent.{WorldEvent}
use Rattle.cpg_world_laws.specs.Worlds.{WorldValue, moves, moved, node_in, happens, Reached}
use Rattle.cpg_world_laws.specs.Replies.{Answer, IsAnswerAt, IsAnswerOf}
use Rattle.cpg_world_laws.proofs.Lists.{with_as}
use Rattle.cpg_world_laws.proofs.Reached.{reached_on}
use Rattle.cpg_world.specs.Kept.{IsMet}
use Rattle.cpg_world.specs.Runs.{IsStep, MayGrow, MayGrowAt}

pub met_cases : (sent : List Frame) (e : WorldEvent) (x : NodeValue) (a : Answer) (y : NodeValue) (later : List Frame) → IsMet sent e x a y later →
    ((a ≡ Err refusal.Memory) × (y ≡ x) × (later ≡ sent)) ⊎ (IsAnswerAt sent e x a × (y ≡ (moves sent e x).0) × (later ≡ sent ++ (moves sent e x).1))
met_cases sent e x (Ok r) y later h = inr h
met_cases sent e x (Err refusal.Memory) y later h = inl (refl, h.0, h.1)
met_cases sent e x (Err refusal.Access) y later h = inr h
met_cases sent e x (Err refusal.NoConnection) y later h = inr h
met_cases sent e x (Err refusal.BadName) y later h = inr h
met_cases sent e x (Err refusal.TooLong) y later h = inr h
met_cases sent e x (Err refusal.QueueFull) y later h = inr h
met_cases sent e x (Err refusal.ConnectionsFull) y later h = inr h
met_cases sent e x (Err refusal.Foreign) y later h = inr h
met_cases sent e x (Err refusal.NotMine) y later h = inr h
met_cases sent e x (Err refusal.Stale) y later h = inr h
met_cases sent e x (Err refusal.Implausible) y later h = inr h
met_cases sent e x (Err refusal.Held) y later h = inr h
met_cases sent e x (Err refusal.FarAhead) y later h = inr h
met_cases sent e x (Err refusal.Malformed) y later h = inr h
met_cases sent e x (Err refusal.RingEnd) y later h = inr h
met_cases sent e x (Err refusal.NoFrame) y later h = inr h
met_cases sent e x (Err refusal.Differs) y later h = inr h
met_cases sent e x (Err refusal.BoardFull) y later h = inr h
met_cases sent e x (Err (refusal.Behind n)) y later h = inr h
met_cases sent e x (Err refusal.Stopped) y later h = inr h
met_cases sent e x (Err (refusal.Denied n)) y later h = inr h
met_cases sent e x (Err (refusal.BadLine n)) y later h = inr h
met_cases sent e x (Err (refusal.Unopened n)) y later h = inr h
met_cases sent e x (Err refusal.Unclosed) y later h = inr h
met_cases sent e x (Err (refusal.BadItem n)) y later h = inr h
met_cases sent e x (Err (refusal.BadValue n)) y later h = inr h
met_cases sent e x (Err (refusal.UnknownName n)) y later h = inr h
met_cases sent e x (Err refusal.Range) y later h = inr h
met_cases sent e x (Err (refusal.BadCommand n)) y later h = inr h
met_cases sent e x (Err refusal.Read) y later h = inr h
met_cases sent e x (Err refusal.Write) y later h = inr h

-- the world where one node and the frames sent are as given
abbrev pub with_move : WorldValue → ℕ → NodeValue → List Frame → WorldValue
with_move w n y later = record { settings = w.settings; list = w.list; nodes = with_item w.nodes n y; sent = later }

pub record Stepped (w : WorldValue) (e : WorldEvent) (a : Answer) (after : WorldValue) : Type 0 where
  pub step : IsStep w e a after
  pub reached : Reached after

pub stepped : (w : WorldValue) (e : WorldEvent) (a : Answer) (x y : NodeValue) (later : List Frame) → Reached w → item w.nodes (node_in e) ≡ Some x → IsMet w.sent e x a y later → Stepped w e a (with_move w (node_in e) y later)
stepped w e a x y later reached is met = ⊎_elim memory moves_on (met_cases w.sent e x a y later met)
  where
    after : WorldValue
    after = with_move w (node_in e) y later

    unmoved : (y ≡ x) × (later ≡ w.sent) → after ≡ w
    unmoved h = ap (λ z. with_move w (node_in e) z later) h.0 ∙ (ap (with_move w (node_in e) x) h.1 ∙ ap (λ (nodes : List NodeValue). let world : WorldValue = record { settings = w.settings; list = w.list; nodes = nodes; sent = w.sent } in world) (with_as w.nodes (node_in e) x is))

    refused : a ≡ Err refusal.Memory → (after ≡ w) × MayGrowAt w.sent e (item w.nodes (node_in e))
    refused m =
        let h : (y ≡ x) × (later ≡ w.sent) × MayGrow w.sent e x = subst (λ z. IsMet w.sent e x z y later) m met in
        (unmoved (h.0, h.1), subst (MayGrowAt w.sent e) (sym is) h.2)

    memory : (a ≡ Err refusal.Memory) × (y ≡ x) × (later ≡ w.sent) → Stepped w e a after
    memory h = record { step = record { refused = refused; happened = λ other. absurd (other h.0) }; reached = subst Reached (sym (unmoved (h.1, h.2))) reached }

    moves_on : IsAnswerAt w.sent e x a × (y ≡ (moves w.sent e x).0) × (later ≡ w.sent ++ (moves w.sent e x).1) → Stepped w e a after
    moves_on h =
        let same : after ≡ happens w e = ap (λ z. with_move w (node_in e) z later) h.1 ∙ (ap (with_move w (node_in e) (moves w.sent e x).0) h.2 ∙ sym (ap (λ o. moved w (node_in e) o (moves w.sent e)) is)) in
        record { step = record { refused = refused; happened = λ other. (subst (λ o. IsAnswerOf w.sent e o a) (sym is) h.0, same) }; reached = subst Reached (sym same) (reached_on w e reached) }

pub set_is : {X : Type 0} (xs : List X) (n : ℕ) (y : X) → 1 ≤ n → set xs (n - 1) y ≡ with_item xs n y
set_is xs zero y h = absurd (omega arith)
set_is xs (suc i) y h = ap (λ k. set xs k y) (less i)
  where
    less : (i : ℕ) → suc i - 1 ≡ i
    less i = omega arith

pub item_is : {X : Type 0} (xs : List X) (n : ℕ) (x : X) → 1 ≤ n → n ≤ length xs → get_or xs (n - 1) x ≡ x → item xs n ≡ Some x
item_is xs zero x h l e = absurd (omega arith)
item_is xs (suc i) x h l e = slice_get-get_or xs i x l ∙ ap Some (ap (λ k. get_or xs k x) (sym (less i)) ∙ e)
  where
    less : (i : ℕ) → suc i - 1 ≡ i
    less i = omega arith
