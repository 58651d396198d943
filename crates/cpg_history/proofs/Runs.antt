-- What an event leaves as it was.
use Rattle.std.proofs.Common.{◌≡◌, ◌≢◌, ℕ, zero, suc, List, [], ◌∷◌, ◌++◌, set, slice_get, Option, Some, None, refl, sym, ap, ◌∙◌, append_assoc}
use mathlib.Core.List.{IsPrefix}
use Rattle.std.proofs.lemmas.List.{append-nil}
use Rattle.std.proofs.lemmas.Option.{none-some}
use Rattle.cpg_world_laws.specs.declared.events.WorldEvent.{WorldEvent}
use Rattle.cpg_ring.specs.Worlds.{item, with_item}
use Rattle.cpg_ring.specs.States.{Frame}
use Rattle.cpg_node.specs.Nodes.{NodeValue}
use Rattle.cpg_world_laws.specs.Worlds.{WorldValue, NodeOutcome, moves, moved, node_in, happens, runs}

pub runs_on : (w : WorldValue) (a b : List WorldEvent) → runs w (a ++ b) ≡ runs (runs w a) b
runs_on w [] b = refl
runs_on w (e ∷ a) b = runs_on (happens w e) a b

set_other : {X : Type 0} (xs : List X) (i j : ℕ) (y : X) → j ≢ i → slice_get (set xs i y) j ≡ slice_get xs j
set_other [] i j y apart = refl
set_other (x ∷ xs) zero zero y apart = absurd (apart refl)
set_other (x ∷ xs) zero (suc j) y apart = refl
set_other (x ∷ xs) (suc i) zero y apart = refl
set_other (x ∷ xs) (suc i) (suc j) y apart = set_other xs i j y (λ e. apart (ap suc e))

pub item_other : {X : Type 0} (xs : List X) (n m : ℕ) (y : X) → m ≢ n → item (with_item xs n y) m ≡ item xs m
item_other xs zero m y apart = refl
item_other xs (suc i) zero y apart = refl
item_other xs (suc i) (suc j) y apart = set_other xs i j y (λ e. apart (ap suc e))

moved_other : (w : WorldValue) (n m : ℕ) (o : Option NodeValue) (move : NodeValue → NodeOutcome) → m ≢ n → item (moved w n o move).nodes m ≡ item w.nodes m
moved_other w n m None move apart = refl
moved_other w n m (Some x) move apart = item_other w.nodes n m (move x).0 apart

-- the nodes that an event is not for stay as they are
pub happens_other : (w : WorldValue) (e : WorldEvent) (m : ℕ) → m ≢ node_in e → item (happens w e).nodes m ≡ item w.nodes m
happens_other w e m apart = moved_other w (node_in e) m (item w.nodes (node_in e)) (moves w.sent e) apart

-- what was sent, stays
get_front : {X : Type 0} (xs ys : List X) (k : ℕ) (x : X) → slice_get xs k ≡ Some x → slice_get (xs ++ ys) k ≡ Some x
get_front [] ys k x is = absurd (none-some x is)
get_front (z ∷ xs) ys zero x is = is
get_front (z ∷ xs) ys (suc k) x is = get_front xs ys k x is

pub item_front : {X : Type 0} (xs ys : List X) (k : ℕ) (x : X) → item xs k ≡ Some x → item (xs ++ ys) k ≡ Some x
item_front xs ys zero x is = absurd (none-some x is)
item_front xs ys (suc k) x is = get_front xs ys k x is

moved_sends : (w : WorldValue) (n : ℕ) (o : Option NodeValue) (move : NodeValue → NodeOutcome) (k : ℕ) (f : Frame) → item w.sent k ≡ Some f → item (moved w n o move).sent k ≡ Some f
moved_sends w n None move k f is = is
moved_sends w n (Some x) move k f is = item_front w.sent (move x).1 k f is

pub runs_sends : (w : WorldValue) (es : List WorldEvent) (k : ℕ) (f : Frame) → item w.sent k ≡ Some f → item (runs w es).sent k ≡ Some f
runs_sends w [] k f is = is
runs_sends w (e ∷ es) k f is = runs_sends (happens w e) es k f (moved_sends w (node_in e) (item w.nodes (node_in e)) (moves w.sent e) k f is)

-- what was sent by the end of a beginning was sent by the end
pub prefix_sends : (start : WorldValue) (xs ys : List WorldEvent) (k : ℕ) (f : Frame) → IsPrefix xs ys → item (runs start xs).sent k ≡ Some f → item (runs start ys).sent k ≡ Some f
prefix_sends start xs ys k f pre is = ap (λ l. item (runs start l).sent k) (sym pre.1) ∙ (ap (λ (w : WorldValue). item w.sent k) (runs_on start xs pre.0) ∙ runs_sends (runs start xs) pre.0 k f is)

pub prefix_self : {A : Type 0} (xs : List A) → IsPrefix xs xs
prefix_self xs = ([], append-nil xs)

pub prefix_on : {A : Type 0} (xs ys zs : List A) → IsPrefix xs ys → IsPrefix xs (ys ++ zs)
prefix_on xs ys zs p = (p.0 ++ zs, sym (append_assoc xs p.0 zs) ∙ ap (λ l. l ++ zs) p.1)
