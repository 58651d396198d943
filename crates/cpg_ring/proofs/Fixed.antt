-- What is held stays, and what a visit sends was the node's.
use Rattle.std.proofs.Common.{◌≡◌, ℕ, zero, suc, ◌≤◌, List, [], ◌∷◌, take, Option, Some, None, Contains, refl, ◌∙◌, inl, inr, arith}
use Rattle.std.specs.List.{All, AllByRecursion, cons_option}
use Rattle.std.specs.Option.{option_map}
use Rattle.std.specs.FinMap.{get, insert}
use Rattle.std.proofs.lemmas.List.Elements.{All-from_recursion, All-append, recursion_from_All, Contains-get_or}
use Rattle.cpg_ring.specs.States.{Entry, Packet, Token, Settings, HeldPlaces, NodeState}
use Rattle.cpg_ring.specs.Visits.{token_refusal, served, placed, hold_all, burst_size, visit_step}
use Rattle.cpg_ring.specs.Moves.{data_refusal, after_data}
use Rattle.cpg_ring.specs.Laws.{StaysHeld, IsOwnPacket}
use Rattle.cpg_ring.proofs.Holding.{put_other, put_grows}
use Rattle.cpg_ring.proofs.Amounts.{accepted}
use Rattle.cpg_ring.proofs.Rings.{data_accepted}

burst_stays : (s : Settings) (held : HeldPlaces) (seq : ℕ) (now : List Entry) (place : ℕ) (e : Entry) → place ≤ seq → get held place ≡ Some e → get (hold_all held (placed s seq now)) place ≡ Some e
burst_stays s held seq [] place e l g = g
burst_stays s held seq (x ∷ now) place e l g = burst_stays s (insert held (suc seq) x) (suc seq) now place e (omega arith) (put_other held (suc seq) x place (λ (same : place ≡ suc seq). omega arith) ∙ g)

pub visit_stays : (s : Settings) (n : ℕ) (r : NodeState) (t : Token) → token_refusal s n r t ≡ None → StaysHeld r.held (visit_step s n r t).held
visit_stays s n r t none place e g = burst_stays s r.held t.seq (take (burst_size s r t.seq) r.waiting) place e ((accepted s n r t none).above place (e, g)) g

pub data_stays : (s : Settings) (r : NodeState) (p : Packet) → data_refusal s r p ≡ None → StaysHeld r.held (after_data r p).held
data_stays s r p none place e g = (put_grows r.held p.place p.entry (data_accepted s r p none).1).at place e g

module _ (s : Settings) (r : NodeState) where
  served_own : (asked : List ℕ) → AllByRecursion (IsOwnPacket s r) (served s r.held asked)
  served_own [] = tt
  served_own (place ∷ asked) = one (get r.held place) refl (served_own asked)
    where
      one : (o : Option Entry) → get r.held place ≡ o → AllByRecursion (IsOwnPacket s r) (served s r.held asked) → AllByRecursion (IsOwnPacket s r) (cons_option (option_map (λ e. record { ring = s.ring; place = place; entry = e }) o) (served s r.held asked))
      one None is more = more
      one (Some e) is more = ((refl, inl is), more)

  placed_own : (seq k : ℕ) (es : List Entry) → AllByRecursion (λ e. Contains r.waiting e) es → AllByRecursion (IsOwnPacket s r) (placed s seq (take k es))
  placed_own seq zero es h = tt
  placed_own seq (suc k) [] h = tt
  placed_own seq (suc k) (e ∷ es) h = ((refl, inr h.0), placed_own (suc seq) k es h.1)

  pub visit_own : (n : ℕ) (t : Token) → All (IsOwnPacket s r) (visit_step s n r t).packets
  visit_own n t = All-append (IsOwnPacket s r) (served s r.held t.rtr) (placed s t.seq (take (burst_size s r t.seq) r.waiting))
      (All-from_recursion (IsOwnPacket s r) _ (served_own t.rtr))
      (All-from_recursion (IsOwnPacket s r) _ (placed_own t.seq (burst_size s r t.seq) r.waiting (recursion_from_All (λ e. Contains r.waiting e) r.waiting (λ k d h. Contains-get_or r.waiting k d h))))
