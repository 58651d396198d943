-- What an accepted visit finds at a ring, and what it leaves there.
use Rattle.std.proofs.Common.{◌≡◌, ℕ, zero, suc, ◌+◌, ◌-◌, ◌<◌, ◌≤◌, ◌^◌, List, ◌∷◌, ◌++◌, length, take, Option, Some, None, refl, sym, ap, ◌∙◌, subst, arith}
use Rattle.std.proofs.lemmas.List.{length-take-le}
use Rattle.cpg_ring.specs.States.{Entry, Packet, Token, HeldPlaces}
use Rattle.cpg_ring.specs.Visits.{burst_size, served, placed, next_token}
use Rattle.cpg_ring.specs.declared.visit.Visit.{Visit}
use Rattle.cpg_entry.specs.Ranges.{IsToken}
use Rattle.cpg_ring.specs.Laws.{AllHeld}
use Rattle.cpg_ring.specs.Kept.{newest_two}
use Rattle.cpg_ring.specs.Rings.{RingNode, IsRingNode, refusal_of, step_of, visit_of, visited}
use Rattle.cpg_ring.specs.Answers.{IsInRange}
use Rattle.cpg_ring.specs.Steps.{held_after}
use Rattle.cpg_ring.proofs.Amounts.{Accepted, accepted, visit_is}

-- what the parts of a visit require
pub record IsReady (x : RingNode) (t : Token) : Type 0 where
  pub ready : burst_size x.settings x.state t.seq ≤ length x.state.waiting
  pub room : t.seq + burst_size x.settings x.state t.seq ≤ x.settings.places
  pub fits : t.seq + burst_size x.settings x.state t.seq < 2 ^ 32
  pub hop : t.hop < 2 ^ 63
  pub delivered : x.state.delivered ≤ t.seq
  pub window : burst_size x.settings x.state t.seq ≤ x.state.delivered + 64 - t.seq

pub is_ready : (x : RingNode) (t : Token) → x.settings.places ≤ 1048576 → x.settings.hops ≤ 4611686018427387904 → AllHeld x.state.held x.state.delivered → refusal_of x t ≡ None → IsReady x t
is_ready x t places hops all none =
    let ok : Accepted x.settings x.state t = accepted x.settings x.node x.state t none in
    let seq = ok.seq in
    let hop = ok.hop in
    record {
      ready = omega arith;
      room = omega arith;
      fits = omega arith;
      hop = omega arith;
      delivered = low x.state.delivered all;
      window = omega arith;
    }
  where
    low : (d : ℕ) → AllHeld x.state.held d → d ≤ t.seq
    low zero all = omega arith
    low (suc d) all = (accepted x.settings x.node x.state t none).above (suc d) (all (suc d) (omega arith) (omega arith))

-- the parts make the visit
pub visit_made : (x : RingNode) (t next : Token) (first packets : List Packet) (count : ℕ) → IsReady x t → count ≡ burst_size x.settings x.state t.seq → first ≡ served x.settings x.state.held t.rtr → packets ≡ first ++ placed x.settings t.seq (take count x.state.waiting) → next ≡ next_token x.node t (t.seq + count) (held_after x t.seq count) x.state.delivered → let v : Visit = record { packets = packets; token = next } in v ≡ visit_of x t
visit_made x t next first packets count h c f p n = λ i. record { packets = (p ∙ λ j. f j ++ placed x.settings t.seq (take (c j) x.state.waiting)) i; token = (n ∙ (ap (λ k. next_token x.node t (t.seq + k) (held_after x t.seq k) x.state.delivered) c ∙ ap (λ m. next_token x.node t (t.seq + m) (held_after x t.seq (burst_size x.settings x.state t.seq)) x.state.delivered) (sym (length-take-le (burst_size x.settings x.state t.seq) x.state.waiting h.ready)))) i }

pub in_range : (x : RingNode) (t : Token) (v : Visit) → IsRingNode x.settings x.node → IsToken t → refusal_of x t ≡ None → v ≡ visit_of x t → IsInRange x.settings v
in_range x t v node range none is = subst (IsInRange x.settings) (sym is) (let w = visit_is x.settings x.node x.state t node.0 range none in record { token = w.token; seq = w.seq; hop = w.hop; packets = w.packets; places = node.0.places.1 })

-- one aru more, the newest
pub newest_first : (a : ℕ) (now before : Option ℕ) → newest_two (Some a) now ≡ take 2 (a ∷ newest_two now before)
newest_first a None before = refl
newest_first a (Some b) None = refl
newest_first a (Some b) (Some c) = refl

-- the ring after the visit, from its parts
pub visited_made : (x : RingNode) (t sent : Token) (held : HeldPlaces) (delivered : ℕ) (waiting : List Entry) (arus : List ℕ) → sent ≡ (step_of x t).token → held ≡ (step_of x t).held → delivered ≡ x.state.delivered → waiting ≡ (step_of x t).rest → arus ≡ take 2 ((step_of x t).token.aru ∷ x.state.arus) → let y : RingNode = record { settings = x.settings; node = x.node; state = record { last_hop = Some t.hop; last_token = Some sent; held = held; delivered = delivered; waiting = waiting; arus = arus } } in y ≡ visited x t
visited_made x t sent held delivered waiting arus a b e c d = λ i. record { settings = x.settings; node = x.node; state = record { last_hop = Some t.hop; last_token = Some (a i); held = b i; delivered = e i; waiting = c i; arus = d i } }
