-- Tokens.
use Rattle.std.proofs.Common.{◌≡◌, ℕ, zero, suc, ◌+◌, ◌^◌, ◌<◌, ◌≤◌, List, [], ◌∷◌, ◌++◌, length, Option, Some, None, refl, sym, ap, subst, ◌∙◌, append_assoc, arith}
use Rattle.std.specs.Prelude.{IfSome}
use Rattle.std.specs.List.{flat_map}
use Rattle.byteorder.specs.Endian.{big_bytes}
use Rattle.cpg_entry.specs.declared.frames.Token.{Token}
use Rattle.cpg_entry.specs.declared.ranges.TheConstants.{MOST_HOPS, MOST_PLACES, MOST_REQUESTS}
use Rattle.cpg_entry.specs.Ranges.{Within, Ascends, IsToken}
use Rattle.cpg_entry.specs.Widths.{IsU32, IsNode, TokenFits}
use Rattle.cpg_wire.specs.Spelling.{owner_code, places_bytes, token_bytes}
use Rattle.cpg_wire.specs.Reading.{◌>>=◌, number_at, u8_at, extent_at, owner_of, owner_at, places_at, rtr_at, token_at}
use Rattle.cpg_wire.proofs.Readers.{IsBytes, bind_some, some_is, Takes, Takes-then, ReadsBack, reads1, reads2, reads4, reads_then}
use Rattle.cpg_wire.proofs.ReadsNumbers.{number_reads, u8_reads}

abbrev pub IsExtent : ℕ × ℕ → Type 0
IsExtent p = Within 0 MOST_PLACES p.0 × Within 0 p.0 p.1

abbrev pub extent_text : ℕ × ℕ → List ℕ
extent_text p = big_bytes 4 p.0 ++ big_bytes 4 p.1

pub extent_reads : ReadsBack (ℕ × ℕ) extent_at extent_text IsExtent
unfolding extent_at
extent_reads = reads2 ℕ ℕ (ℕ × ℕ) (number_at 4 0 MOST_PLACES) (big_bytes 4) (Within 0 MOST_PLACES) (number_reads 4 0 MOST_PLACES (omega arith))
    (λ seq. number_at 4 0 seq) (λ seq. big_bytes 4) (λ seq. Within 0 seq) (λ seq h. number_reads 4 0 seq (omega (arith, h.1)))
    (λ a b. (a, b)) extent_text IsExtent (λ a b h k. (refl, (h, k))) (λ p h. (p.0, p.1, refl, h.0, h.1))

owner_text : (n : ℕ) → owner_code (owner_of n) ≡ n
owner_text zero = refl
owner_text (suc n) = refl

owner_is : (n : ℕ) → Within 0 8 n → IfSome (owner_of n) IsNode
owner_is zero h = tt
owner_is (suc n) h = (omega arith, h.1)

owner_parts : (o : Option ℕ) → IfSome o IsNode → (n : ℕ) × (owner_of n ≡ o) × Within 0 8 n
owner_parts None h = (0, refl, (omega arith, omega arith))
owner_parts (Some zero) h = absurd (omega (arith, h.0))
owner_parts (Some (suc n)) h = (suc n, refl, (omega arith, h.1))

pub owner_reads : ReadsBack (Option ℕ) owner_at (λ o. owner_code o ∷ []) (λ o. IfSome o IsNode)
unfolding owner_at
owner_reads = reads1 ℕ (Option ℕ) (u8_at 0 8) (λ n. n ∷ []) (Within 0 8) (u8_reads 0 8) owner_of (λ o. owner_code o ∷ []) (λ o. IfSome o IsNode)
    (λ n h. (ap (λ (m : ℕ). m ∷ []) (owner_text n), owner_is n h)) owner_parts

places_take : (count low high : ℕ) (bytes : List ℕ) (x : List ℕ × List ℕ) → high < 256 ^ 4 → IsBytes bytes → places_at count low high bytes ≡ Some x → Takes bytes (flat_map (big_bytes 4) x.0) x.1 × ((length x.0 ≡ count) × Ascends low high x.0)
unfolding places_at
places_take zero low high bytes x lt fits e =
    subst (λ (y : List ℕ × List ℕ). Takes bytes (flat_map (big_bytes 4) y.0) y.1 × ((length y.0 ≡ 0) × Ascends low high y.0)) (some_is ([], bytes) x e) (record { parts = refl; rest_fits = fits }, (refl, tt))
places_take (suc count) low high bytes x lt fits e =
    let p = bind_some (number_at 4 (low + 1) high bytes) (λ n. places_at count n.0 high n.1 >>= λ others. Some (n.0 ∷ others.0, others.1)) x e in
    let q = bind_some (places_at count p.0.0 high p.0.1) (λ others. Some (p.0.0 ∷ others.0, others.1)) x p.2 in
    let first = (number_reads 4 (low + 1) high lt).takes bytes p.0 fits p.1 in
    let second = places_take count p.0.0 high p.0.1 q.0 lt first.0.rest_fits q.1 in
    let both = Takes-then bytes (big_bytes 4 p.0.0) p.0.1 (flat_map (big_bytes 4) q.0.0) q.0.1 first.0 second.0 in
    let made : List ℕ × List ℕ = (p.0.0 ∷ q.0.0, q.0.1) in
    let above : low < p.0.0 = omega (arith, first.1.0) in
    subst (λ (y : List ℕ × List ℕ). Takes bytes (flat_map (big_bytes 4) y.0) y.1 × ((length y.0 ≡ suc count) × Ascends low high y.0)) (some_is made x q.2) (both, (ap suc second.1.0, (above, first.1.1, second.1.1)))

places_again : (ns : List ℕ) (low high : ℕ) (rest : List ℕ) → high < 256 ^ 4 → Ascends low high ns → places_at (length ns) low high (flat_map (big_bytes 4) ns ++ rest) ≡ Some (ns, rest)
unfolding places_at
places_again [] low high rest lt h = refl
places_again (n ∷ ns) low high rest lt h =
    let here : Within (low + 1) high n = (omega (arith, h.0), h.1) in
    let one = (number_reads 4 (low + 1) high lt).again n (flat_map (big_bytes 4) ns ++ rest) here in
    let two = places_again ns n high rest lt h.2 in
    let regrouped : flat_map (big_bytes 4) (n ∷ ns) ++ rest ≡ big_bytes 4 n ++ (flat_map (big_bytes 4) ns ++ rest) = append_assoc (big_bytes 4 n) (flat_map (big_bytes 4) ns) rest in
    ap (places_at (suc (length ns)) low high) regrouped
    ∙ (ap (λ (o : Option (ℕ × List ℕ)). o >>= λ n. places_at (length ns) n.0 high n.1 >>= λ others. Some (n.0 ∷ others.0, others.1)) one
    ∙ ap (λ (o : Option (List ℕ × List ℕ)). o >>= λ others. Some (n ∷ others.0, others.1)) two)

places_reads : (count high : ℕ) → high < 256 ^ 4 → ReadsBack (List ℕ) (places_at count 0 high) (flat_map (big_bytes 4)) (λ ns. (length ns ≡ count) × Ascends 0 high ns)
places_reads count high lt = record {
  takes = λ bytes x fits e. places_take count 0 high bytes x lt fits e;
  again = λ ns rest h. subst (λ (k : ℕ). places_at k 0 high (flat_map (big_bytes 4) ns ++ rest) ≡ Some (ns, rest)) h.0 (places_again ns 0 high rest lt h.1);
}

abbrev pub IsRtr : ℕ → List ℕ → Type 0
IsRtr seq ns = (length ns ≤ MOST_REQUESTS) × Ascends 0 seq ns

pub rtr_reads : (seq : ℕ) → seq < 256 ^ 4 → ReadsBack (List ℕ) (rtr_at seq) places_bytes (IsRtr seq)
unfolding rtr_at
rtr_reads seq lt = reads_then ℕ (List ℕ) (u8_at 0 MOST_REQUESTS) (λ n. n ∷ []) (Within 0 MOST_REQUESTS) (u8_reads 0 MOST_REQUESTS)
    (λ n. places_at n 0 seq) (flat_map (big_bytes 4)) (λ n ns. (length ns ≡ n) × Ascends 0 seq ns) (λ n h. places_reads n seq lt) places_bytes (IsRtr seq)
    (λ n ns h k. (ap (λ (m : ℕ). m ∷ flat_map (big_bytes 4) ns) k.0, (omega (arith, h.1, k.0), k.1)))
    (λ ns h. (length ns, (omega arith, h.0), (refl, h.1)))

pub token_reads : (ring : ℕ) → IsU32 ring → ReadsBack Token (token_at ring) token_bytes (λ t. (t.ring ≡ ring) × (IsToken t × TokenFits t))
unfolding token_at
token_reads ring fits = reads4 ℕ (ℕ × ℕ) (Option ℕ) (List ℕ) Token
    (number_at 8 0 MOST_HOPS) (big_bytes 8) (Within 0 MOST_HOPS) (number_reads 8 0 MOST_HOPS (omega arith))
    extent_at extent_text IsExtent extent_reads
    owner_at (λ o. owner_code o ∷ []) (λ o. IfSome o IsNode) owner_reads
    (λ p. rtr_at p.0) places_bytes (λ p. IsRtr p.0) (λ p h. rtr_reads p.0 (omega (arith, h.0.1)))
    (λ hop p o ns. record { ring = ring; hop = hop; seq = p.0; aru = p.1; aru_id = o; rtr = ns }) token_bytes (λ t. (t.ring ≡ ring) × (IsToken t × TokenFits t))
    (λ hop p o ns h k l m. (refl, (refl, (record { hop = h.1; seq = k.0.1; aru = k.1.1; count = m.0; rtr = m.1 }, record { ring = fits; aru_id = l }))))
    (λ t h. (t.hop, (t.seq, t.aru), t.aru_id, t.rtr, ap (λ (r : ℕ). record { ring = r; hop = t.hop; seq = t.seq; aru = t.aru; aru_id = t.aru_id; rtr = t.rtr }) (sym h.0), (omega arith, h.1.0.hop), ((omega arith, h.1.0.seq), (omega arith, h.1.0.aru)), h.1.1.aru_id, (h.1.0.count, h.1.0.rtr)))
