-- What an event sends, stands among the frames sent.
use Rattle.std.proofs.Common.{◌≡◌, ℕ, zero, suc, ◌+◌, List, [], ◌∷◌, ◌++◌, length, All, Option, Some, None, option_map, slice_get, refl, sym, ap, ◌∙◌, subst, arith}
use Rattle.std.proofs.lemmas.Option.{none-some, same_Some, slice_get-map, slice_get_within, get_or_from_slice_get}
use Rattle.cpg_wire.specs.declared.codes.Version.TheVariants.{Two}
use Rattle.cpg_wire.specs.Reading.{frame_of}
use Rattle.cpg_wire.specs.Spelling.{spelling}
use Rattle.cpg_ring.specs.States.{Frame}
use Rattle.cpg_ring.specs.Worlds.{item}
use Rattle.cpg_node.specs.Answers.{spelled, CanBeSpelled}
use Rattle.cpg_world_laws.specs.declared.events.WorldEvent.{WorldEvent}
use Rattle.cpg_world_laws.specs.Worlds.{WorldValue, runs}
use Rattle.cpg_history.specs.Members.{WereSent, WasSent, before_last}
use Rattle.cpg_history.proofs.Reading.{ReadAgain, fits_two}

pub last_off : {X : Type 0} (xs : List X) (x : X) → before_last (xs ++ x ∷ []) ≡ xs
last_off [] x = refl
last_off (y ∷ []) x = refl
last_off (y ∷ z ∷ xs) x = ap (λ l. y ∷ l) (last_off (z ∷ xs) x)

get_behind : {X : Type 0} (xs ys : List X) (i k : ℕ) → k ≡ length xs + i → slice_get (xs ++ ys) k ≡ slice_get ys i
get_behind [] ys i k is = let same : k ≡ i = omega (arith, is) in ap (slice_get ys) same
get_behind (x ∷ xs) ys i zero is = absurd (omega (arith, is))
get_behind (x ∷ xs) ys i (suc k) is = get_behind xs ys i k (omega (arith, is))

item_behind : {X : Type 0} (xs ys : List X) (i k : ℕ) → k ≡ suc (length xs) + i → item (xs ++ ys) k ≡ slice_get ys i
item_behind xs ys i zero is = absurd (omega (arith, is))
item_behind xs ys i (suc k) is = get_behind xs ys i k (omega (arith, is))

-- the frames that come behind those before
pub all_stand : ReadAgain → (start : WorldValue) (log seen : List WorldEvent) (fs : List Frame) (frames : List (List ℕ)) → (runs start seen).sent ≡ (runs start log).sent ++ fs → frames ≡ spelled fs → All CanBeSpelled fs → WereSent start seen (suc (length (runs start log).sent)) frames
all_stand law start log seen fs frames sent is range i bytes at = by_frame (slice_get fs i) refl
  where
    mapped : option_map (spelling Two) (slice_get fs i) ≡ Some bytes
    mapped = sym (slice_get-map (spelling Two) fs i) ∙ (ap (λ l. slice_get l i) (sym is) ∙ at)

    by_frame : (o : Option Frame) → slice_get fs i ≡ o → WasSent start seen (suc (length (runs start log).sent) + i) bytes
    by_frame None none = absurd (none-some bytes (sym (ap (option_map (spelling Two)) none) ∙ mapped))
    by_frame (Some f) there =
        let can : CanBeSpelled f = subst CanBeSpelled (get_or_from_slice_get fs i f f there) (range i f (slice_get_within fs i f there)) in
        let made : spelling Two f ≡ bytes = same_Some (spelling Two f) bytes (sym (ap (option_map (spelling Two)) there) ∙ mapped) in
        record {
          frame = f;
          reads = ap frame_of (sym made) ∙ law Two f can.0 can.1 (fits_two f);
          sent = ap (λ l. item l (suc (length (runs start log).sent) + i)) sent ∙ (item_behind (runs start log).sent fs i (suc (length (runs start log).sent) + i) refl ∙ there);
        }
