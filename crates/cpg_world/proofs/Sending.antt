-- Frames that are sent are read again.
use Rattle.std.proofs.Common.{◌≡◌, ℕ, List, [], ◌∷◌, ◌++◌, length, All, Option, Some, None, IfSome, refl, sym, ap, ◌∙◌, subst, option_map}
use Rattle.std.specs.List.{AllByRecursion, cons_option}
use Rattle.std.proofs.lemmas.Option.{none-some, same_Some}
use Rattle.std.proofs.lemmas.List.{map-append}
use Rattle.std.proofs.lemmas.List.Elements.{filter_map-append, recursion_from_All, All-from_recursion, All-append}
use Rattle.cpg_rules.specs.declared.rules.Rule.{Rule}
use Rattle.cpg_entry.specs.declared.frames.Frame.TheVariants as frame
use Rattle.cpg_wire.specs.declared.codes.Version.{Version}
use Rattle.cpg_wire.specs.declared.codes.Version.TheVariants.{Two}
use Rattle.cpg_entry.specs.Ranges.{IsFrame}
use Rattle.cpg_entry.specs.Widths.{FrameFits}
use Rattle.cpg_wire.specs.Versions.{Fits, HasRoom, rule_in}
use Rattle.cpg_wire.specs.Reading.{frame_of}
use Rattle.cpg_wire.specs.Spelling.{spelling}
use Rattle.cpg_ring.specs.States.{Frame, Token}
use Rattle.cpg_ring.specs.Worlds.{send_again}
use Rattle.cpg_node.specs.Nodes.{NodeValue}
use Rattle.cpg_node.specs.Answers.{spelled, CanBeSpelled}
use Rattle.cpg_world.specs.Kept.{frames_of, AreSpelled}

-- what the codec promises: a frame's spelling is read again
abbrev pub ReadAgain : Type 0
ReadAgain = (version : Version) (f : Frame) → IsFrame f → FrameFits f → Fits version f → frame_of (spelling version f) ≡ Some f

pub fits_two : (f : Frame) → Fits Two f
fits_two (frame.Token t) = tt
fits_two (frame.Packet p) = by_rule (rule_in p.entry.op)
  where
    by_rule : (o : Option Rule) → IfSome o (λ rule. HasRoom Two rule.who)
    by_rule None = tt
    by_rule (Some rule) = tt

frames_back : ReadAgain → (fs : List Frame) → AllByRecursion CanBeSpelled fs → frames_of (spelled fs) ≡ fs
frames_back law [] range = refl
frames_back law (f ∷ fs) range = ap (λ o. cons_option o (frames_of (spelled fs))) (law Two f range.0.0 range.0.1 (fits_two f)) ∙ ap (λ l. f ∷ l) (frames_back law fs range.1)

pub record Sent (sent later : List (List ℕ)) (fs : List Frame) : Type 0 where
  pub frames : frames_of later ≡ frames_of sent ++ fs
  pub spelled : AreSpelled later

-- more frames are sent
pub sends : ReadAgain → (sent later : List (List ℕ)) (fs : List Frame) → AreSpelled sent → All CanBeSpelled fs → later ≡ sent ++ spelled fs → Sent sent later fs
sends law sent later fs old range is = record {
  frames = frames;
  spelled = record {
    spelled = is ∙ (ap (λ l. l ++ spelled fs) old.spelled ∙ (sym (map-append (spelling Two) (frames_of sent) fs) ∙ ap (λ l. spelled l) (sym frames)));
    range = subst (All CanBeSpelled) (sym frames) (All-append CanBeSpelled (frames_of sent) fs old.range range);
  };
}
  where
    frames : frames_of later ≡ frames_of sent ++ fs
    frames = ap frames_of is ∙ (filter_map-append frame_of sent (spelled fs) ∙ ap (λ l. frames_of sent ++ l) (frames_back law fs (recursion_from_All CanBeSpelled fs range)))

-- what a timer sends again
pub timer_sends : ReadAgain → (x : NodeValue) (sent : List (List ℕ)) (bytes : List ℕ) (later : List (List ℕ)) → AreSpelled sent → Some bytes ≡ option_map (λ t. spelling Two (frame.Token t)) x.ring.state.last_token → IfSome x.ring.state.last_token (λ t. CanBeSpelled (frame.Token t)) → later ≡ sent ++ bytes ∷ [] → Sent sent later (send_again x.ring.state x.ring.state.last_token).1 × (length (send_again x.ring.state x.ring.state.last_token).1 ≡ 1)
timer_sends law x sent bytes later old is range more = by_token x.ring.state.last_token is range
  where
    by_token : (o : Option Token) → Some bytes ≡ option_map (λ t. spelling Two (frame.Token t)) o → IfSome o (λ t. CanBeSpelled (frame.Token t)) → Sent sent later (send_again x.ring.state o).1 × (length (send_again x.ring.state o).1 ≡ 1)
    by_token None is range = absurd (none-some bytes (sym is))
    by_token (Some t) is range = (sends law sent later (frame.Token t ∷ []) old (All-from_recursion CanBeSpelled (frame.Token t ∷ []) (range, tt)) (more ∙ ap (λ b. sent ++ b ∷ []) (same_Some bytes (spelling Two (frame.Token t)) is)), refl)
