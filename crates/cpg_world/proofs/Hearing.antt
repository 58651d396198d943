-- A frame that comes.
use Rattle.std.proofs.Common.{◌≡◌, ℕ, zero, suc, ◌-◌, ◌<◌, ◌≤◌, List, [], ◌++◌, length, get_or, Option, Some, None, IsSome, Ok, Err, refl, sym, ap, ◌∙◌, subst, option_map, arith, slice_get, append-nil}
use Rattle.std.proofs.lemmas.Option.{none-some, same_Some, slice_get-get_or, slice_get-map, slice_get_past, slice_get_within, get_or_from_slice_get}
use Rattle.std.proofs.lemmas.List.{length-map}
use Rattle.cpg_cred.specs.declared.refusals.Refusal.{Refusal}
use Rattle.cpg_cred.specs.declared.refusals.Refusal.TheVariants as refusal
use Rattle.cpg_wire.specs.declared.codes.Version.TheVariants.{Two}
use Rattle.cpg_wire.specs.Reading.{frame_of}
use Rattle.cpg_wire.specs.Spelling.{spelling}
use Rattle.cpg_ring.specs.States.{Frame}
use Rattle.cpg_ring.specs.Worlds.{item}
use Rattle.cpg_node.specs.Nodes.{NodeValue}
use Rattle.cpg_node.specs.Calls.{frame_refusal, after_frame, answers_to}
use Rattle.cpg_node.specs.Answers.{IsFrameAnswer, CanBeSpelled}
use Rattle.cpg_world_laws.specs.declared.events.WorldEvent.TheVariants as events
use Rattle.cpg_world_laws.specs.declared.replies.Reply.TheVariants as reply
use Rattle.cpg_world_laws.specs.Worlds.{NodeOutcome, unless, hears}
use Rattle.cpg_world_laws.specs.Replies.{or_reply, frame_answer}
use Rattle.cpg_world.specs.Kept.{frames_of, AreSpelled, IsMet}
use Rattle.cpg_world.specs.Runs.{IsSpelledBy}
use Rattle.cpg_world.proofs.Sending.{ReadAgain, fits_two}

-- there are as many frames as byte strings
pub as_many : (sent : List (List ℕ)) → AreSpelled sent → length (frames_of sent) ≡ length sent
as_many sent are = sym (ap length are.spelled ∙ length-map (frames_of sent) (spelling Two))

pub none_there : (sent : List (List ℕ)) (k : ℕ) → AreSpelled sent → length sent < k → item (frames_of sent) k ≡ None
none_there sent zero are h = refl
none_there sent (suc i) are h = slice_get_past (frames_of sent) i (let l = as_many sent are in omega arith)

pub record There (sent : List (List ℕ)) (k : ℕ) (bytes : List ℕ) : Type 0 where
  pub frame : Frame
  pub is : item (frames_of sent) k ≡ Some frame
  pub read : frame_of bytes ≡ Some frame
  pub spells : IsSpelledBy (item (frames_of sent) k) bytes
  pub range : CanBeSpelled frame

-- byte string k spells frame k
pub there : ReadAgain → (sent : List (List ℕ)) (k : ℕ) (bytes : List ℕ) → AreSpelled sent → 1 ≤ k → k ≤ length sent → get_or sent (k - 1) bytes ≡ bytes → There sent k bytes
there law sent zero bytes are low high at = absurd (omega arith)
there law sent (suc i) bytes are low high at = by_frame (slice_get (frames_of sent) i) refl
  where
    less : (i : ℕ) → suc i - 1 ≡ i
    less i = omega arith

    has : slice_get sent i ≡ Some bytes
    has = slice_get-get_or sent i bytes high ∙ ap Some (ap (λ j. get_or sent j bytes) (sym (less i)) ∙ at)

    mapped : option_map (spelling Two) (slice_get (frames_of sent) i) ≡ Some bytes
    mapped = sym (slice_get-map (spelling Two) (frames_of sent) i) ∙ (ap (λ l. slice_get l i) (sym are.spelled) ∙ has)

    by_frame : (o : Option Frame) → slice_get (frames_of sent) i ≡ o → There sent (suc i) bytes
    by_frame None is = absurd (none-some bytes (sym (ap (option_map (spelling Two)) is) ∙ mapped))
    by_frame (Some f) is =
        let range : CanBeSpelled f = subst CanBeSpelled (get_or_from_slice_get (frames_of sent) i f f is) (are.range i f (slice_get_within (frames_of sent) i f is)) in
        let made : spelling Two f ≡ bytes = same_Some (spelling Two f) bytes (sym (ap (option_map (spelling Two)) is) ∙ mapped) in
        record { frame = f; is = is; read = ap frame_of (sym made) ∙ law Two f range.0 range.1 (fits_two f); spells = subst (λ o. IsSpelledBy o bytes) (sym is) (sym made); range = range }

-- a frame that is taken
pub heard_ok : (frames : List Frame) (n k : ℕ) (x y : NodeValue) (f : Frame) (count : ℕ) (later : List Frame) → item frames k ≡ Some f → frame_refusal x f ≡ None → y ≡ after_frame x f → count ≡ length (answers_to x f) → later ≡ frames ++ answers_to x f → IsMet frames (events.Frame n k) x (Ok (reply.Sent count)) y later
heard_ok frames n k x y f count later is none made counted more =
    let hears_is : hears (item frames k) x ≡ (after_frame x f, answers_to x f) = ap (λ o. hears o x) is ∙ ap (λ r. unless r x (after_frame x f, answers_to x f)) none in (
      ap (λ m. Ok (reply.Sent m)) counted ∙ sym (ap (frame_answer x) is ∙ ap (λ r. or_reply r (reply.Sent (length (answers_to x f)))) none),
      made ∙ sym (ap (λ (m : NodeOutcome). m.0) hears_is),
      more ∙ sym (ap (λ (m : NodeOutcome). frames ++ m.1) hears_is),
    )

-- a frame that is refused
unheard : (frames : List Frame) (n k : ℕ) (x : NodeValue) (f : Frame) (why : Refusal) (y : NodeValue) → item frames k ≡ Some f → frame_refusal x f ≡ Some why → y ≡ x →
    (Err why ≡ frame_answer x (item frames k)) × (y ≡ (hears (item frames k) x).0) × (frames ≡ frames ++ (hears (item frames k) x).1)
unheard frames n k x f why y is refuses same =
    let hears_is : hears (item frames k) x ≡ (x, []) = ap (λ o. hears o x) is ∙ ap (λ r. unless r x (after_frame x f, answers_to x f)) refuses in (
      sym (ap (frame_answer x) is ∙ ap (λ r. or_reply r (reply.Sent (length (answers_to x f)))) refuses),
      same ∙ sym (ap (λ (m : NodeOutcome). m.0) hears_is),
      sym (append-nil frames) ∙ sym (ap (λ (m : NodeOutcome). frames ++ m.1) hears_is),
    )

pub heard_err : {X : Type 0} (items : X → List (List ℕ)) (frames : List Frame) (n k : ℕ) (x : NodeValue) (f : Frame) (why : Refusal) (y : NodeValue) → item frames k ≡ Some f → IsFrameAnswer items x (Some f) (Err why) y → IsMet frames (events.Frame n k) x (Err why) y frames
heard_err items frames n k x f refusal.Memory y is h = (h.1, refl, subst IsSome (sym is) refl)
heard_err items frames n k x f refusal.Access y is h = unheard frames n k x f refusal.Access y is h.0 h.1
heard_err items frames n k x f refusal.NoConnection y is h = unheard frames n k x f refusal.NoConnection y is h.0 h.1
heard_err items frames n k x f refusal.BadName y is h = unheard frames n k x f refusal.BadName y is h.0 h.1
heard_err items frames n k x f refusal.TooLong y is h = unheard frames n k x f refusal.TooLong y is h.0 h.1
heard_err items frames n k x f refusal.QueueFull y is h = unheard frames n k x f refusal.QueueFull y is h.0 h.1
heard_err items frames n k x f refusal.ConnectionsFull y is h = unheard frames n k x f refusal.ConnectionsFull y is h.0 h.1
heard_err items frames n k x f refusal.Foreign y is h = unheard frames n k x f refusal.Foreign y is h.0 h.1
heard_err items frames n k x f refusal.NotMine y is h = unheard frames n k x f refusal.NotMine y is h.0 h.1
heard_err items frames n k x f refusal.Stale y is h = unheard frames n k x f refusal.Stale y is h.0 h.1
heard_err items frames n k x f refusal.Implausible y is h = unheard frames n k x f refusal.Implausible y is h.0 h.1
heard_err items frames n k x f refusal.Held y is h = unheard frames n k x f refusal.Held y is h.0 h.1
heard_err items frames n k x f refusal.FarAhead y is h = unheard frames n k x f refusal.FarAhead y is h.0 h.1
heard_err items frames n k x f refusal.Malformed y is h = unheard frames n k x f refusal.Malformed y is h.0 h.1
heard_err items frames n k x f refusal.RingEnd y is h = unheard frames n k x f refusal.RingEnd y is h.0 h.1
heard_err items frames n k x f refusal.NoFrame y is h = unheard frames n k x f refusal.NoFrame y is h.0 h.1
heard_err items frames n k x f refusal.Differs y is h = unheard frames n k x f refusal.Differs y is h.0 h.1
heard_err items frames n k x f refusal.BoardFull y is h = unheard frames n k x f refusal.BoardFull y is h.0 h.1
heard_err items frames n k x f (refusal.Behind d) y is h = unheard frames n k x f (refusal.Behind d) y is h.0 h.1
heard_err items frames n k x f refusal.Stopped y is h = unheard frames n k x f refusal.Stopped y is h.0 h.1
heard_err items frames n k x f (refusal.Denied d) y is h = unheard frames n k x f (refusal.Denied d) y is h.0 h.1
heard_err items frames n k x f (refusal.BadLine d) y is h = unheard frames n k x f (refusal.BadLine d) y is h.0 h.1
heard_err items frames n k x f (refusal.Unopened d) y is h = unheard frames n k x f (refusal.Unopened d) y is h.0 h.1
heard_err items frames n k x f refusal.Unclosed y is h = unheard frames n k x f refusal.Unclosed y is h.0 h.1
heard_err items frames n k x f (refusal.BadItem d) y is h = unheard frames n k x f (refusal.BadItem d) y is h.0 h.1
heard_err items frames n k x f (refusal.BadValue d) y is h = unheard frames n k x f (refusal.BadValue d) y is h.0 h.1
heard_err items frames n k x f (refusal.UnknownName d) y is h = unheard frames n k x f (refusal.UnknownName d) y is h.0 h.1
heard_err items frames n k x f refusal.Range y is h = unheard frames n k x f refusal.Range y is h.0 h.1
heard_err items frames n k x f (refusal.BadCommand d) y is h = unheard frames n k x f (refusal.BadCommand d) y is h.0 h.1
heard_err items frames n k x f refusal.Read y is h = unheard frames n k x f refusal.Read y is h.0 h.1
heard_err items frames n k x f refusal.Write y is h = unheard frames n k x f refusal.Write y is h.0 h.1

-- no frame of that number
pub unsent : (frames : List Frame) (n k : ℕ) (x : NodeValue) → item frames k ≡ None → IsMet frames (events.Frame n k) x (Err refusal.NoFrame) x frames
unsent frames n k x is = (sym (ap (frame_answer x) is), sym (ap (λ o. let move : NodeOutcome = hears o x in move.0) is), sym (append-nil frames) ∙ sym (ap (λ o. let move : NodeOutcome = hears o x in frames ++ move.1) is))
