-- the script of what pens of one history recorded
use Rattle.std.proofs.Common.{◌≡◌, ℕ, ◌<◌, ◌≤◌, ◌^◌, Bool, true, false, ◌||◌, is_some, List, [], ◌∷◌, ◌++◌, length, slice_get, Some, refl, sym, subst, ap, ◌∙◌, arith, append_assoc, append-nil}
use Rattle.std.proofs.lemmas.Grind.{flat_map-append}
use Rattle.std.proofs.lemmas.List.Folds.{list_any-append}
use Rattle.std.specs.List.Sorted.{IsPermutation}
use Rattle.std.specs.List.{AllByRecursion}
use Rattle.std.proofs.lemmas.List.Elements.{All-from_recursion, recursion_from_All}
use Rattle.std.proofs.lemmas.List.Sorted.{All-permutation, IsPermutation-append_comm, IsPermutation-append_right}
use Rattle.cpg_world_laws.specs.declared.events.WorldEvent.{WorldEvent}
use Rattle.cpg_world_laws.specs.Worlds.{WorldValue}
use Rattle.cpg_history.specs.Members.{MemberValue}
use Rattle.cpg_history.specs.declared.histories.Beginning.{Beginning}
use Rattle.cpg_history.specs.declared.traces.Recorded.{Recorded}
use Rattle.cpg_history.specs.Histories.{first_world}
use Rattle.cpg_history.specs.Traces.{AreRecorded, IsTraceOf, WasRecorded}
use Rattle.cpg_cluster.specs.TraceScripts.{HaveNodesOf, HaveTraces, IsNumbered, IsRecording, IsScript, lines_of_all, events_of, is_cut}
use Rattle.cpg_cluster.proofs.Ordered.{all_counted, stamp_at}
use Rattle.cpg_cluster.proofs.Played.{plays, no_longer}
use Rattle.cpg_cluster.proofs.Whole.{is_whole}

-- what pens recorded, put together
pub recorded_both : (start : WorldValue) (seen : List WorldEvent) (xs ys : List Recorded) → AreRecorded start seen xs → AreRecorded start seen ys → AreRecorded start seen (xs ++ ys)
recorded_both start seen [] ys one two = two
recorded_both start seen (x ∷ xs) ys one two = (one.0, recorded_both start seen xs ys one.1 two)

-- no member is left
pub none_left : (ms : List MemberValue) → length ms ≡ 0 → ms ≡ []
none_left [] none = refl
none_left (m ∷ ms) none = absurd (omega (arith, none))

-- what the last of them recorded goes behind the others
pub gathered : (ms : List MemberValue) (m : MemberValue) (script : List Recorded) → IsPermutation (lines_of_all (ms ++ m ∷ []) ++ script) (lines_of_all ms ++ (script ++ m.trace.entries))
gathered ms m script =
    let both : lines_of_all (ms ++ m ∷ []) ++ script ≡ lines_of_all ms ++ (m.trace.entries ++ script) =
    ap (λ l. l ++ script) (flat_map-append (λ (m : MemberValue). m.trace.entries) ms (m ∷ []) ∙ ap (λ l. lines_of_all ms ++ l) (append-nil m.trace.entries)) ∙ append_assoc (lines_of_all ms) m.trace.entries script in
    subst (λ l. IsPermutation l (lines_of_all ms ++ (script ++ m.trace.entries))) (sym both)
    (IsPermutation-append_right (lines_of_all ms) (m.trace.entries ++ script) (script ++ m.trace.entries) (IsPermutation-append_comm m.trace.entries script))

pub cut_last : (ms : List MemberValue) (m : MemberValue) (cut : Bool) → (is_cut ms || (cut || is_some m.trace.lost)) ≡ (is_cut (ms ++ m ∷ []) || cut)
cut_last ms m cut = by_cases (is_cut ms) (is_some m.trace.lost) cut ∙ ap (λ b. b || cut) (sym (list_any-append (λ (m : MemberValue). is_some m.trace.lost) ms (m ∷ [])))
  where
    by_cases : (a b c : Bool) → (a || (c || b)) ≡ ((a || (b || false)) || c)
    by_cases true b c = refl
    by_cases false true true = refl
    by_cases false true false = refl
    by_cases false false true = refl
    by_cases false false false = refl

-- all that members recorded
all_recorded : (start : WorldValue) (seen : List WorldEvent) (ms : List MemberValue) → HaveTraces start seen ms → AreRecorded start seen (lines_of_all ms)
all_recorded start seen [] traces = tt
all_recorded start seen (m ∷ ms) traces = recorded_both start seen m.trace.entries (lines_of_all ms) traces.0.recorded (all_recorded start seen ms traces.1)

-- one member more has a trace
pub one_more_trace : (start : WorldValue) (seen : List WorldEvent) (ms : List MemberValue) (m : MemberValue) → HaveTraces start seen ms → IsTraceOf start m.id seen m.trace → HaveTraces start seen (ms ++ m ∷ [])
one_more_trace start seen [] m all one = (one, tt)
one_more_trace start seen (x ∷ ms) m all one = (all.0, one_more_trace start seen ms m all.1 one)

module _ (b : Beginning) (seen : List WorldEvent) (members : List MemberValue) (script : List Recorded) (cut : Bool) (short : length seen < 2 ^ 64) (r : IsRecording (first_world b) seen members script cut) where
  abbrev is : IsScript (lines_of_all members) script
  is = r.script_is

  still : AreRecorded (first_world b) seen script
  still =
      let ordered : AllByRecursion (WasRecorded (first_world b) seen) is.ordered = recursion_from_All (WasRecorded (first_world b) seen) is.ordered (All-permutation (WasRecorded (first_world b) seen) (lines_of_all members) is.ordered is.same (All-from_recursion (WasRecorded (first_world b) seen) (lines_of_all members) (all_recorded (first_world b) seen members r.traces))) in
      subst (AllByRecursion (WasRecorded (first_world b) seen)) (sym is.front) (all_counted (WasRecorded (first_world b) seen) 0 is.ordered ordered)

  stamps : (i : ℕ) (r : Recorded) → slice_get script i ≡ Some r → r.stamp ≡ i
  stamps i r at = let stamp = stamp_at 0 is.ordered i r (ap (λ l. slice_get l i) (sym is.front) ∙ at) in omega (arith, stamp)

  pub plays_again : (index : ℕ) (event : WorldEvent) → index < length script → slice_get seen index ≡ Some event → IsNumbered event → slice_get (events_of script) index ≡ Some event
  plays_again index event = plays b seen script short still stamps index event

  pub is_no_longer : length script ≤ length seen
  is_no_longer = no_longer b seen script short still stamps

pub whole_script : (b : Beginning) (seen : List WorldEvent) (members : List MemberValue) (script : List Recorded) → length seen < 2 ^ 64 → IsRecording (first_world b) seen members script false → HaveNodesOf members seen → length script ≡ length seen
whole_script b seen members script short r nodes = is_whole (first_world b) seen members script short r.traces (sym r.cut_is) nodes r.script_is
