use Rattle.std.proofs.Common.{◌≡◌, ◌∙◌, ◌++◌, ◌||◌, [], length, sym, subst, arith}
use Rattle.std.specs.List.Sorted.{IsPermutation}
use Rattle.std.proofs.lemmas.List.Sorted.{IsPermutation-trans}
use Rattle.cpg_history.specs.Members.{MemberValue}
use Rattle.cpg_cluster.specs.TraceScripts.{HaveTraces, lines_of_all, is_cut}
use Rattle.cpg_cluster.proofs.Playing.{none_left}
use Rattle.cpg_cluster.proofs.trace.recordings.recorded_by.Goals as goal

pub loop-preserved : goal.loop-preserved
loop-preserved g c = (
  let fewer = c.in_ok-gather_last.ensures.fewer in let count = c.loop.invariant.0 in omega (arith, fewer, count),
  IsPermutation-trans _ _ _ c.loop.invariant.1 c.in_ok-gather_last.ensures.entries,
  c.in_ok-gather_last.ensures.cut ∙ c.loop.invariant.2,
)

pub returns-clause-ok : goal.returns-clause-ok
returns-clause-ok g c =
    let count = c.loop.invariant.0 in
    let none : c.loop.stations.items ≡ [] = none_left c.loop.stations.items (omega (arith, count)) in
    let script = c.loop.recording.script.items in
    let gathered = subst (λ ms. IsPermutation (lines_of_all c.args.stations.items) (lines_of_all ms ++ script)) none c.loop.invariant.1 in
    let cut = subst (λ ms. (is_cut ms || c.loop.recording.cut) ≡ is_cut c.args.stations.items) none c.loop.invariant.2 in
    record {
      traces = subst (HaveTraces g.B.HistoryName.start c.args.front.now.seen) c.as_slice.ensures.value c.are_traced.ensures;
      script_is = record { ordered = c.order.ensures.ordered; same = IsPermutation-trans _ _ _ gathered c.order.ensures.same; ascend = c.order.ensures.ascend; front = c.order.ensures.front };
      cut_is = cut;
    }
