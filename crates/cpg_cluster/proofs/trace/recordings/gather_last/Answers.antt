use Rattle.std.proofs.Common.{◌≡◌, ◌∙◌, ◌++◌, ◌||◌, is_some, sym, ap, subst}
use Rattle.std.specs.List.Sorted.{IsPermutation}
use Rattle.cpg_history.specs.Traces.{TraceValue}
use Rattle.cpg_cluster.specs.TraceScripts.{lines_of_all, is_cut}
use Rattle.cpg_cluster.proofs.Playing.{gathered, cut_last}
use Rattle.cpg_cluster.proofs.Written.{on_ok_so}
use Rattle.cpg_cluster.proofs.trace.recordings.gather_last.Goals as goal
use Rattle.cpg_cluster.proofs.trace.recordings.gather_last.Goals.{then-recording, else-recording}

pub returns-clause-entries : goal.returns-clause-entries
returns-clause-entries g c =
    let script = c.args.recording.now.script.items in
    let more : c.into_entries.result.items ≡ c.in-Some.station.trace.entries = c.into_entries.ensures ∙ ap (λ (t : TraceValue). t.entries) c.into_trace-trace.ensures in
    on_ok_so c.gather.result _ (IsPermutation (lines_of_all c.args.stations.now.items ++ script) (lines_of_all c.pop.new.self.items ++ c.gather.new.entries.items))
    (λ is. subst (λ l. IsPermutation (lines_of_all c.args.stations.now.items ++ script) (lines_of_all c.pop.new.self.items ++ l)) (sym (is ∙ ap (λ l. script ++ l) more))
    (subst (λ ms. IsPermutation (lines_of_all ms ++ script) (lines_of_all c.pop.new.self.items ++ (script ++ c.in-Some.station.trace.entries))) (sym c.in-Some.ensures.items) (gathered c.pop.new.self.items c.in-Some.station script)))
    c.gather.ensures.ok

pub returns-clause-cut : goal.returns-clause-cut
returns-clause-cut g c =
    on_ok_so c.gather.result _ ((is_cut c.pop.new.self.items || c.if-recording.recording) ≡ (is_cut c.args.stations.now.items || c.args.recording.now.cut))
    (λ _. ap (λ b. is_cut c.pop.new.self.items || b) cut
    ∙ (cut_last c.pop.new.self.items c.in-Some.station c.args.recording.now.cut ∙ ap (λ ms. is_cut ms || c.args.recording.now.cut) (sym c.in-Some.ensures.items)))
    c.gather.ensures.ok
  where
    cut : c.if-recording.recording ≡ (c.args.recording.now.cut || is_some c.in-Some.station.trace.lost)
    cut = elim c.if-recording.branch [
      | then-recording w ↦ w.recording-is ∙ (w.if-recording.true ∙ ap (λ b. b || is_some c.in-Some.station.trace.lost) (sym w.if-recording.true))
      | else-recording w ↦ w.recording-is ∙ (w.is_some-recording.ensures ∙ (ap (λ o. is_some o) (w.lost.ensures ∙ ap (λ (t : TraceValue). t.lost) c.into_trace-trace.ensures) ∙ ap (λ b. b || is_some c.in-Some.station.trace.lost) (sym w.if-recording.false)))
    ]
