use Rattle.std.proofs.Common.{rules, take, ap, sym, ◌∙◌}
use Rattle.std.proofs.lemmas.List.Sorted.{IsNonDecreasingBy-from_sort_by_key}
use Rattle.cpg_history.specs.declared.traces.Recorded.{Recorded}
use Rattle.cpg_cluster.specs.TraceScripts.{counted}
use Rattle.cpg_cluster.proofs.trace.ordering.order.Goals as goal

pub returns : goal.returns
returns c = record {
  ordered = c.sort_unstable_by_key.new.self.items;
  same = c.sort_unstable_by_key.ensures.permutation;
  ascend = IsNonDecreasingBy-from_sort_by_key (λ (r : Recorded). r.stamp) _ c.sort_unstable_by_key.ensures.sorted (λ a r q k. search rules);
  front = c.truncate.ensures.items ∙ (ap (take c.counted-count.result) (sym c.as_slice.ensures.value) ∙ (c.counted-count.ensures ∙ ap (counted 0) c.as_slice.ensures.value));
}
