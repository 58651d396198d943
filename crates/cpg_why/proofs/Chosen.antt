-- the longest of the first nodes
use Rattle.std.proofs.Common.{◌≡◌, ◌≤◌, ℕ, ◌+◌, ◌<◌, suc, List, [], take, length, slice_get, Some, ap, sym, ◌∙◌, arith}
use Rattle.std.proofs.lemmas.List.{take_all}
use Rattle.std.proofs.lemmas.List.Sums.{fold_more}
use Rattle.std.proofs.lemmas.Option.{get_or_from_slice_get, slice_get_within}
use Rattle.cpg_record.specs.declared.records.Record.{Record}
use Rattle.cpg_node.specs.Nodes.{NodeValue, records_of}
use Rattle.cpg_ring.specs.Worlds.{item}
use Rattle.cpg_why.specs.Explaining.{longer, longest}

-- one node more
pub longest_next : (nodes : List NodeValue) (before : ℕ) (x : NodeValue) (most new : List Record) → item nodes (before + 1) ≡ Some x
    → most ≡ longest (take before nodes) → new ≡ longer most (records_of x) → new ≡ longest (take (before + 1) nodes)
longest_next nodes before x most new stands is chosen =
    let next : before + 1 ≡ suc before = omega arith in
    let at : slice_get nodes before ≡ Some x = sym (ap (item nodes) next) ∙ stands in
    let within : before < length nodes = slice_get_within nodes before x at in
    let f = λ (most : List Record) (x : NodeValue). longer most (records_of x) in
    chosen ∙ ap (λ (rs : List Record). longer rs (records_of x)) is
    ∙ ap (λ (y : NodeValue). longer (longest (take before nodes)) (records_of y)) (sym (get_or_from_slice_get nodes before x x at))
    ∙ sym (fold_more f [] nodes before x within)

-- no node more
pub longest_past : (nodes : List NodeValue) (before : ℕ) (most : List Record) → length nodes ≤ before
    → most ≡ longest (take before nodes) → most ≡ longest (take (before + 1) nodes)
longest_past nodes before most past is =
    is ∙ ap longest (take_all before nodes past) ∙ sym (ap longest (take_all (before + 1) nodes (omega (arith, past))))
