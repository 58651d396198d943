use Rattle.std.proofs.Common.{rules, ◌≡◌, sym, ◌∙◌, List, ℕ, map, length, ap}
use Rattle.std.specs.List.{flat_map}
use Rattle.cpg_node.specs.Nodes.{records_of, open_client}
use Rattle.cpg_ask.specs.Tells.{Listing, listing_bytes}
use Rattle.cpg_ask.proofs.Mapped.{length_mapped}
use Rattle.cpg_serve.specs.Answering.{asker_of, listing_of}
use Rattle.cpg_serve.proofs.AtOnce.{on_ok, listed_by, named_by}
use Rattle.cpg_serve.proofs.answers.put_groups.Goals as goal

pub returns-clause-ok : goal.returns-clause-ok
returns-clause-ok c =
    let names : List (List ℕ) = c.in-Ok.names in
    let f : List ℕ → Listing = listing_of (records_of c.args.node.now) (asker_of c.args.node.now c.args.conn) c.args.wanted in
    let e : c.in_ok-groups.groups.items ≡ flat_map (λ name. listing_bytes (f name)) names = search rules in
    let put = c.put_named.ensures.ok (map f names) (c.as_slice.ensures.value ∙ e ∙ listed_by f names) (ap (λ (l : List (List ℕ)). length l) c.as_slice-names.ensures ∙ sym (length_mapped f names)) in
    on_ok c.put_named.result (λ e. (names, named_by c.args.node.now c.args.wanted (open_client c.args.node.now c.args.conn) names c.in-Ok.ensures, e)) put
