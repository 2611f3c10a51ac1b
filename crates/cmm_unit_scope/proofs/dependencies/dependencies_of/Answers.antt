use Rattle.std.proofs.Common.{◌≡◌, ◌<◌, ◌∙◌, List, ℕ, length, map, ap, sym, subst}
use Rattle.cmm_symbols.specs.Shown.{shown}
use Rattle.cmm_digraph.specs.Graphs.{is_graph}
use Rattle.cmm_digraph.specs.Reaching.{comes_back}
use Rattle.cmm_unit_scope.specs.Depending.{graph_of}
use Rattle.cmm_unit_scope.proofs.Depended.{graph_is, graph_size}
use Rattle.cmm_unit_scope.proofs.dependencies.dependencies_of.Goals as goal

pub on_cycles-requires : goal.on_cycles-requires
on_cycles-requires c = ap (λ (g : List (List ℕ)). is_graph g) (c.as_slice.ensures ∙ c.in_ok-graph.ensures) ∙ graph_is (map shown c.args.table.now.declared)

pub returns : goal.returns
returns c =
    let ds = map shown c.args.table.now.declared in
    let seen : c.as_slice.result.now ≡ graph_of ds = c.as_slice.ensures ∙ c.in_ok-graph.ensures in record {
      graph = c.in_ok-graph.ensures;
      size = c.in_ok-cyclic.ensures.size ∙ ap (λ (g : List (List ℕ)). length g) seen ∙ graph_size ds;
      cyclic = λ node. λ within.
          c.in_ok-cyclic.ensures.cyclic node (subst (λ (n : ℕ). node < n) (sym (ap (λ (g : List (List ℕ)). length g) seen ∙ graph_size ds)) within)
          ∙ ap (λ (g : List (List ℕ)). comes_back g node) seen;
    }
