-- A worked row: the graphs of the program with alternate returns are those of its procedures. So what asks for graphs of a
-- program can be met.
use Rattle.std.proofs.Common.{[], ◌∷◌, refl}
use Rattle.std.proofs.lemmas.List.Elements.{All-from_recursion}
use Rattle.cmm_program.specs.declared.program.Program.{Program}
use Rattle.cmm_graph.specs.Counterpart.{HasSite, AreExitsOf, IsGraphOf, AreGraphsOf}
use Rattle.cmm_program.proofs.Shared.{call_site, program}
use Rattle.cmm_graph.proofs.Notation.{n, s, exits}
use Rattle.cmm_graph.proofs.Graphs.{alternates, alternates-main, alternates-h, main-graph, h-graph}

abbrev p : Program
p = program (alternates-main ∷ alternates-h ∷ [])

-- the call in `main`
call_has_site : AreExitsOf alternates-main main-graph (s 0) (exits (n 2) (0 ∷ 1 ∷ []) [] [])
call_has_site = record { site = record (call_site (0 ∷ [])) { returns = 0 ∷ 1 ∷ [] }; is_site = refl; normal = refl; returns = refl; unwinds = refl; cuts = refl }

main_is_graph : IsGraphOf p alternates-main main-graph
main_is_graph = record {
  valid = record { first = refl; nodes = refl; continuations = refl };
  variables = refl;
  formals = refl;
  continuations = refl;
  sites = All-from_recursion (λ node. HasSite alternates-main main-graph node.kind) main-graph.nodes (tt, (call_has_site, (tt, (tt, (tt, (tt, (tt, (tt, (tt, (tt, tt))))))))));
  names = refl;
}

h_is_graph : IsGraphOf p alternates-h h-graph
h_is_graph = record {
  valid = record { first = refl; nodes = refl; continuations = refl };
  variables = refl;
  formals = refl;
  continuations = refl;
  sites = All-from_recursion (λ node. HasSite alternates-h h-graph node.kind) h-graph.nodes (tt, (tt, (tt, (tt, tt))));
  names = refl;
}

alternates_are_graphs : AreGraphsOf p alternates
alternates_are_graphs = (main_is_graph, (h_is_graph, tt))
