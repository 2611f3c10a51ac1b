-- What `flow` answers for the procedures of a program in range are graphs of these procedures, whose frames are bounded.
use Rattle.std.proofs.Common.{List, [], ◌∷◌}
use Rattle.std.proofs.lemmas.List.Elements.{All-head, All-tail}
use Rattle.std.specs.List.{All, AllZip}
use Rattle.cmm_program.specs.declared.procedure.Proc.{Proc}
use Rattle.cmm_program.specs.declared.program.Program.{Program}
use Rattle.cmm_program.specs.InRange.{IsInRange, IsProcInRange}
use Rattle.cmm_graph.specs.declared.graph.Graph.{Graph}
use Rattle.cmm_graph.specs.Counterpart.{AreGraphsOf, IsGraphOf}
use Rattle.cmm_flow.specs.Flow.{AreCovered, IsBounded, IsFlow}
use Rattle.cmm_flow.specs.Laws.{AnswersAreBounded, AnswersAreCovered, AnswersAreGraphs, AnswersAreShort, AnswersPassFew, AnswersYieldThere}
use Rattle.cmm_flow.proofs.Landings.{answers_land}
use Rattle.cmm_flow.proofs.SitesOfNodes.{answers_have_sites}

pub answers_are_graphs : AnswersAreGraphs
answers_are_graphs p q g range is =
    let sites = answers_have_sites p q g range is in
    record {
      valid = answers_land q g is (is.nodes p range sites);
      variables = is.variables;
      formals = is.formals;
      continuations = is.continuations;
      sites = sites;
      names = is.names p range;
    }

pub answers_are_bounded : AnswersAreBounded
answers_are_bounded p q g range is = is.bounded p range

pub answers_are_short : AnswersAreShort
answers_are_short p q g range is = is.short p range

pub answers_are_covered : AnswersAreCovered
answers_are_covered p q g range is = is.covered p range (answers_have_sites p q g range is)

pub answers_pass_few : AnswersPassFew
answers_pass_few p q g range is = is.few p range (answers_have_sites p q g range is)

pub answers_yield_there : AnswersYieldThere
answers_yield_there p q g range is = is.yields p range

all_graphs : (p : Program) (qs : List Proc) (graphs : List Graph) → All (IsProcInRange p) qs → AllZip IsFlow qs graphs → AllZip (IsGraphOf p) qs graphs
all_graphs p [] [] range are = are
all_graphs p [] (g ∷ graphs) range are = are
all_graphs p (q ∷ qs) [] range are = are
all_graphs p (q ∷ qs) (g ∷ graphs) range are = (
  answers_are_graphs p q g (All-head (IsProcInRange p) q qs range) are.0,
  all_graphs p qs graphs (All-tail (IsProcInRange p) q qs range) are.1,
)

all_bounded : (p : Program) (qs : List Proc) (graphs : List Graph) → All (IsProcInRange p) qs → AllZip IsFlow qs graphs → AllZip IsBounded qs graphs
all_bounded p [] [] range are = are
all_bounded p [] (g ∷ graphs) range are = are
all_bounded p (q ∷ qs) [] range are = are
all_bounded p (q ∷ qs) (g ∷ graphs) range are =
    (are.0.bounded p (All-head (IsProcInRange p) q qs range), all_bounded p qs graphs (All-tail (IsProcInRange p) q qs range) are.1)

pub graphs_given : (p : Program) (graphs : List Graph) → AllZip IsFlow p.procs graphs → IsInRange p → AreGraphsOf p graphs
graphs_given p graphs are range = all_graphs p p.procs graphs range.procedures are

pub bounded_given : (p : Program) (graphs : List Graph) → AllZip IsFlow p.procs graphs → IsInRange p → AllZip IsBounded p.procs graphs
bounded_given p graphs are range = all_bounded p p.procs graphs range.procedures are

all_covered : (p : Program) (qs : List Proc) (graphs : List Graph) → All (IsProcInRange p) qs → AllZip IsFlow qs graphs → AllZip AreCovered qs graphs
all_covered p [] [] range are = are
all_covered p [] (g ∷ graphs) range are = are
all_covered p (q ∷ qs) [] range are = are
all_covered p (q ∷ qs) (g ∷ graphs) range are = (
  answers_are_covered p q g (All-head (IsProcInRange p) q qs range) are.0,
  all_covered p qs graphs (All-tail (IsProcInRange p) q qs range) are.1,
)

pub covered_given : (p : Program) (graphs : List Graph) → AllZip IsFlow p.procs graphs → IsInRange p → AllZip AreCovered p.procs graphs
covered_given p graphs are range = all_covered p p.procs graphs range.procedures are
