-- No node of hoisted flows has more tokens than the longest procedure of their program.
use Rattle.std.proofs.Common.{ℕ, ◌<◌, ◌≤◌, List, [], ◌∷◌, length, arith}
use Rattle.std.specs.List.{AllZip}
use Rattle.cmm_program.specs.declared.procedure.Proc.{Proc}
use Rattle.cmm_program.specs.Bounds as bounds
use Rattle.cmm_graph.specs.declared.graph.Graph.{Graph}
use Rattle.cmm_flow.specs.Relation.{longest_of}
use Rattle.cmm_hoisted.specs.Flow.{IsFlowWithin}
use Rattle.cmm_hoisted.specs.Laws.{FlowsWithinAreFewer}

-- both layers know the longest of some procedures
pub longest_is : (procs : List Proc) → bounds.longest procs ≤ longest_of procs
longest_is [] = omega arith
longest_is (q ∷ procs) = omega (arith, longest_is procs)

at_first : (most greatest : ℕ) (procs : List Proc) (graphs : List Graph) → AllZip (IsFlowWithin most greatest) procs graphs → 0 < length procs → most ≤ greatest
at_first most greatest [] graphs all some = absurd (omega (arith, some))
at_first most greatest (q ∷ procs) [] all some = absurd all
at_first most greatest (q ∷ procs) (g ∷ graphs) all some = let spared = all.0.spared in omega (arith, spared)

pub flows_within_are_fewer : FlowsWithinAreFewer
flows_within_are_fewer p graphs range within =
    let main = range.main in
    let first = at_first within.most (bounds.longest p.procs) p.procs graphs within.all (omega (arith, main)) in
    omega (arith, first, longest_is p.procs)
