use Rattle.std.proofs.Common.{take}
use Rattle.std.specs.List.{AllZip}
use Rattle.cmm_flow.specs.Flow.{IsFlow}
use Rattle.cmm_flow.proofs.procedure.flows.Given as goal

abbrev pub invariant-loop-q : goal.invariant-loop-q
invariant-loop-q l = AllZip IsFlow (take l.q-index l.procs) l.graphs
