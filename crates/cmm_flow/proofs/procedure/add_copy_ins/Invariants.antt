use Rattle.std.proofs.Common.{◌≡◌, ◌++◌, map}
use Rattle.cmm_flow.specs.inside.Fronts.{copy_in}
use Rattle.cmm_flow.proofs.procedure.add_copy_ins.Given as goal

abbrev pub invariant-loop-continuation : goal.invariant-loop-continuation
invariant-loop-continuation l = l.nodes ≡ l.initial.nodes ++ map (λ y. copy_in l.p y.0.now y.1.now) l.yielded
