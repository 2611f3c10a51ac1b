use Rattle.std.proofs.Common.{◌≡◌, ◌++◌, take}
use Rattle.std.specs.Prelude.{map}
use Rattle.std.specs.List.{All}
use Rattle.cmm_elaboration.specs.Sites.{continuation_of}
use Rattle.cmm_proc_scope.specs.Bodies.{scope_of_body}
use Rattle.cmm_lower.specs.Fitting.{IsContinuation}
use Rattle.cmm_lower.proofs.exits.add_numbers.Given as goal

abbrev pub invariant-loop-continuation : goal.invariant-loop-continuation
invariant-loop-continuation g l = All (IsContinuation (scope_of_body g.N.Names.senses l.names)) l.continuations →
    l.to ≡ l.initial.to ++ map (continuation_of (scope_of_body g.N.Names.senses l.names)) (take l.continuation-index l.continuations)
