use Rattle.std.proofs.Common.{◌≡◌, map, take}
use Rattle.cmm_static_semantics.specs.Scopes.{senses}
use Rattle.cmm_lower_parts.specs.inside.Numbers.{numbered}
use Rattle.cmm_proc_scope.specs.Bodies.{scope_of_body}
use Rattle.cmm_lower_parts.proofs.continuations.cont_with.Given as goal

abbrev pub invariant-loop-parameter : goal.invariant-loop-parameter
invariant-loop-parameter g l = l.params ≡ map (λ k. numbered (senses (scope_of_body g.N.Names.senses l.names) k.name.name)) (take l.parameter-index l.parameters)
