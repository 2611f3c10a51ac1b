use Rattle.std.proofs.Common.{◌≡◌, ◌++◌, map, take}
use Rattle.cmm_elaboration.specs.Procedures.{variable_info}
use Rattle.cmm_proc_scope.specs.Bodies.{scope_of_body}
use Rattle.cmm_lower_parts.proofs.variables.add_each.Given as goal

abbrev pub invariant-loop-name : goal.invariant-loop-name
invariant-loop-name g l = l.to ≡ l.initial.to ++ map (λ i. variable_info (scope_of_body g.N.Names.senses l.names) l.modifiers l.t) (take l._name-index l.declared)
