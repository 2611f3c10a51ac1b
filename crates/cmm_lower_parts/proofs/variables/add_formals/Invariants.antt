use Rattle.std.proofs.Common.{◌≡◌, ◌++◌, map, take}
use Rattle.cmm_elaboration.specs.Procedures.{formal_info}
use Rattle.cmm_proc_scope.specs.Bodies.{scope_of_body}
use Rattle.cmm_lower_parts.proofs.variables.add_formals.Given as goal

abbrev pub invariant-loop-formal : goal.invariant-loop-formal
invariant-loop-formal g l = l.to ≡ l.initial.to ++ map (formal_info (scope_of_body g.N.Names.senses l.names)) (take l.formal-index l.formals)
