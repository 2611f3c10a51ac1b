use Rattle.std.proofs.Common.{◌≡◌, map, take}
use Rattle.cmm_program.specs.declared.procedure.Target.TheVariants.{Variable}
use Rattle.cmm_program.specs.Exits.{variable_width}
use Rattle.cmm_flow.proofs.procedure.parameters.Given as goal

abbrev pub invariant-loop-variable : goal.invariant-loop-variable
invariant-loop-variable l = l.targets ≡ map (λ n. Variable n (variable_width l.p n)) (take l.variable-index l.params)
