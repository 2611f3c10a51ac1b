use Rattle.std.proofs.Common.{◌≡◌, drop, map}
use Rattle.cmm_program.specs.Commands.{all_fit}
use Rattle.cmm_image_machine.specs.Changes.{variable_width}
use Rattle.cmm_resume.proofs.values.check_parameters.Given as goal

abbrev pub invariant-loop-k : goal.invariant-loop-k
invariant-loop-k l = all_fit (map (variable_width l.procedure) l.parameters) l.values ≡ all_fit (drop l.k (map (variable_width l.procedure) l.parameters)) (drop l.k l.values)
