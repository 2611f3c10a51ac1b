use Rattle.std.proofs.Common.{◌≡◌, map, take, Some}
use Rattle.cmm_static_semantics.specs.Constants.{constant_alone}
use Rattle.cmm_elaboration.specs.Resolving.{or_zero}
use Rattle.cmm_lower_parts.proofs.data.constants_in.Given as goal

abbrev pub invariant-loop-value : goal.invariant-loop-value
invariant-loop-value g l = l.constants ≡ map (λ e. or_zero l.width (constant_alone (g.N.Names.senses l.names) (Some l.width) e)) (take l.value-index l.values)
