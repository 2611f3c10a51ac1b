use Rattle.std.proofs.Common.{◌≡◌, map, take}
use Rattle.cmm_proc_scope.specs.Owned.{own_declared}
use Rattle.cmm_proc_scope.specs.inside.Variables.{variable_names}
use Rattle.cmm_proc_scope.proofs.variables.variables_of.Given as goal

abbrev pub invariant-loop-named : goal.invariant-loop-named
invariant-loop-named l = map (λ v. v.now) l.names ≡ variable_names (map own_declared (take l.named-index l.declared))
