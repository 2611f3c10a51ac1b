use Rattle.std.proofs.Common.{◌≡◌, ◌++◌, map, take}
use Rattle.cmm_static_semantics.specs.Declarations.{Variable, each_as}
use Rattle.cmm_proc_scope.specs.Owned.{local_declared}
use Rattle.cmm_proc_scope.proofs.declaring.add_variables.Given as goal

abbrev pub invariant-loop-name : goal.invariant-loop-name
invariant-loop-name l = map local_declared l.to ≡ map local_declared l.initial.to ++ each_as (Variable l.width) (take l.name-index l.names)
