use Rattle.std.proofs.Common.{◌≡◌, ◌++◌, map, take}
use Rattle.cmm_static_semantics.specs.Declarations.{formal_name}
use Rattle.cmm_proc_scope.specs.Owned.{local_declared}
use Rattle.cmm_proc_scope.proofs.declaring.add_formals.Given as goal

abbrev pub invariant-loop-formal : goal.invariant-loop-formal
invariant-loop-formal l = map local_declared l.to ≡ map local_declared l.initial.to ++ map formal_name (take l.formal-index l.formals)
