use Rattle.std.proofs.Common.{◌≡◌, take}
use Rattle.std.specs.Prelude.{map}
use Rattle.cmm_static_semantics.specs.Scopes.{senses}
use Rattle.cmm_elaboration.specs.Resolving.{target_of}
use Rattle.cmm_proc_scope.specs.Bodies.{scope_of_body}
use Rattle.cmm_lower.proofs.sites.results_of.Given as goal

abbrev pub invariant-loop-taken : goal.invariant-loop-taken
invariant-loop-taken g l = l.targets ≡ map (λ k. target_of (senses (scope_of_body g.N.Names.senses l.names)) k.name) (take l.taken-index l.results)
