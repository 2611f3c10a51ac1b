-- The names of a procedure over those of its unit, where the unit's mean what a function says, as the scope that the rules speak of.
use Rattle.std.specs.Prelude.{map}
use Rattle.cmm_static_semantics.specs.Senses.{Senses}
use Rattle.cmm_static_semantics.specs.Scopes.{Scope}
use Rattle.cmm_proc_scope.specs.Owned.{own_declared}
use Rattle.cmm_proc_scope.specs.declared.body_types.BodyTypes.{BodyTypes}
use Rattle.cmm_proc_scope.specs.declared.body_names.BodyNames.{BodyNames}

abbrev pub scope_of_types : {N : Type 0} → (N → Senses) → BodyTypes N → Scope
scope_of_types outer body = record { own = map own_declared body.own.now.table.declared; outer = outer body.outer.now }

abbrev pub scope_of_body : {N : Type 0} → (N → Senses) → BodyNames N → Scope
scope_of_body outer body = scope_of_types outer body.types
