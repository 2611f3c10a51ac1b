-- What is known of a unit that is laid flat, by its tree.
use Rattle.std.specs.Prelude.{◌≡◌, map}
use Rattle.cmm_static_semantics.specs.Items.{items_of}
use Rattle.cmm_symbols.specs.Shown.{thing_item, whats}
use Rattle.cmm_proc_scope.specs.Procs.{procs_of_items}
use Rattle.cmm_proc_scope.specs.declared.flat_unit.FlatUnit.TheInside.{Inside}

-- what stands in it, and its procedures
pub record IsUnitFlat (u : Inside) : Type 0 where
  pub items : map thing_item u.things ≡ whats (items_of u.tree.now)
  pub procs : u.procs ≡ procs_of_items (items_of u.tree.now)
