use Rattle.std.proofs.Common.{◌≡◌, [], ◌++◌, take}
use Rattle.std.specs.Prelude.{flat_map}
use Rattle.cmm_static_semantics.specs.Items.{item_within}
use Rattle.cmm_proc_scope.specs.Procs.{BeginWith, procs_of_items}
use Rattle.cmm_lower.specs.inside.Sections.{ItemsAdded}
use Rattle.cmm_lower.proofs.units.+sections.Given as goal

abbrev pub invariant-add_items-loop-item : goal.invariant-add_items-loop-item
invariant-add_items-loop-item g l = record {
  left : BeginWith l.initial.left (flat_map (item_within []) l.items) → l.initial.left ≡ procs_of_items (flat_map (item_within []) (take l.item-index l.items)) ++ l.left;
  added : BeginWith l.initial.left (flat_map (item_within []) l.items) →
      ItemsAdded (g.N.Names.senses l.names) l.unit l.around l.items (take l.item-index l.items) l.initial.to l.to;
}
