use Rattle.std.proofs.Common.{◌≡◌, ◌++◌, take}
use Rattle.std.specs.Prelude.{flat_map}
use Rattle.std.specs.List.{All}
use Rattle.cmm_static_semantics.specs.Items.{top_items}
use Rattle.cmm_elaboration.specs.Meaning.{item_procedures}
use Rattle.cmm_proc_scope.specs.Procs.{procs_of_items}
use Rattle.cmm_lower.specs.Fitting.{ItemFits}
use Rattle.cmm_lower.proofs.units.add_procedures.Given as goal

abbrev pub invariant-loop-part : goal.invariant-loop-part
invariant-loop-part g l = let names = g.N.Names.senses l.names in record {
  left : l.initial.left ≡ procs_of_items (flat_map top_items (take l.part-index l.part-items)) ++ l.left;
  added : All (λ i. ItemFits names i.what) (flat_map top_items l.part-items) →
      l.to ≡ l.initial.to ++ flat_map (item_procedures names l.unit) (flat_map top_items (take l.part-index l.part-items));
}
