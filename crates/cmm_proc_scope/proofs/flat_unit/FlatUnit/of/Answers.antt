use Rattle.std.proofs.Common.{map, ap, ◌∙◌}
use Rattle.std.specs.Prelude.{flat_map}
use Rattle.cmm_static_semantics.specs.Items.{items_of}
use Rattle.cmm_symbols.specs.Shown.{thing_item}
use Rattle.cmm_proc_scope.specs.Procs.{item_procs}
use Rattle.cmm_proc_scope.proofs.Procs.{procs_of_whats}
use Rattle.cmm_proc_scope.proofs.flat_unit.FlatUnit.of.Goals as goal

pub invariant_of-result : goal.invariant_of-result
invariant_of-result c = record {
  items = c.in_ok-things.ensures;
  procs = c.in_ok-procs.ensures ∙ ap (flat_map item_procs) (ap (map thing_item) c.as_slice.ensures ∙ c.in_ok-things.ensures) ∙ procs_of_whats (items_of c.args.tree.now);
}
