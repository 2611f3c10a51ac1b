use Rattle.std.proofs.Common.{◌≡◌, ◌++◌, take}
use Rattle.std.specs.Prelude.{flat_map}
use Rattle.cmm_static_semantics.specs.Items.{top_items}
use Rattle.cmm_limits.specs.Capped.{capped}
use Rattle.cmm_limits.specs.inside.OfUnits.{spans_in}
use Rattle.cmm_proc_scope.specs.Procs.{procs_of_items}
use Rattle.cmm_limits.proofs.unit_spans.site_spans.Given as goal

abbrev pub invariant-loop-part : goal.invariant-loop-part
invariant-loop-part g l = record {
  left : l.initial.left ≡ procs_of_items (flat_map top_items (take l.part-index l.part-items)) ++ l.left;
  sum : l.sum ≡ capped (spans_in (g.N.Names.senses l.names) (flat_map top_items (take l.part-index l.part-items)));
}
