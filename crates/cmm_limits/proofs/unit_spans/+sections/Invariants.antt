use Rattle.std.proofs.Common.{◌≡◌, List, [], ◌++◌, take}
use Rattle.std.specs.Prelude.{flat_map}
use Rattle.cmm_static_semantics.specs.Items.{SpanTree, item_within}
use Rattle.cmm_static_semantics.specs.Limits.{tokens_of}
use Rattle.cmm_limits.specs.Capped.{capped}
use Rattle.cmm_limits.specs.inside.InForce.{HasTokens}
use Rattle.cmm_limits.specs.inside.OfUnits.{spans_in}
use Rattle.cmm_proc_scope.specs.Procs.{BeginWith, procs_of_items}
use Rattle.cmm_limits.proofs.unit_spans.+sections.Given as goal

abbrev pub invariant-in_items-loop-item : goal.invariant-in_items-loop-item
invariant-in_items-loop-item g l = record {
  left : BeginWith l.initial.left (flat_map (item_within []) l.items) → l.initial.left ≡ procs_of_items (flat_map (item_within []) (take l.item-index l.items)) ++ l.left;
  tokens : l.tokens ≡ l.initial.tokens;
  sum : BeginWith l.initial.left (flat_map (item_within []) l.items) → (spans : List SpanTree) → HasTokens l.initial.tokens l.different (tokens_of (g.N.Names.senses l.names) spans) →
      l.sum ≡ capped (spans_in (g.N.Names.senses l.names) (flat_map (item_within spans) (take l.item-index l.items)));
}
