use Rattle.std.proofs.Common.{◌≡◌, ℕ, List, take}
use Rattle.std.specs.Prelude.{flat_map}
use Rattle.cmm_static_semantics.specs.Items.{SpanTree, part_within}
use Rattle.cmm_static_semantics.specs.Limits.{site_tokens}
use Rattle.cmm_static_semantics.specs.Scopes.{senses}
use Rattle.cmm_proc_scope.specs.Bodies.{scope_of_body}
use Rattle.cmm_limits.specs.Capped.{capped}
use Rattle.cmm_limits.specs.inside.InForce.{AreInForce, parts_of_arms}
use Rattle.cmm_limits.proofs.span_tokens.+spans.Given as goal

abbrev pub invariant-in_block-loop-part : goal.invariant-in_block-loop-part
invariant-in_block-loop-part g l = (l.tokens ≡ l.initial.tokens)
    × ((spans : List SpanTree) (around : List ℕ) → AreInForce (senses (scope_of_body g.N.Names.senses l.names)) l.initial.tokens l.different spans around →
    l.sum ≡ capped (site_tokens (scope_of_body g.N.Names.senses l.names) around (flat_map (part_within spans) (take l.part-index l.part-items))))

abbrev pub invariant-in_arms-loop-arm : goal.invariant-in_arms-loop-arm
invariant-in_arms-loop-arm g l = (l.tokens ≡ l.initial.tokens)
    × ((spans : List SpanTree) (around : List ℕ) → AreInForce (senses (scope_of_body g.N.Names.senses l.names)) l.initial.tokens l.different spans around →
    l.sum ≡ capped (site_tokens (scope_of_body g.N.Names.senses l.names) around (parts_of_arms spans (take l.arm-index l.arms))))
