use Rattle.std.proofs.Common.{◌++◌, ◌∷◌, map, take, sym, ap, ◌∙◌}
use Rattle.std.specs.Prelude.{flat_map}
use Rattle.std.proofs.lemmas.List.{map-append}
use Rattle.cmm_ast.specs.declared.statement.Part.TheVariants as parts
use Rattle.cmm_static_semantics.specs.Items.{part_within, parts_in, parts_otherwise}
use Rattle.cmm_symbols.specs.inside.Arms.{in_arms}
use Rattle.cmm_symbols.specs.Shown.{piece_part, whats}
use Rattle.cmm_static_semantics.proofs.Shared.{grown, on_ok, flat_plain}
use Rattle.cmm_symbols.proofs.Flattening.{whats_next, nested, nested_twice}
use Rattle.cmm_symbols.proofs.Nested.{if_law, span_law, switch_law, else_law, else_if_law}
use Rattle.cmm_symbols.proofs.piece.+pieces.Goals as goal

pub add_block-loop-part-preserved : goal.add_block-loop-part-preserved
add_block-loop-part-preserved t c = λ spans.
    let items = c.as_slice-part-items.result.now in
    grown (map piece_part c.loop-part.to) (map piece_part c.args.to.now) (whats (flat_map (part_within spans) (take c.loop-part.part-index items))) (whats (part_within spans c.part-item.result))
    (c.in_ok-add_part.ensures spans) (c.loop-part.invariant spans) (whats_next (part_within spans) items c.loop-part.part-index c.part-item.result c.loop-part-test.true c.part-item.is)

pub add_arms-loop-arm-preserved : goal.add_arms-loop-arm-preserved
add_arms-loop-arm-preserved t c = λ spans.
    grown (map piece_part c.loop-arm.to) (map piece_part c.args.to.now) (in_arms spans (take c.loop-arm.arm-index c.args.arms.now)) (whats (parts_in spans c.arm-item.result.body))
    (c.in_ok-add_block.ensures spans) (c.loop-arm.invariant spans)
    (flat_plain (λ a. whats (parts_in spans a.body)) c.args.arms.now c.loop-arm.arm-index c.arm-item.result c.loop-arm-test.true c.arm-item.is)

pub add_part-returns-in-Stmt : goal.add_part-returns-in-Stmt
add_part-returns-in-Stmt t c = on_ok c.add_stmt.result
    (λ p. λ spans. p spans ∙ ap (λ q. map piece_part c.args.to.now ++ whats (part_within spans q)) (sym c.in-Stmt.is)) c.add_stmt.ensures

pub add_otherwise-returns-in-Else : goal.add_otherwise-returns-in-Else
add_otherwise-returns-in-Else t c = on_ok c.add_block.result
    (λ p. λ spans. p spans ∙ ap (λ q. map piece_part c.args.to.now ++ q) (sym (else_law spans c.args.otherwise.now c.in-Else.block c.in-Else.is))) c.add_block.ensures

pub add_otherwise-returns-in-ElseIf : goal.add_otherwise-returns-in-ElseIf
add_otherwise-returns-in-ElseIf t c = on_ok c.add_stmt.result
    (λ p. λ spans. p spans ∙ ap (λ q. map piece_part c.args.to.now ++ whats (part_within spans (parts.Stmt q))) c.get.ensures
    ∙ ap (λ q. map piece_part c.args.to.now ++ q) (sym (else_if_law spans c.args.otherwise.now c.in-ElseIf.stmt c.in-ElseIf.is))) c.add_stmt.ensures

pub add_stmt-returns-in_ok-add_block-in-If : goal.add_stmt-returns-in_ok-add_block-in-If
add_stmt-returns-in_ok-add_block-in-If t c = on_ok c.add_otherwise.result
    (λ p. λ spans. nested_twice (parts.Stmt c.args.stmt.now) (whats (parts_in spans c.in-If.then)) (whats (parts_otherwise spans c.in-If.otherwise)) (whats (part_within spans (parts.Stmt c.args.stmt.now)))
    (map piece_part c.args.to.now) (map piece_part c.push.new.self) (map piece_part c.add_block.new.to) (map piece_part c.add_otherwise.new.to)
    (if_law spans c.args.stmt.now c.in-If.condition c.in-If.then c.in-If.otherwise c.in-If.is)
    (ap (map piece_part) c.in_ok-push.ensures.ok ∙ map-append piece_part c.args.to.now _)
    (c.in_ok-add_block-in-If.ensures spans) (p spans))
    c.add_otherwise.ensures

pub add_stmt-returns-in-Switch : goal.add_stmt-returns-in-Switch
add_stmt-returns-in-Switch t c = on_ok c.add_arms.result
    (λ p. λ spans. nested (parts.Stmt c.args.stmt.now) (in_arms spans c.in-Switch.arms) (whats (part_within spans (parts.Stmt c.args.stmt.now)))
    (map piece_part c.args.to.now) (map piece_part c.push.new.self) (map piece_part c.add_arms.new.to)
    (switch_law spans c.args.stmt.now c.in-Switch.range c.in-Switch.value c.in-Switch.arms c.in-Switch.is)
    (ap (map piece_part) c.in_ok-push.ensures.ok ∙ map-append piece_part c.args.to.now _)
    (p spans ∙ ap (λ q. map piece_part c.push.new.self ++ in_arms spans q) c.as_slice.ensures))
    c.add_arms.ensures

pub add_stmt-returns-in-Span : goal.add_stmt-returns-in-Span
add_stmt-returns-in-Span t c = on_ok c.add_block-in-Span.result
    (λ p. λ spans. nested (parts.Stmt c.args.stmt.now) (whats (parts_in (record { key = c.in-Span.key; value = c.in-Span.value } ∷ spans) c.in-Span.body)) (whats (part_within spans (parts.Stmt c.args.stmt.now)))
    (map piece_part c.args.to.now) (map piece_part c.push.new.self) (map piece_part c.add_block-in-Span.new.to)
    (span_law spans c.args.stmt.now c.in-Span.key c.in-Span.value c.in-Span.body c.in-Span.is)
    (ap (map piece_part) c.in_ok-push.ensures.ok ∙ map-append piece_part c.args.to.now _)
    (p (record { key = c.in-Span.key; value = c.in-Span.value } ∷ spans)))
    c.add_block-in-Span.ensures
