use Rattle.std.proofs.Common.{[], ◌++◌, refl, sym, ap, ◌∙◌, subst}
use Rattle.std.specs.Prelude.{flat_map}
use Rattle.cmm_ast.specs.declared.unit.Item.TheVariants as items
use Rattle.cmm_static_semantics.specs.Items.{item_within, top_items}
use Rattle.cmm_static_semantics.proofs.Shared.{on_ok}
use Rattle.cmm_proc_scope.specs.Procs.{procs_of_items}
use Rattle.cmm_proc_scope.proofs.Shared.{begin_as, left_of_one, next_of_one}
use Rattle.cmm_limits.specs.Capped.{capped}
use Rattle.cmm_limits.specs.inside.InForce.{HasTokens}
use Rattle.cmm_limits.specs.inside.OfUnits.{spans_in}
use Rattle.cmm_limits.proofs.Spans.{from_ok}
use Rattle.cmm_limits.proofs.Sums.{proc_item}
use Rattle.cmm_limits.proofs.unit_spans.in_top_level.Goals as goal

pub returns-in-Section-clause-left : goal.returns-in-Section-clause-left
returns-in-Section-clause-left g c =
    let inside = ap (λ q. procs_of_items (top_items q)) c.in-Section.is ∙ ap (λ is. procs_of_items (flat_map (item_within []) is)) (sym c.as_slice.ensures) in
    on_ok c.in_items.result
    (λ left. λ first. left (begin_as c.args.left.now (top_items c.args.part.now) (flat_map (item_within []) c.as_slice.result.now) inside first)
    ∙ ap (λ ps. ps ++ c.in_items.new.left) (sym inside))
    c.in_items.ensures.left

pub returns-in-Section-clause-sum : goal.returns-in-Section-clause-sum
returns-in-Section-clause-sum g c = let names = g.N.Names.senses c.args.names.now in
    let inside = ap (λ q. procs_of_items (top_items q)) c.in-Section.is ∙ ap (λ is. procs_of_items (flat_map (item_within []) is)) (sym c.as_slice.ensures) in
    let none : HasTokens c.new-tokens.result 0 [] = subst (λ ts. HasTokens ts 0 []) (sym c.new-tokens.ensures) (record { member = λ n. refl; counted = refl }) in
    from_ok c.in_items.result
    (λ sum adds. λ first. adds (begin_as c.args.left.now (top_items c.args.part.now) (flat_map (item_within []) c.as_slice.result.now) inside first) [] none
    ∙ ap (λ is. capped (spans_in names (flat_map (item_within []) is))) c.as_slice.ensures
    ∙ ap (λ q. capped (spans_in names (top_items q))) (sym c.in-Section.is))
    c.in_items.ensures.sum

pub returns-clause-left : goal.returns-clause-left
returns-clause-left g c = let is = top_items c.args.part.now in let one = ap (λ q. procs_of_items (top_items q)) c.in-Proc.is in
    on_ok c.in_next.result (λ taken. λ first. let next = next_of_one c.args.left.now is c.in-Proc.field-0 one first in
    left_of_one c.args.left.now c.in_next.new.left next.0 is c.in-Proc.field-0 one next.1 (taken c.in-Proc.field-0 next.0 next.1)) c.in_next.ensures.left

pub returns-clause-sum : goal.returns-clause-sum
returns-clause-sum g c = let names = g.N.Names.senses c.args.names.now in
    let is = top_items c.args.part.now in let one = ap (λ q. procs_of_items (top_items q)) c.in-Proc.is in
    let none : HasTokens c.new-tokens.result 0 [] = subst (λ ts. HasTokens ts 0 []) (sym c.new-tokens.ensures) (record { member = λ n. refl; counted = refl }) in
    from_ok c.in_next.result (λ sum adds. λ first. let next = next_of_one c.args.left.now is c.in-Proc.field-0 one first in
    adds c.in-Proc.field-0 next.0 next.1 [] none
    ∙ ap capped (sym (ap (λ q. spans_in names (top_items q)) c.in-Proc.is ∙ proc_item names [] (items.Proc c.in-Proc.field-0) c.in-Proc.field-0 refl))) c.in_next.ensures.sum
