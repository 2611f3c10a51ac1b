use Rattle.std.proofs.Common.{[], ◌++◌, sym, ap, ◌∙◌}
use Rattle.std.specs.Prelude.{flat_map}
use Rattle.cmm_static_semantics.specs.Items.{item_within, top_items}
use Rattle.cmm_static_semantics.proofs.Shared.{on_ok}
use Rattle.cmm_proc_scope.specs.Procs.{procs_of_items}
use Rattle.cmm_proc_scope.proofs.Shared.{begin_as, left_of_one, next_of_one}
use Rattle.cmm_lower.proofs.Sections.{alone_added, section_added}
use Rattle.cmm_lower.proofs.units.add_part.Goals as goal

pub returns-in-Section-clause-left : goal.returns-in-Section-clause-left
returns-in-Section-clause-left g c =
    let inside = ap (λ q. procs_of_items (top_items q)) c.in-Section.is ∙ ap (λ is. procs_of_items (flat_map (item_within []) is)) (sym c.as_slice.ensures) in
    on_ok c.add_items.result
    (λ left. λ first. left (begin_as c.args.left.now (top_items c.args.part.now) (flat_map (item_within []) c.as_slice.result.now) inside first)
    ∙ ap (λ ps. ps ++ c.add_items.new.left) (sym inside))
    c.add_items.ensures.left

pub returns-in-Section-clause-procs : goal.returns-in-Section-clause-procs
returns-in-Section-clause-procs g c =
    let inside = ap (λ q. procs_of_items (top_items q)) c.in-Section.is ∙ ap (λ is. procs_of_items (flat_map (item_within []) is)) (sym c.as_slice.ensures) in
    on_ok c.add_items.result
    (λ added. λ first. section_added (g.N.Names.senses c.args.names.now) c.args.unit c.args.part.now c.in-Section.section c.as_slice.result.now c.args.to.now c.add_items.new.to
    c.in-Section.is c.as_slice.ensures (added (begin_as c.args.left.now (top_items c.args.part.now) (flat_map (item_within []) c.as_slice.result.now) inside first)))
    c.add_items.ensures.procs

pub returns-in-Proc-clause-left : goal.returns-in-Proc-clause-left
returns-in-Proc-clause-left g c = let is = top_items c.args.part.now in let one = ap (λ q. procs_of_items (top_items q)) c.in-Proc.is in
    on_ok c.add_next.result (λ taken. λ first. let next = next_of_one c.args.left.now is c.in-Proc.field-0 one first in
    left_of_one c.args.left.now c.add_next.new.left next.0 is c.in-Proc.field-0 one next.1 (taken c.in-Proc.field-0 next.0 next.1)) c.add_next.ensures.left

pub returns-in-Proc-clause-procs : goal.returns-in-Proc-clause-procs
returns-in-Proc-clause-procs g c = let is = top_items c.args.part.now in let one = ap (λ q. procs_of_items (top_items q)) c.in-Proc.is in
    on_ok c.add_next.result (λ added. λ first. let next = next_of_one c.args.left.now is c.in-Proc.field-0 one first in
    alone_added (g.N.Names.senses c.args.names.now) c.args.unit c.args.part.now c.in-Proc.field-0 c.args.to.now c.add_next.new.to c.in-Proc.is
    (added c.in-Proc.field-0 next.0 next.1)) c.add_next.ensures.procs
