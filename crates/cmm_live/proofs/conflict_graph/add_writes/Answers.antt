use Rattle.std.proofs.Common.{List, ℕ, ap, ◌∙◌, subst}
use Rattle.cmm_graph.specs.declared.number.NodeId.{NodeId}
use Rattle.cmm_graph.specs.declared.operand.Local.{Local}
use Rattle.cmm_live.specs.inside.Interfering.{is_number_of, is_one_of}
use Rattle.cmm_live.specs.inside.Unions.{IsUnionOf}
use Rattle.cmm_live.proofs.Interfering.{writes_taken}
use Rattle.cmm_live.proofs.conflict_graph.add_writes.Goals as goal

pub returns : goal.returns
returns c =
    let g = c.args.g.now in
    writes_taken g c.args.before.now c.args.node.now c.deref.result.now c.in_ok-after.after c.args.rows.now.items _ c.requires.rows
    (λ a. ap (λ (l : List ℕ). is_one_of l a) c.deref.ensures.value ∙ (c.in_ok-numbers.ensures.exact a
    ∙ ap (λ (ls : List Local). is_number_of g ls a) (c.as_slice.ensures ∙ c.in_ok-writes.ensures)))
    (subst (λ (ns : List NodeId). IsUnionOf g c.args.before.now ns c.in_ok-after.after) (c.as_slice-2.ensures ∙ c.in_ok-successors.ensures) c.in_ok-after.ensures)
    c.take_in.ensures
