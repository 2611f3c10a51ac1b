use Rattle.std.proofs.Common.{List, true, false, ◌∙◌, subst}
use Rattle.cmm_graph.specs.declared.number.NodeId.{NodeId}
use Rattle.cmm_graph.specs.declared.operand.Local.{Local}
use Rattle.cmm_live.specs.inside.Marking.{Marked}
use Rattle.cmm_live.specs.inside.Unions.{IsUnionOf}
use Rattle.cmm_live.proofs.Unions.{right_side}
use Rattle.cmm_live.proofs.equation.set_before.Goals as goal

pub returns : goal.returns
returns c = right_side c.args.g.now c.args.before.now c.args.kind.now c.in_ok-set.set c.remove_all.new.set c.insert_all.new.set
    (subst (λ (ns : List NodeId). IsUnionOf c.args.g.now c.args.before.now ns c.in_ok-set.set)
    (c.as_slice.ensures ∙ c.in_ok-successors.ensures) c.in_ok-set.ensures)
    (subst (λ (ls : List Local). Marked c.args.g.now c.in_ok-set.set c.remove_all.new.set ls false)
    (c.as_slice-2.ensures ∙ c.in_ok-writes.ensures) c.remove_all.ensures)
    (subst (λ (ls : List Local). Marked c.args.g.now c.remove_all.new.set c.insert_all.new.set ls true)
    (c.as_slice-3.ensures ∙ c.in_ok-reads.ensures) c.insert_all.ensures)
