use Rattle.std.proofs.Common.{◌++◌, ◌∷◌, [], refl, ap, ◌∙◌}
use Rattle.cmm_graph.specs.declared.node.NodeKind.TheVariants.{Branch}
use Rattle.cmm_flow.specs.Operands.{operand_of}
use Rattle.cmm_flow.specs.inside.Nodes.{nodes_of_two, nowhere}
use Rattle.cmm_flow.proofs.Begins.{on_node}
use Rattle.cmm_flow.proofs.Laying.{lays_after}
use Rattle.cmm_flow.proofs.ExpressionsStay.{node_stays}
use Rattle.cmm_flow.proofs.Values.{compare_code}
use Rattle.cmm_flow.proofs.builder.Builder.compare.Goals as goal

pub returns : goal.returns
returns c =
    let op = c.args.operator in let width = c.args.width in let a = c.args.left.now in let b = c.args.right.now in let branch = c.in_ok-branch.branch in
    lays_after _ _ _ _ _ _ _ _ c.two.result c.in_ok-branch.ensures (λ nodes more. node_stays nodes more branch _ _) c.two.ensures
    (ap (λ l. nodes_of_two a b ++ record { tokens = 1; kind = Branch record { operator = op; width = width; left = l; right = c.operand_of-2.result } nowhere nowhere } ∷ []) c.operand_of.ensures
    ∙ ap (λ r. nodes_of_two a b ++ record { tokens = 1; kind = Branch record { operator = op; width = width; left = operand_of 0 a; right = r } nowhere nowhere } ∷ []) c.operand_of-2.ensures)
    (λ g is steps normal. on_node g branch 1 _ is refl)
    (λ n nodes is two. compare_code nodes op width a b c.operand_of.result c.operand_of-2.result n branch c.args.then c.args.otherwise c.operand_of.ensures c.operand_of-2.ensures is two)
