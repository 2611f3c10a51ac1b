use Rattle.std.proofs.lemmas.Option.{IfSome_then}
use Rattle.cmm_graph.specs.declared.operand.Operand.TheVariants as operand
use Rattle.cmm_hoist.proofs.worth.keep_of.Goals as goal

pub returns-clause-named : goal.returns-clause-named
returns-clause-named c = λ among within all.
    let worthy = c.of_node-worthy in
    c.in_ok-keep-2.ensures.named among (IfSome_then worthy.result.second worthy.ensures.second (λ x is. within (operand.Constant x) is))
    (c.in_ok-keep.ensures.named among (IfSome_then worthy.result.first worthy.ensures.first (λ x is. within (operand.Constant x) is)) all)
