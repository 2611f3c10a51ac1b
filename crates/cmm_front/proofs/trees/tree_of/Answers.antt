use Rattle.cmm_front.proofs.Read.{syntax_is, tree_is}
use Rattle.cmm_front.proofs.trees.tree_of.Goals as goal

pub returns-in-Ok-clause-ok : goal.returns-in-Ok-clause-ok
returns-in-Ok-clause-ok c unit lexes = tree_is unit c.args.tokens.now c.in-Ok.tree lexes c.in-Ok.ensures.ok c.in-Ok.ensures.places

pub returns-in-At-clause-err : goal.returns-in-At-clause-err
returns-in-At-clause-err c unit lexes =
    syntax_is unit c.args.tokens.now c.in-At.rule c.in-At.token c.args.number c.fault_at.result lexes (rw c.in-At.is at c.in-Err.ensures.err)
    c.fault_at.ensures.rule c.fault_at.ensures.unit c.fault_at.ensures.place
