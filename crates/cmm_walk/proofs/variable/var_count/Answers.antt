use Rattle.std.proofs.Common.{arith}
use Rattle.cmm_walk.proofs.Tables.{procedure_bounds}
use Rattle.cmm_walk.proofs.variable.var_count.Goals as goal

pub overflow_cast-result : goal.overflow_cast-result
overflow_cast-result c =
    let few = (procedure_bounds c.args.i.now c.procedure_of.ensures.kept c.args.a.now.proc).variables in
    rw (c.len.ensures, c.procedure_of.ensures.row) (omega (arith, few))
