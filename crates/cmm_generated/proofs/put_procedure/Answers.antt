use Rattle.std.proofs.Common.{◌≡◌, ◌%◌, arith}
use Rattle.cmm_generated.specs.Generated.{line}
use Rattle.cmm_generated.proofs.put_procedure.Goals as goal

pub returns-in-0 : goal.returns-in-0
unfolding line
returns-in-0 c = rw c.in-0.is c.writeln.ensures.bytes

pub returns-in-1 : goal.returns-in-1
unfolding line
returns-in-1 c = rw c.in-1.is c.writeln-in-1.ensures.bytes

pub returns-in-2 : goal.returns-in-2
unfolding line
returns-in-2 c = rw c.in-2.is c.writeln-in-2.ensures.bytes

pub returns-in_default : goal.returns-in_default
unfolding line
returns-in_default c =
    let sort : c.args.i % 4 ≡ 3 = omega (arith, c.in_default) in
    rw sort c.writeln-in_default.ensures.bytes
