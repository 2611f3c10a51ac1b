use Rattle.std.proofs.Common.{length}
use Rattle.cmm_top.proofs.units.built.Goals as goal

pub refusal-requires : goal.refusal-requires
refusal-requires c = c.in-Err.ensures.named (length c.args.names.now) c.requires.some c.requires.within

pub returns-in-Err-clause-err : goal.returns-in-Err-clause-err
returns-in-Err-clause-err c = λ units are. record { fault = c.in-Err.fault; refuses = c.refusal.ensures; cause = c.in-Err.ensures.err units are }
