use Rattle.std.proofs.Common.{◌<◌, length, arith}
use Rattle.cmm_bitset.proofs.Joining.{joins_none, joins_read, joins_all, differ, stay}
use Rattle.cmm_bitset.proofs.words.join.Goals as goal

pub loop-i-init : goal.loop-i-init
loop-i-init c = joins_none _ _

pub loop-i-preserved : goal.loop-i-preserved
loop-i-preserved c =
    let so_far = c.loop-i.invariant in
    let within : c.loop-i.i < length c.loop-i.words.items = omega (arith, so_far.long) in
    joins_read _ _ _ _ _ _ _ within c.index.ensures c.index-in-loop-i.ensures so_far

pub returns-clause-joined : goal.returns-clause-joined
returns-clause-joined c = joins_all _ _ _ _ _ c.requires (omega (arith, c.loop-i.invariant.long)) c.loop-i.invariant

pub returns-clause-grew : goal.returns-clause-grew
returns-clause-grew c = differ _ _ _ _ _ c.loop-i.invariant c.type_inv.words

pub returns-clause-settled : goal.returns-clause-settled
returns-clause-settled c = stay _ _ _ c.loop-i.invariant.grown
