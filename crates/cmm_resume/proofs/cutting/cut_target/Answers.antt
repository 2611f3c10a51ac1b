use Rattle.std.proofs.Common.{sym, subst}
use Rattle.rv_memory.specs.Regions.{region_of}
use Rattle.rv_memory.specs.States.{state_of}
use Rattle.cmm_resume.specs.Answering.{Change}
use Rattle.cmm_resume.specs.Cuts.{gone}
use Rattle.cmm_resume.specs.Finding.{Finds}
use Rattle.cmm_resume.proofs.cutting.cut_target.Goals as goal

pub code_of-requires : goal.code_of-requires
code_of-requires c =
    let cuts = rw (c.in-Ok-Some.is, c.in-Ok-Some.field-0-is) at c.continuation_of.ensures in
    cuts.0

pub returns-in-Ok-Some-clause-finds : goal.returns-in-Ok-Some-clause-finds
returns-in-Ok-Some-clause-finds c =
    let r = region_of c.args.m.now in
    let s = state_of c.args.r.now c.args.m.now in
    let values = c.args.values.now in
    let cuts = rw (c.in-Ok-Some.is, c.in-Ok-Some.field-0-is) at c.continuation_of.ensures in
    subst (λ (change : Change). Finds change (λ target. gone r s target values) c.code_of.result) (sym (cuts.2 values)) (c.code_of.ensures.finds r s c.args.to cuts.1)

pub returns-in-Ok-None-clause-finds : goal.returns-in-Ok-None-clause-finds
returns-in-Ok-None-clause-finds c =
    let cuts = rw (c.in-Ok-None.is, c.in-Ok-None.field-0-is) at c.continuation_of.ensures in
    cuts c.args.values.now

pub returns-in-Err-clause-finds : goal.returns-in-Err-clause-finds
returns-in-Err-clause-finds c =
    let cuts = rw c.in-Err.is at c.continuation_of.ensures in
    cuts c.args.values.now
