use Rattle.std.proofs.Common.{subst, sym}
use Rattle.cmm_work.specs.declared.ending.Ending.{Ending}
use Rattle.cmm_work.specs.inside.Faults.{IsNotImage}
use Rattle.cmm_work.proofs.Preparing.{handed}
use Rattle.cmm_work.proofs.converting.elf_of.Goals as goal

pub returns-in_err-image-clause-err : goal.returns-in_err-image-clause-err
returns-in_err-image-clause-err c = λ bytes is.
    handed c.from_residual.result _ (λ (end : Ending). IsNotImage bytes end)
    (λ end same. subst (IsNotImage bytes) (sym same) (c.in_err-image.ensures.err bytes is)) c.from_residual.ensures.1

pub returns-in-Ok-clause-ok : goal.returns-in-Ok-clause-ok
returns-in-Ok-clause-ok c = λ bytes is. record { image = c.in_ok-image.image; is_image = c.in_ok-image.ensures.ok bytes is; spelled = c.in-Ok.ensures }
