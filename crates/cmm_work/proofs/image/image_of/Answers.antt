use Rattle.std.proofs.Common.{subst}
use Rattle.cmm_image.specs.declared.reading.TheConstants.{IMAGE_LIMIT}
use Rattle.cmm_work.specs.declared.reading.FileBytes.{FileBytes}
use Rattle.cmm_work.specs.Reading.{IsFileOf}
use Rattle.cmm_image.proofs.Shared.{long_is_refused}
use Rattle.cmm_work.proofs.image.image_of.Goals as goal

pub returns-in-TooLong-clause-err : goal.returns-in-TooLong-clause-err
returns-in-TooLong-clause-err c = λ bytes is. long_is_refused bytes (subst (λ (r : FileBytes). IsFileOf IMAGE_LIMIT bytes r) c.in-TooLong.is is)
