use Rattle.cmm_emit_laws.proofs.LaidFrames.{frames_can_be_made, procedures_are_laid}
use Rattle.cmm_emit_laws.proofs.laws.frames_are_laid.Goals as goal

pub returns : goal.returns
returns c = record { made = frames_can_be_made; procedures = procedures_are_laid }
