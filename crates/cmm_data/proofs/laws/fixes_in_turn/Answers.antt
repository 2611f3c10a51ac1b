use Rattle.cmm_data.proofs.Fixes.{fixes_are_filled}
use Rattle.cmm_data.proofs.laws.fixes_in_turn.Goals as goal

pub returns : goal.returns
returns c = fixes_are_filled
