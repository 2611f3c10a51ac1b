-- The state once control has gone where a cut goes: nothing is restored but the frame.
use Rattle.std.specs.Prelude.{ℕ, List}
use Rattle.rv_table.specs.Machine.{State}
use Rattle.rv_table.specs.Registers.{with_register}
use Rattle.cmm_abi.specs.declared.registers.TheConstants.{FRAME}
use Rattle.cmm_abi.specs.Regions.{Region, with_values}
use Rattle.cmm_image_machine.specs.Changes.{at_pc}
use Rattle.cmm_resume.specs.declared.cutting.CutTarget.{CutTarget}

abbrev pub gone : Region → State → CutTarget → List ℕ → State
gone r s target values = at_pc target.code (with_values r values record s { registers = with_register s.registers FRAME target.frame })
