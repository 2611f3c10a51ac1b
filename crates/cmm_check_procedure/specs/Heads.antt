-- What stands before an arm's block, of an arm.
use Rattle.cmm_ast.specs.declared.statement.Arm.{Arm}
use Rattle.cmm_static_semantics.specs.Switches.{Head}

abbrev pub arm_head : Arm → Head
arm_head a = record { token = a.token; case_ = a.case }
