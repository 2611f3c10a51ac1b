use Rattle.std.proofs.Common.{◌≡◌, List, subst}
use Rattle.cmm_ast.specs.declared.unit.Unit.{Unit as UnitTree}
use Rattle.cmm_elaboration.specs.Laws.{AreRead, TextsAreBytes}
use Rattle.cmm_elaboration.specs.Meaning.{meaning_of}
use Rattle.cmm_program.specs.InRange.{IsInRange}
use Rattle.cmm_static.proofs.program.check.Goals as goal

pub returns-clause-program : goal.returns-clause-program
returns-clause-program c =
    subst (λ (ts : List UnitTree). AreRead ts → TextsAreBytes ts → c.in_ok-program.program ≡ meaning_of ts) c.in_ok-checked.ensures.ok c.in_ok-program.ensures.program

pub returns-clause-range : goal.returns-clause-range
returns-clause-range c =
    subst (λ (ts : List UnitTree). AreRead ts → TextsAreBytes ts → IsInRange c.in_ok-program.program) c.in_ok-checked.ensures.ok c.in_ok-program.ensures.range
