use Rattle.std.proofs.Common.{IfErr, IfOk, subst, sym}
use Rattle.cmm_work.specs.declared.converting.Form.{Form}
use Rattle.cmm_work.specs.inside.Faults.{IsFaultIn}
use Rattle.cmm_work.specs.Forms.{FaultFor, IsFormOf}
use Rattle.cmm_work.proofs.converting.made_of.Goals as goal

pub returns-in-Elf-clause-ok : goal.returns-in-Elf-clause-ok
returns-in-Elf-clause-ok c = λ bytes is.
    subst (λ (form : Form). IfOk c.elf_of.result (λ made. IsFormOf form bytes made.items)) (sym c.in-Elf.is) (c.elf_of.ensures.ok bytes is)

pub returns-in-Elf-clause-err : goal.returns-in-Elf-clause-err
returns-in-Elf-clause-err c = λ bytes is.
    subst (λ (form : Form). IfErr c.elf_of.result (IsFaultIn (FaultFor form) bytes)) (sym c.in-Elf.is) (c.elf_of.ensures.err bytes is)

pub returns-in-SecondVersion-clause-ok : goal.returns-in-SecondVersion-clause-ok
returns-in-SecondVersion-clause-ok c = λ bytes is.
    subst (λ (form : Form). IfOk c.second_of.result (λ made. IsFormOf form bytes made.items)) (sym c.in-SecondVersion.is) (c.second_of.ensures.ok bytes is)

pub returns-in-SecondVersion-clause-err : goal.returns-in-SecondVersion-clause-err
returns-in-SecondVersion-clause-err c = λ bytes is.
    subst (λ (form : Form). IfErr c.second_of.result (IsFaultIn (FaultFor form) bytes)) (sym c.in-SecondVersion.is) (c.second_of.ensures.err bytes is)
