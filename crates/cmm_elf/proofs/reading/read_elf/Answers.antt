use Rattle.std.proofs.Common.{Err, sym, subst, arith}
use Rattle.cmm_elf.specs.declared.fault.ElfFault.{ElfFault}
use Rattle.cmm_elf.specs.ElfFiles.{IsRefusal}
use Rattle.cmm_elf.proofs.ReadLaws.{spelled-so, segments-are, no_file, fault-first, no_fault, fault-is}
use Rattle.cmm_elf.proofs.reading.read_elf.Goals as goal

pub returns-in-Ok-clause-ok : goal.returns-in-Ok-clause-ok
returns-in-Ok-clause-ok c = spelled-so c.args.bytes.now _ (λ i. omega (arith, c.type_inv.bytes i)) c.in-Ok.ensures

pub returns-in-Ok-clause-only : goal.returns-in-Ok-clause-only
returns-in-Ok-clause-only c = λ s p. segments-are c.args.bytes.now _ s c.in-Ok.ensures p

pub returns-in-Ok-clause-refused : goal.returns-in-Ok-clause-refused
returns-in-Ok-clause-refused c = λ rule offset f. no_fault c.args.bytes.now _ rule offset c.in-Ok.ensures f

pub returns-in-Err-clause-only : goal.returns-in-Err-clause-only
returns-in-Err-clause-only c = rw c.fault.ensures (λ s p. no_file c.args.bytes.now s c.in-Err.why c.in-Err.ensures p)

pub returns-in-Err-clause-err : goal.returns-in-Err-clause-err
returns-in-Err-clause-err c = rw c.fault.ensures (fault-first c.args.bytes.now c.in-Err.why c.in-Err.ensures)

pub returns-in-Err-clause-refused : goal.returns-in-Err-clause-refused
returns-in-Err-clause-refused c = λ rule offset f. subst (λ (why : ElfFault). IsRefusal rule offset (Err why)) (sym c.fault.ensures) (fault-is c.args.bytes.now rule offset c.in-Err.why c.in-Err.ensures f)
