use Rattle.std.proofs.Common.{◌∙◌, arith}
use Rattle.cmm_image.proofs.ReadLaws.{spelled-so, image-is, no_image, fault-first, no_fault, fault-is}
use Rattle.cmm_image.proofs.reading.read_image.Goals as goal

pub returns-in-Ok-clause-ok : goal.returns-in-Ok-clause-ok
returns-in-Ok-clause-ok c = rw c.new.ensures (spelled-so c.args.bytes.now c.in-Ok.parts (λ i. omega (arith, c.type_inv.bytes i)) c.in-Ok.ensures)

pub returns-in-Ok-clause-only : goal.returns-in-Ok-clause-only
returns-in-Ok-clause-only c = λ i s. c.new.ensures ∙ image-is c.args.bytes.now c.in-Ok.parts i c.in-Ok.ensures s

pub returns-in-Ok-clause-refused : goal.returns-in-Ok-clause-refused
returns-in-Ok-clause-refused c = λ rule offset f. no_fault c.args.bytes.now c.in-Ok.parts rule offset c.in-Ok.ensures f

pub returns-in-Err-clause-only : goal.returns-in-Err-clause-only
returns-in-Err-clause-only c = rw c.fault.ensures (λ i s. no_image c.args.bytes.now i c.in-Err.why c.in-Err.ensures s)

pub returns-in-Err-clause-err : goal.returns-in-Err-clause-err
returns-in-Err-clause-err c = rw c.fault.ensures (fault-first c.args.bytes.now c.in-Err.why c.in-Err.ensures)

pub returns-in-Err-clause-refused : goal.returns-in-Err-clause-refused
returns-in-Err-clause-refused c = rw c.fault.ensures (λ rule offset f. fault-is c.args.bytes.now rule offset c.in-Err.why c.in-Err.ensures f)

pub new-requires : goal.new-requires
new-requires c = (spelled-so c.args.bytes.now c.in-Ok.parts (λ i. omega (arith, c.type_inv.bytes i)) c.in-Ok.ensures).is_image
