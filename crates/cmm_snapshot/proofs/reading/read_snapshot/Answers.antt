use Rattle.std.proofs.Common.{arith}
use Rattle.cmm_snapshot.proofs.ReadLaws.{spelled-so, snapshot-is, no_snapshot, fault-first, no_fault, fault-is}
use Rattle.cmm_snapshot.proofs.reading.read_snapshot.Goals as goal

pub returns-in-Ok-clause-ok : goal.returns-in-Ok-clause-ok
returns-in-Ok-clause-ok c = spelled-so c.args.image.now c.args.bytes.now _ (λ i. omega (arith, c.type_inv.bytes i)) c.in-Ok.ensures.taken

pub returns-in-Ok-clause-only : goal.returns-in-Ok-clause-only
returns-in-Ok-clause-only c = λ s p. snapshot-is c.args.image.now c.args.bytes.now _ s c.in-Ok.ensures.taken p

pub returns-in-Ok-clause-refused : goal.returns-in-Ok-clause-refused
returns-in-Ok-clause-refused c = λ rule offset f. no_fault c.args.image.now c.args.bytes.now _ rule offset c.in-Ok.ensures.taken f

pub returns-in-Err-clause-only : goal.returns-in-Err-clause-only
returns-in-Err-clause-only c = rw c.fault.ensures (λ s p. no_snapshot c.args.image.now c.args.bytes.now s c.in-Err.why c.in-Err.ensures.taken p)

pub returns-in-Err-clause-err : goal.returns-in-Err-clause-err
returns-in-Err-clause-err c = rw c.fault.ensures (fault-first c.args.image.now c.args.bytes.now c.in-Err.why c.in-Err.ensures.taken)

pub returns-in-Err-clause-refused : goal.returns-in-Err-clause-refused
returns-in-Err-clause-refused c = rw c.fault.ensures (λ rule offset f. fault-is c.args.image.now c.args.bytes.now rule offset c.in-Err.why c.in-Err.ensures.taken f)
