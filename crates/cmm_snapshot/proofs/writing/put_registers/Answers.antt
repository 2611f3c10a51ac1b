use Rattle.std.proofs.Common.{arith}
use Rattle.std.proofs.lemmas.Result.{on_ok_weaker}
use Rattle.cmm_snapshot.proofs.WritingLaws.{registers-hold}
use Rattle.cmm_snapshot.proofs.writing.put_registers.Goals as goal

pub returns-clause-held : goal.returns-clause-held
returns-clause-held c =
    on_ok_weaker c.put_u64-2.result (λ _. registers-hold c.args.x.now c.args.pc c.requires (λ i. omega (arith, c.type_inv.x i)) (omega (arith, c.ranges.pc))) c.put_u64-2.ensures
