use Rattle.std.proofs.Common.{length, inl, inr, arith}
use Rattle.std.proofs.lemmas.Bool.{cases_lt}
use Rattle.std.proofs.lemmas.List.{get_or_past}
use Rattle.std.proofs.lemmas.Result.{on_ok_weaker}
use Rattle.cmm_snapshot.proofs.writing.put_snapshot.Goals as goal

pub returns-clause-fits : goal.returns-clause-fits
returns-clause-fits c =
    on_ok_weaker c.put_memory.result (λ _ k.
    elim (cases_lt k (length c.put_memory.new.out.items)) [
      | inl lt ↦ omega (arith, c.type_inv.out k 0 lt)
      | inr le ↦ rw (get_or_past c.put_memory.new.out.items k 0 le) (omega arith)
    ]) c.put_memory.ensures.bytes
