use Rattle.std.proofs.lemmas.Result.{err_from_is_err_and}
use Rattle.std.proofs.lemmas.List.{length-set}
use Rattle.cmm_snapshot.proofs.TakingLaws.{first-kept, word-missed, word-read, words-done}
use Rattle.cmm_snapshot.proofs.reading.numbered.Goals as goal

pub returns-in_err-x-clause-fields : goal.returns-in_err-x-clause-fields
returns-in_err-x-clause-fields c =
    let p = err_from_is_err_and c.from_residual.result c.from_residual.ensures.1 in
    rw (p.1, p.2) (word-missed c.loop-register.x c.loop-register.register c.in_err-x.field-0.0 c.loop-register.reader.rest.now _ _ _ c.loop-register-test.true c.in_err-x.ensures c.loop-register.invariant.0)

pub loop-register-preserved : goal.loop-register-preserved
loop-register-preserved c =
    let some = c.loop-register.auto.register in
    let v = c.in_ok-x.field-0 in (
      word-read c.loop-register.x c.loop-register.register v c.loop-register.reader.rest.now _ _ some c.loop-register-test.true c.loop-register.invariant.1 c.in_ok-x.ensures c.loop-register.invariant.0,
      rw length-set c.loop-register.invariant.1,
      first-kept c.loop-register.x c.loop-register.register v some c.loop-register.invariant.2,
    )

pub returns-clause-fields : goal.returns-clause-fields
returns-clause-fields c = words-done c.loop-register.x c.loop-register.register c.loop-register.reader.rest.now _ c.loop-register-test.false c.loop-register.invariant.1 c.loop-register.invariant.0
