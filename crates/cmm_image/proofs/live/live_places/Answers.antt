use Rattle.std.proofs.Common.{◌<◌, length, arith}
use Rattle.std.proofs.lemmas.Bool.Decides.{nat_tests}
use Rattle.std.proofs.lemmas.Result.{err_from_is_err_and}
use Rattle.cmm_image.proofs.LiveLaws.{broken_places, next_places}
use Rattle.cmm_image.proofs.live.live_places.Goals as goal

pub returns-in_err-bits : goal.returns-in_err-bits
returns-in_err-bits c =
    let p = err_from_is_err_and c.from_residual.result c.from_residual.ensures.1 in
    let some : 0 < length c.loop-rest.rest.now = (let test = c.loop-rest-test.ensures in grind (arith, nat_tests, test)) in
    rw (p.1, p.2)
    (broken_places c.loop-rest.live.items c.loop-rest.rest.now c.split_at.result.0.now c.split_at.result.1.now c.min.result some c.min.ensures c.split_at.ensures.front
    c.split_at.ensures.back c.in_err-bits.field-0.0 c.loop-rest.reader.rest.now c.live_bits.new.reader.rest.now c.live_bits.new.reader.rest.now _ c.in_err-bits.ensures c.loop-rest.invariant)

pub loop-rest-preserved : goal.loop-rest-preserved
loop-rest-preserved c =
    let some : 0 < length c.loop-rest.rest.now = (let test = c.loop-rest-test.ensures in grind (arith, nat_tests, test)) in
    rw c.in_ok-add_masked.ensures
    (next_places c.loop-rest.live.items c.loop-rest.rest.now c.split_at.result.0.now c.split_at.result.1.now c.min.result some c.min.ensures c.split_at.ensures.front
    c.split_at.ensures.back c.loop-rest.reader.rest.now c.in_ok-bits.bits c.live_bits.new.reader.rest.now _ c.in_ok-bits.ensures c.loop-rest.invariant)
