use Rattle.std.proofs.Common.{ℕ, ◌+◌, ◌-◌, ◌<◌, List, [], ◌++◌, ap, ◌∙◌, arith}
use Rattle.cmm_format.specs.Formats.{number_bytes}
use Rattle.cmm_image.specs.SecondFormat.{mask_count, masks}
use Rattle.cmm_image.specs.inside.SecondSpellings.{live_bytes}
use Rattle.cmm_image.proofs.SecondByteLaws.{bytes_begun, next_bits}
use Rattle.cmm_image.proofs.second_bytes.put_live.Goals as goal

pub loop-preserved : goal.loop-preserved
loop-preserved c =
    let n = c.args.variables in
    let less : c.loop.counter < mask_count n = omega (arith, c.loop-test.true, c.div_ceil-end.ensures, bytes_begun n) in
    ap (λ (t : List ℕ). t ++ (masks (mask_count n - (c.loop.counter + 1)) []).spelled c.split_at.result.1.now)
    (c.in_ok-put_u8.ensures ∙ ap (λ (b : ℕ). c.loop.out.items ++ number_bytes 1 b) c.mask_number.ensures)
    ∙ next_bits c.loop.out.items (c.args.out.now.items ++ live_bytes n c.args.places.now) (mask_count n) c.loop.counter c.min.result c.loop.rest.now c.split_at.result.0.now
    c.split_at.result.1.now less c.min.ensures c.split_at.ensures.front c.split_at.ensures.back c.loop.invariant
