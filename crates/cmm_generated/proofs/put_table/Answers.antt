use Rattle.std.proofs.Common.{◌≡◌, ◌++◌, ◌-◌, codes, string_bytes, ap, ◌∙◌, arith}
use Rattle.cmm_generated.specs.Generated.{table_line}
use Rattle.cmm_generated.proofs.Ranges.{cells-first, cells-more, on_ok, then}
use Rattle.cmm_generated.proofs.put_table.Goals as goal

pub loop-i-init : goal.loop-i-init
loop-i-init c =
    c.in_ok-write.ensures.bytes
    ∙ ap (λ l. string_bytes c.args.text.now ++ (codes "section \"data\" { t: bits64 { " ++ l)) (cells-first c.args.number)

pub loop-i-preserved : goal.loop-i-preserved
loop-i-preserved c =
    then _ _ _ _ _ c.loop-i.invariant c.in_ok-write-2.ensures.bytes
    ∙ ap (λ l. string_bytes c.args.text.now ++ (codes "section \"data\" { t: bits64 { " ++ l)) (cells-more c.args.number c.loop-i.i c.loop-i.auto.i)

pub returns : goal.returns
unfolding table_line
returns c =
    let last : c.loop-i.i - 1 ≡ 1999 = omega (arith, c.loop-i-test.false, c.loop-i.auto.i-end) in
    on_ok c.writeln.result (λ bytes. then _ _ _ _ _ (rw last at c.loop-i.invariant) bytes) c.writeln.ensures.bytes
