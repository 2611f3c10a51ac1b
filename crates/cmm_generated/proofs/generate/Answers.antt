use Rattle.std.proofs.Common.{codes, string_bytes, ◌≡◌, ◌++◌, ◌∙◌, ap, append-nil, sym, arith}
use Rattle.cmm_generated.specs.Generated.{first_lines, generated, procedure_lines}
use Rattle.cmm_generated.proofs.Ranges.{lines-more, then}
use Rattle.cmm_generated.proofs.generate.Goals as goal

pub loop-i-init : goal.loop-i-init
unfolding procedure_lines
loop-i-init c =
    c.in_ok-put_first_lines.ensures ∙ ap (λ l. l ++ first_lines c.args.number) c.new-text.ensures.bytes
    ∙ sym (append-nil (first_lines c.args.number))

pub loop-i-preserved : goal.loop-i-preserved
loop-i-preserved c =
    then _ _ _ _ _ c.loop-i.invariant c.in_ok-put_procedure.ensures ∙ ap (λ l. first_lines c.args.number ++ l) (lines-more c.loop-i.i)

pub returns : goal.returns
unfolding generated
returns c =
    let last : c.loop-i.i ≡ 2000 = omega (arith, c.loop-i-test.false, c.loop-i.auto.i-end) in
    let lines = rw last at c.loop-i.invariant in
    rw c.into_bytes.ensures.value
    (then (first_lines c.args.number) (string_bytes c.loop-i.text) (string_bytes c.writeln.new.self) (procedure_lines 2000) (codes "p2000(bits64 x) { return (x); }\n") lines c.in_ok-writeln.ensures.bytes)
