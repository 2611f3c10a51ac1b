use Rattle.std.proofs.Common.{arith}
use Rattle.rv_table.specs.declared.instruction.Instr.TheVariants.{Add}
use Rattle.cmm_effects.proofs.Shared.{adds_one, adds_then, adds_weaker, by_last}
use Rattle.cmm_select.proofs.Chains.{also}
use Rattle.cmm_select.proofs.Gathering.{joins}
use Rattle.cmm_select.specs.inside.Accesses.{load_part}
use Rattle.cmm_select.specs.inside.Gathering.{shift_up}
use Rattle.cmm_select.proofs.accesses.join.Goals as goal

pub returns-clause-joins : goal.returns-clause-joins
returns-clause-joins c =
    by_last c.emit-3.result c.emit-3.ensures.parts
    (λ h.
    let old = c.args.asm.now.parts in
    let p = c.args.access in
    let o = c.args.offset in
    let one = also old (shift_up p) in
    let two = also one (load_part p 6 5 o) in
    rw (h, c.in_ok-emit-2.ensures.parts, c.in_ok-emit.ensures.parts, c.shift_up.ensures.is, c.load_part.ensures.is)
    (adds_weaker (adds_then (adds_one old (shift_up p)) (adds_then (adds_one one (load_part p 6 5 o)) (adds_one two (Add c.args.rd 7 6)))) (omega arith)
    (λ x from to does. joins x p o c.args.rd from to c.requires.near c.requires.access (omega (arith, c.requires.low)) does)))
