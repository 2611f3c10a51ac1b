use Rattle.std.proofs.Common.{◌∷◌, ◌++◌, [], arith, pos}
use Rattle.rv_asm.specs.declared.part.Part.TheVariants.{Single}
use Rattle.rv_table.specs.Words.{signed}
use Rattle.rv_table.specs.declared.instruction.Instr.TheVariants.{Addi, Slli}
use Rattle.cmm_effects.proofs.Shared.{adds_one, adds_then, adds_weaker, leads_weaker}
use Rattle.cmm_select.proofs.Constants.{has_more, one_less, sets_rounded}
use Rattle.cmm_select.proofs.number.+load_rounded.Goals as goal

pub returns-then-number-lt-LOW-clause-sets : goal.returns-then-number-lt-LOW-clause-sets
returns-then-number-lt-LOW-clause-sets t c =
    adds_weaker c.in_ok-load_low.ensures.sets (omega arith)
    (λ x from to leads. leads_weaker leads (omega arith) (λ s sound p. p) (λ s u sound p sets. sets))

pub load_rounded-requires : goal.load_rounded-requires
load_rounded-requires t c =
    let n = c.args.number in
    let some = has_more n c.args.more (omega (arith, c.if-number-lt-LOW.false)) c.requires.pieces in
    rw c.rounded.ensures (omega (arith, c.decreases, c.if-number-lt-LOW.false), (c.requires.low, (c.requires.high, one_less n c.args.more some c.requires.pieces)))

pub returns-clause-sets : goal.returns-clause-sets
returns-clause-sets t c =
    let n = c.args.number in
    let rd = c.args.rd in
    let old = c.load_rounded.new.asm.parts in
    let some = has_more n c.args.more (omega (arith, c.if-number-lt-LOW.false)) c.requires.pieces in
    let first = rw c.rounded.ensures at c.in_ok-load_rounded.ensures.sets in
    rw (c.in_ok-emit-2.ensures.parts, c.in_ok-emit.ensures.parts, c.add_rest.ensures.is)
    (adds_weaker (adds_then first (adds_then (adds_one old (Slli rd rd (pos 12))) (adds_one (old ++ Single (Slli rd rd (pos 12)) ∷ []) (Addi rd rd (signed 12 n))))) (omega (arith, some))
    (λ x from to does. sets_rounded x rd n from to (omega (arith, c.requires.low)) c.args.more c.ranges.number.fits some does))
