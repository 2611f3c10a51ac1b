use Rattle.std.proofs.Common.{◌∷◌, ◌++◌, [], arith}
use Rattle.rv_asm.specs.declared.part.Part.TheVariants.{Address}
use Rattle.rv_table.specs.declared.instruction.Instr.TheVariants.{Add}
use Rattle.cmm_effects.proofs.Shared.{adds_one, adds_part, adds_then, adds_weaker, by_last, leads_weaker}
use Rattle.cmm_select.proofs.Constants.{eight_at_most}
use Rattle.cmm_select.proofs.Symbols.{brings_address, brings_address_on}
use Rattle.cmm_select.proofs.operand.bring_symbol.Goals as goal

pub returns-then-plus-eq0-clause-brings : goal.returns-then-plus-eq0-clause-brings
returns-then-plus-eq0-clause-brings c =
    by_last c.address.result c.address.ensures.parts
    (λ h.
    let rd = c.args.rd in
    let l = c.args.of in
    rw (h, c.if-plus-eq0.true)
    (adds_weaker (adds_part c.args.asm.now.parts (Address rd l) 2 (omega arith)) (omega arith)
    (λ x from to does. leads_weaker (brings_address x rd from to l does) (omega arith) (λ s sound can. tt) (λ s t sound can brings. brings))))

pub returns-clause-brings : goal.returns-clause-brings
returns-clause-brings c =
    by_last c.emit.result c.emit.ensures.parts
    (λ h.
    let rd = c.args.rd in
    let l = c.args.of in
    let n = c.args.plus in
    let mid = c.load_constant.new.asm.parts in
    rw (h, c.in_ok-address.ensures.parts)
    (adds_weaker (adds_then c.in_ok-load_constant.ensures.sets (adds_then (adds_part mid (Address rd l) 2 (omega arith)) (adds_one (mid ++ Address rd l ∷ []) (Add rd rd 6)))) (omega (arith, eight_at_most n))
    (λ x from to does. leads_weaker
    (brings_address_on x rd from to l n (omega (arith, c.requires.low)) c.requires.beside
    (does.0, leads_weaker {b = 8} does.1 (eight_at_most n) (λ s sound p. p) (λ s t sound p sets. sets), does.2))
    (omega arith) (λ s sound can. tt) (λ s t sound can brings. brings))))
