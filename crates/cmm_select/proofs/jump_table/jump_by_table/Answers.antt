use Rattle.std.proofs.Common.{◌+◌, ◌-◌, ◌*◌, length, refl, arith, pos}
use Rattle.rv_asm.specs.Parts.{Does}
use Rattle.rv_asm.specs.declared.part.Part.TheVariants.{Table}
use Rattle.rv_table.specs.declared.instruction.Instr.TheVariants.{Add, Auipc, Jalr, Slli}
use Rattle.cmm_effects.proofs.Shared.{adds_one, adds_part, adds_then, adds_weaker, by_last}
use Rattle.cmm_effects.specs.Pieces.{Adds}
use Rattle.cmm_select.proofs.Places.{One}
use Rattle.cmm_select.proofs.Tabled.{goes_by_table}
use Rattle.cmm_select.proofs.jump_table.jump_by_table.Goals as goal

pub returns-clause-goes : goal.returns-clause-goes
returns-clause-goes c =
    by_last c.table.result c.table.ensures.parts
    (λ h.
    let to = c.args.to.now in
    let n = length to in
    let end = c.args.end in
    let masked = c.mask_outside.new.asm.parts in
    let shifted = c.emit.new.self.parts in
    let placed = c.emit-2.new.self.parts in
    let added = c.emit-3.new.self.parts in
    let jumped = c.emit-4.new.self.parts in
    let shift : Adds 1 masked shifted (One (Slli 7 7 (pos 2))) = rw c.in_ok-emit.ensures.parts (adds_one masked (Slli 7 7 (pos 2))) in
    let place : Adds 1 shifted placed (One (Auipc 6 (pos 0))) = rw c.in_ok-emit-2.ensures.parts (adds_one shifted (Auipc 6 (pos 0))) in
    let add : Adds 1 placed added (One (Add 7 7 6)) = rw c.in_ok-emit-3.ensures.parts (adds_one placed (Add 7 7 6)) in
    let jump : Adds 1 added jumped (One (Jalr 0 7 (pos (12 + 4 * n)))) = rw (c.in_ok-emit-4.ensures.parts, c.jump_past.ensures.is) (adds_one added (Jalr 0 7 (pos (12 + 4 * n)))) in
    let table : Adds (3 * n + 1) jumped c.table.new.self.parts (λ x from on. Does x (Table to) from on) = rw h (adds_part jumped (Table to) (3 * n + 1) (omega arith)) in
    let first = end - n in
    adds_weaker (adds_then c.in_ok-measure.ensures.measures (adds_then c.in_ok-mask_outside.ensures.masks (adds_then shift (adds_then place (adds_then add (adds_then jump table)))))) (omega (arith, c.requires.some))
    (λ x from on does. goes_by_table x first n end to refl (omega (arith, c.requires.low)) c.requires.some c.requires.few c.ranges.end.fits from on does))
