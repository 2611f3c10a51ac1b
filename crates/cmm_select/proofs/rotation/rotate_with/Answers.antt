use Rattle.std.proofs.Common.{◌≢◌, ℕ, ◌<◌, ◌∷◌, ◌++◌, [], subst, arith, pos}
use Rattle.rv_asm.specs.Appending.{Then}
use Rattle.rv_asm.specs.declared.part.Part.TheVariants.{Single}
use Rattle.rv_table.specs.declared.instruction.Instr.TheVariants.{Or, Slli, Srli}
use Rattle.cmm_effects.proofs.Shared.{adds_one, adds_then, adds_weaker, by_last}
use Rattle.cmm_effects.specs.Pieces.{Adds}
use Rattle.cmm_select.proofs.Places.{One}
use Rattle.cmm_select.proofs.SmallRotations.{rotates_small}
use Rattle.cmm_select.specs.Operators.{shifts_of}
use Rattle.cmm_select.specs.inside.Rotations.{left_by, right_by}
use Rattle.cmm_select.proofs.rotation.rotate_with.Goals as goal

pub returns-clause-rotates : goal.returns-clause-rotates
returns-clause-rotates c =
    by_last c.narrow.result c.narrow.ensures.narrows
    (λ h.
    let o = c.args.operator in
    let w = c.args.width in
    let rd = c.args.rd in
    let a = c.args.first in
    let n = c.args.number in
    let l = c.wide_operators.ensures in
    let old = c.args.asm.now.parts in
    let to_left = Slli 6 a (pos (left_by o w n)) in
    let to_right = Srli rd a (pos (right_by o w n)) in
    let one = old ++ Single to_left ∷ [] in
    let first : Adds 3 old c.emit-3.new.self.parts (Then (One to_left) (Then (One to_right) (One (Or rd 6 rd)))) =
    rw (c.in_ok-emit-3.ensures.parts, c.in_ok-emit-2.ensures.parts, c.in_ok-emit.ensures.parts, c.instruction.ensures.is, c.instruction-2.ensures.is, c.left_by-left.ensures.is, c.right_by-right.ensures.is)
    (adds_weaker (adds_then (adds_one old to_left) (adds_then (adds_one one to_right) (adds_one (one ++ Single to_right ∷ []) (Or rd 6 rd)))) (omega arith) (λ x from to does. does))
    in
    let written : rd ≢ 0 = (λ e. omega (arith, e, c.requires.register.0)) in
    let left_small : left_by o w n < 64 = subst (λ (k : ℕ). k < 64) c.left_by-left.ensures.is c.left_by-left.ensures.small in
    let right_small : right_by o w n < 64 = subst (λ (k : ℕ). k < 64) c.right_by-right.ensures.is c.right_by-right.ensures.small in
    adds_weaker (adds_then first h) (omega arith)
    (λ x from to does. rotates_small x from does.0 to (shifts_of w) rd a n o w written c.requires.register.2 c.requires.beside c.requires.rotation l.rotl l.rotr left_small right_small
    does.1 does.2))
