use Rattle.std.proofs.Common.{◌≡◌, ℕ, suc, ◌+◌, ◌-◌, ◌*◌, ◌<◌, ◌≤◌, sym, subst, arith}
use Rattle.cmm_words.specs.Widths.{bytes}
use Rattle.cmm_effects.proofs.Shared.{adds_one, adds_then, adds_weaker}
use Rattle.cmm_effects.specs.Pieces.{Adds}
use Rattle.cmm_select.proofs.Gathering.{less_than_eight, scatters_as, scatters_more, scatters_one}
use Rattle.cmm_select.proofs.Places.{One}
use Rattle.cmm_select.specs.inside.Accesses.{store_part}
use Rattle.cmm_select.specs.inside.Gathering.{shift_down}
use Rattle.cmm_select.proofs.accesses.+scatter.Goals as goal

pub returns-then-count-eq1-clause-scatters : goal.returns-then-count-eq1-clause-scatters
returns-then-count-eq1-clause-scatters t c =
    let p = c.args.access in
    let o = c.args.offset in
    scatters_as c.args.asm.now.parts c.emit.new.self.parts p o c.args.count 1 (sym c.if-count-eq1.true)
    (rw (c.in_ok-emit.ensures.parts, c.store_part.ensures.is)
    (adds_weaker (adds_one c.args.asm.now.parts (store_part p 5 7 o)) (omega arith) (λ x from to does. scatters_one x p o from to (omega (arith, c.requires.within)) does)))

pub returns-clause-scatters : goal.returns-clause-scatters
returns-clause-scatters t c =
    let p = c.args.access in
    let o = c.args.offset in
    let n = c.args.count in
    let k = n - 1 in
    let e : suc k ≡ n = omega (arith, c.requires.some) in
    let some : 0 < k = omega (arith, c.requires.some, c.if-count-eq1.false) in
    let within : o + suc k * bytes p ≤ 8 = subst (λ (j : ℕ). o + j * bytes p ≤ 8) (sym e) c.requires.within in
    let half : bytes p < 8 = less_than_eight k (bytes p) some (omega (arith, within)) in
    let one = c.emit.new.self.parts in
    let first : Adds 1 c.args.asm.now.parts one (One (store_part p 5 7 o)) = rw (c.in_ok-emit.ensures.parts, c.store_part.ensures.is) (adds_one c.args.asm.now.parts (store_part p 5 7 o)) in
    let second : Adds 1 one c.emit-2.new.self.parts (One (shift_down p)) = rw (c.in_ok-emit-2.ensures.parts, c.shift_down.ensures.is) (adds_one one (shift_down p)) in
    let third = rw c.bytes.ensures at c.in_ok-scatter.ensures.scatters in
    scatters_as c.args.asm.now.parts c.scatter.new.asm.parts p o n (suc k) e
    (adds_weaker (adds_then first (adds_then second third)) (omega (arith, some))
    (λ x from to does. scatters_more x p o from to (omega (arith, within)) k half some does))
