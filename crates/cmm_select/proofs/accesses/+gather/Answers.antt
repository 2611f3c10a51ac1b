use Rattle.std.proofs.Common.{◌≡◌, ℕ, suc, ◌+◌, ◌-◌, ◌*◌, ◌<◌, ◌≤◌, sym, subst, arith}
use Rattle.cmm_words.specs.Widths.{bytes}
use Rattle.cmm_effects.proofs.Shared.{adds_one, adds_then, adds_weaker}
use Rattle.cmm_select.proofs.Gathering.{gathers_as, gathers_more, gathers_one}
use Rattle.cmm_select.specs.inside.Accesses.{load_part}
use Rattle.cmm_select.proofs.accesses.+gather.Goals as goal

pub returns-then-count-eq1-clause-gathers : goal.returns-then-count-eq1-clause-gathers
returns-then-count-eq1-clause-gathers t c =
    let p = c.args.access in
    let o = c.args.offset in
    gathers_as c.args.asm.now.parts c.emit.new.self.parts p o c.args.count 1 (sym c.if-count-eq1.true)
    (rw (c.in_ok-emit.ensures.parts, c.load_part.ensures.is)
    (adds_weaker (adds_one c.args.asm.now.parts (load_part p 7 5 o)) (omega arith) (λ x from to does. gathers_one x p o from to (omega (arith, c.requires.within)) does)))

pub returns-clause-gathers : goal.returns-clause-gathers
returns-clause-gathers t c =
    let p = c.args.access in
    let o = c.args.offset in
    let n = c.args.count in
    let k = n - 1 in
    let e : suc k ≡ n = omega (arith, c.requires.some) in
    let some : 0 < k = omega (arith, c.requires.some, c.if-count-eq1.false) in
    let within : o + suc k * bytes p ≤ 8 = subst (λ (j : ℕ). o + j * bytes p ≤ 8) (sym e) c.requires.within in
    let first = rw c.bytes.ensures at c.in_ok-gather.ensures.gathers in
    gathers_as c.args.asm.now.parts c.join.new.asm.parts p o n (suc k) e
    (adds_weaker (adds_then first c.in_ok-join.ensures.joins) (omega (arith, some)) (λ x from to does. gathers_more x p o k from to within some does))
