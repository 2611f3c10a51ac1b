use Rattle.std.proofs.Common.{◌≡◌, ℕ, suc, ◌-◌, ◌*◌, ◌/◌, ◌<◌, ◌∙◌, ap, arith}
use Rattle.cmm_words.specs.Widths.{bytes}
use Rattle.cmm_effects.proofs.Shared.{adds_then, adds_weaker, by_last, leads_weaker}
use Rattle.cmm_select.proofs.Gathering.{eight_bytes, loads_joined, parts}
use Rattle.cmm_select.specs.Memory.{access_of}
use Rattle.cmm_select.proofs.accesses.load_word.Goals as goal

pub returns-clause-loads : goal.returns-clause-loads
returns-clause-loads c =
    by_last c.join.result c.join.ensures.joins
    (λ h.
    let w = c.args.width in
    let p = access_of w c.args.aligned in
    let made = parts w c.args.aligned in
    let n = bytes w / bytes p in
    let k = n - 1 in
    let e : suc k ≡ n = omega (arith, made.some) in
    let some : 0 < k = omega (arith, made.some, c.requires) in
    let all : suc k * bytes p ≡ bytes w = ap (λ (j : ℕ). j * bytes p) e ∙ made.all in
    let first = rw (c.bytes-3.ensures, c.bytes.ensures, c.bytes-2.ensures, c.access_of-access.ensures) at c.in_ok-gather.ensures.gathers in
    let last = rw c.access_of-access.ensures at h in
    adds_weaker (adds_then first last) (omega (arith, some))
    (λ x from to does. leads_weaker (loads_joined x p w k from to all e (eight_bytes w) some does) (omega arith) (λ s sound cell. cell) (λ s t sound cell loads. loads)))
