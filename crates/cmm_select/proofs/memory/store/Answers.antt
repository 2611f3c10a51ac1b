use Rattle.std.proofs.Common.{◌≡◌, ◌-◌, ◌*◌, ◌∙◌, sym, arith, true}
use Rattle.std.specs.Prelude.{◌==◌}
use Rattle.std.proofs.lemmas.Bool.Decides.{nat_tests}
use Rattle.cmm_effects.proofs.Shared.{adds_then, adds_weaker, by_last, leads_weaker}
use Rattle.cmm_select.proofs.Loading.{stores_at, stores_word}
use Rattle.cmm_select.specs.Memory.{accesses}
use Rattle.cmm_select.proofs.memory.store.Goals as goal

pub returns-then-is_whole-clause-stores : goal.returns-then-is_whole-clause-stores
returns-then-is_whole-clause-stores c =
    by_last c.store_cell.result c.store_cell.ensures.stores
    (λ h.
    let w = c.args.width in
    let n = c.args.aligned in
    let test : (accesses w n == 1) ≡ true = sym c.is_whole.ensures ∙ c.if-is_whole.true in
    let one : accesses w n ≡ 1 = grind (arith, nat_tests, test) in
    adds_weaker (adds_then c.in_ok-pair.ensures.locates h) (omega (arith, one))
    (λ x from end does. leads_weaker
    (stores_at x w n c.args.address.now 1 one c.args.value.now from end c.in_ok-pair.pair.first c.in_ok-pair.pair.second does)
    (omega (arith, one)) (λ s sound can. can) (λ s t sound can puts. puts)))

pub returns-clause-stores : goal.returns-clause-stores
returns-clause-stores c =
    by_last c.store_word.result c.store_word.ensures.stores
    (λ h.
    adds_weaker (adds_then c.in_ok-bring_both.ensures.brings h) (omega arith)
    (λ x from end does. stores_word x c.args.width c.args.aligned c.args.address.now (2 * accesses c.args.width c.args.aligned - 1) c.args.value.now from end does))
