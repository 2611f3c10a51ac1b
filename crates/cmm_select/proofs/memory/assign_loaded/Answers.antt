use Rattle.std.proofs.Common.{◌≡◌, ◌-◌, ◌*◌, ◌∙◌, sym, arith, true, false}
use Rattle.std.specs.Prelude.{◌==◌}
use Rattle.std.proofs.lemmas.Bool.Decides.{nat_tests}
use Rattle.cmm_effects.proofs.Shared.{adds_then, adds_weaker, by_last, leads_weaker}
use Rattle.cmm_select.proofs.Loading.{assigns_cell, assigns_loaded}
use Rattle.cmm_select.specs.Memory.{accesses}
use Rattle.cmm_select.proofs.memory.assign_loaded.Goals as goal

pub returns-then-is_whole-clause-assigns : goal.returns-then-is_whole-clause-assigns
returns-then-is_whole-clause-assigns c =
    by_last c.finish.result c.finish.ensures.finishes
    (λ h.
    let w = c.args.width in
    let n = c.args.aligned in
    let test : (accesses w n == 1) ≡ true = sym c.is_whole.ensures ∙ c.if-is_whole.true in
    let one : accesses w n ≡ 1 = grind (arith, nat_tests, test) in
    adds_weaker (adds_then c.in_ok-base.ensures.locates (adds_then c.in_ok-load_cell.ensures.loads h)) (omega (arith, one))
    (λ x from end does. leads_weaker
    (assigns_cell x w n c.args.address.now 1 one c.args.to.now from end c.target.result c.in_ok-base.base c.target.ensures.is does)
    (omega (arith, one)) (λ s sound can. can) (λ s t sound can puts. puts)))

pub load_word-requires : goal.load_word-requires
load_word-requires c =
    let test : (accesses c.args.width c.args.aligned == 1) ≡ false = sym c.is_whole.ensures ∙ c.if-is_whole.false in
    grind (arith, nat_tests, test)

pub returns-clause-assigns : goal.returns-clause-assigns
returns-clause-assigns c =
    by_last c.put.result c.put.ensures.puts
    (λ h.
    adds_weaker (adds_then c.in_ok-bring_operand.ensures.brings (adds_then c.in_ok-load_word.ensures.loads h)) (omega arith)
    (λ x from end does. assigns_loaded x c.args.width c.args.aligned c.args.address.now (3 * accesses c.args.width c.args.aligned - 2) c.args.to.now from end does))
