use Rattle.std.proofs.Common.{◌≡◌, ℕ, ◌+◌, ◌++◌, ◌∙◌, ap, arith, List, length, sym}
use Rattle.std.proofs.lemmas.List.{length-append}
use Rattle.std.proofs.lemmas.List.Sums.{sum_by_push}
use Rattle.rv_table.specs.Memory.{code_base}
use Rattle.rv_asm.specs.Filling.{filled}
use Rattle.rv_asm.specs.declared.filling.CodeFix.{CodeFix}
use Rattle.cmm_unit_code.specs.Joined.{joined_code, reference_value, symbol_value}
use Rattle.cmm_unit_code.specs.declared.unit_code.Reference.{Reference}
use Rattle.cmm_link.proofs.Joined.{code_pushed, size}
use Rattle.cmm_link.proofs.joining.joined_code.Goals as goal

pub loop-unit-preserved : goal.loop-unit-preserved
loop-unit-preserved c =
    let value = reference_value c.args.addresses.now c.args.procedures.now in
    let joined = c.loop-unit.joined.items in
    let units = c.loop-unit.yielded in
    let unit = c.in-Some.unit in
    let symbols = symbol_value value unit.references in
    let code = c.as_slice-in-loop-unit-2.result.now in
    let before : c.len.result ≡ size units = omega (arith, c.len.ensures, c.loop-unit.invariant.size, c.loop-unit.joined.ok.0) in
    let bytes : c.into_vec-code.result.items ≡ unit.code = c.into_vec-code.ensures in
    let is : code ≡ filled symbols (code_base + size units) unit.fixes unit.code =
    c.as_slice-in-loop-unit-2.ensures.value
    ∙ (c.fill_all.ensures.filled
    ∙ (ap (λ (n : ℕ). filled (symbol_value value c.as_slice-in-loop-unit.result.now) (code_base + n) c.as_slice.result.now c.into_vec-code.result.items) before
    ∙ (ap (λ (rs : List Reference). filled (symbol_value value rs) (code_base + size units) c.as_slice.result.now c.into_vec-code.result.items) c.as_slice-in-loop-unit.ensures
    ∙ (ap (λ (fs : List CodeFix). filled symbols (code_base + size units) fs c.into_vec-code.result.items) c.as_slice.ensures
    ∙ ap (λ (bs : List ℕ). filled symbols (code_base + size units) unit.fixes bs) bytes))))
    in
    let long : length code ≡ length unit.code =
    ap (λ (bs : List ℕ). length bs) c.as_slice-in-loop-unit-2.ensures.value ∙ (c.fill_all.ensures.size ∙ ap (λ (bs : List ℕ). length bs) bytes)
    in
    let adds : c.extend_from_slice.new.self.items ≡ joined ++ code = c.in_ok-extend_from_slice.ensures.items in
    record {
      code = adds
          ∙ (ap (λ (front : List ℕ). front ++ code) c.loop-unit.invariant.code
          ∙ (ap (λ (back : List ℕ). joined_code value code_base units ++ back) is ∙ sym (code_pushed value units unit)));
      size = ap (λ (bs : List ℕ). length bs) adds
          ∙ omega (arith, length-append joined code, long, c.loop-unit.invariant.size, sum_by_push (λ u. length u.code) units unit);
    }
