use Rattle.std.proofs.Common.{◌≡◌, ℕ, ◌+◌, sym, ◌∙◌, ap, arith, false, List, get_or, length, take}
use Rattle.std.proofs.lemmas.Option.{slice_get-get_or}
use Rattle.rv_asm.proofs.Shared.{fixes_are_filled}
use Rattle.rv_asm.specs.Filling.{filled, fix_number, number_at, with_number}
use Rattle.rv_asm.specs.declared.filling.CodeFix.{CodeFix}
use Rattle.cmm_unit_code.specs.Joined.{reference_value, symbol_value}
use Rattle.cmm_link.proofs.Joined.{next_fix}
use Rattle.cmm_link.proofs.joining.fill_all.Goals as goal

abbrev no_fix : CodeFix
no_fix = record { place = 0; symbol = 0; relative = false }

pub fill-requires : goal.fill-requires
fill-requires c =
    let fixes = c.args.fixes.now in
    let i = c.loop-fix.fix-index in
    let is = slice_get-get_or fixes i no_fix c.loop-fix-test.true in
    let within = fixes_are_filled.within 0 (length c.args.code.now.items) i fixes (get_or fixes i no_fix) c.requires.apart is in
    let size = c.loop-fix.invariant.size in
    omega (arith, within, size)

pub loop-fix-preserved : goal.loop-fix-preserved
loop-fix-preserved c =
    let fixes = c.args.fixes.now in
    let i = c.loop-fix.fix-index in
    let f = get_or fixes i no_fix in
    let is = slice_get-get_or fixes i no_fix c.loop-fix-test.true in
    let old = c.args.code.now.items in
    let at = c.args.at in
    let value = symbol_value (reference_value c.args.addresses.now c.args.procedures.now) c.args.references.now in
    let number : c.number-number.result ≡ fix_number value at f =
    c.number-number.ensures
    ∙ (ap (λ (v : ℕ). number_at f.relative v (at + c.from.result)) c.symbol_value-value.ensures ∙ ap (λ (a : ℕ). number_at f.relative (value f.symbol) (at + a)) c.from.ensures) in
    let within = fixes_are_filled.within 0 (length old) i fixes f c.requires.apart is in
    let size = c.loop-fix.invariant.size in
    record {
      filled = c.fill.ensures
          ∙ (ap (λ (n : ℕ). with_number n f.place c.loop-fix.code.items) number
          ∙ (ap (λ (bs : List ℕ). with_number (fix_number value at f) f.place bs) c.loop-fix.invariant.filled
          ∙ (sym (fixes_are_filled.more value at (take i fixes) f old) ∙ ap (λ (fs : List CodeFix). filled value at fs old) (sym (next_fix fixes i f is)))));
      size = ap (λ (bs : List ℕ). length bs) c.fill.ensures ∙ (fixes_are_filled.kept c.number-number.result f.place c.loop-fix.code.items (omega (arith, within, size)) ∙ size);
    }
