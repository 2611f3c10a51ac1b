use Rattle.std.proofs.Common.{◌≡◌, length, take}
use Rattle.rv_asm.specs.Filling.{filled}
use Rattle.cmm_unit_code.specs.Joined.{reference_value, symbol_value}
use Rattle.cmm_link.proofs.joining.fill_all.Given as goal

-- the fixes so far are filled
abbrev pub invariant-loop-fix : goal.invariant-loop-fix
invariant-loop-fix l = record {
  filled : l.code.items ≡ filled (symbol_value (reference_value l.addresses l.procedures) l.references) l.at (take l.fix-index l.fixes) l.initial.code.items;
  size : length l.code.items ≡ length l.initial.code.items;
}
