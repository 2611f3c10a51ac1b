use Rattle.std.proofs.Common.{◌≡◌, length, take}
use Rattle.std.specs.Prelude.{slice_index}
use Rattle.cmm_data.specs.Filling.{filled}
use Rattle.cmm_link.proofs.filling.fill_all.Given as goal

abbrev pub invariant-loop-fix : goal.invariant-loop-fix
invariant-loop-fix l = (l.bytes.items ≡ filled (λ q. slice_index l.codes q) (take l.fix-index l.fixes) l.initial.bytes.items) × (length l.bytes.items ≡ length l.initial.bytes.items)
