use Rattle.std.proofs.Common.{◌≡◌, ◌≤◌, ◌+◌, ◌*◌, ◌++◌, drop, length}
use Rattle.cmm_located.specs.Layouts.{to_save}
use Rattle.cmm_allocate.specs.inside.Laying.{words_from}
use Rattle.cmm_allocate.proofs.layout.lay_saved.Given as goal

abbrev pub invariant-loop-register : goal.invariant-loop-register
invariant-loop-register l = (l.at ≤ l.from + 8 * l.register-index)
    × (l.saved.items ++ words_from l.at (to_save l.p l.places (drop l.register-index l.registers)) ≡ words_from l.from (to_save l.p l.places l.registers))
    × (length l.saved.items ≤ l.register-index)
