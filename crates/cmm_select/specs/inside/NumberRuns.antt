-- Numbers that follow one another, each with the label to which a switch goes for it.
use Rattle.std.specs.Prelude.{◌≡◌, ℕ, suc, ◌-◌, ◌^◌, ◌==◌, nat_lt, if◌then◌else◌, List, [], ◌∷◌}
use Rattle.rv_asm.specs.Parts.{Code, way}
use Rattle.rv_asm.specs.declared.part.Label.{Label}
use Rattle.rv_table.specs.Machine.{State}
use Rattle.cmm_abi.specs.declared.registers.TheConstants.{FIRST_SCRATCH, SECOND_SCRATCH}
use Rattle.cmm_effects.specs.Pieces.{Always}
use Rattle.cmm_effects.specs.Ways.{Goes}
use Rattle.cmm_select.specs.Switches.{EndsLow, KeepsFirst}

-- where the label of a value leads, of labels that the numbers from one on have, or on
abbrev pub run_address : (ℕ → ℕ) → List Label → ℕ → ℕ → ℕ → ℕ
run_address at [] first value on = on
run_address at (l ∷ ls) first value on = way (value == first) (at l.number) (run_address at ls (suc first) value on)

abbrev pub GoesInRun : ℕ → List Label → ℕ → Code → ℕ → ℕ → Type 0
GoesInRun most labels first x from on = EndsLow x.map → Goes 0 most Always (λ s. run_address x.at labels first (s.registers FIRST_SCRATCH) on) KeepsFirst x from

-- register 7 is as it was where that is one of the last numbers of 64 bits, and else 0; nothing is changed but that and register 6
pub record Masks (count : ℕ) (s t : State) : Type 0 where
  pub masked : t.registers SECOND_SCRATCH ≡ (if nat_lt (s.registers SECOND_SCRATCH) (2 ^ 64 - count) then 0 else s.registers SECOND_SCRATCH)
  pub keeps : KeepsFirst s t
