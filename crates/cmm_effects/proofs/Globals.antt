-- What global registers have after a change.
use Rattle.std.proofs.Common.{ℕ, ◌+◌, ◌<◌, ◌^◌, refl, sym, ◌∙◌, ap, subst, arith}
use Rattle.std.specs.Prelude.{IsTrue}
use Rattle.rv_table.proofs.Shared.{loaded-same}
use Rattle.rv_table.specs.Machine.{is_accessible, loaded}
use Rattle.cmm_effects.specs.Laws.{GlobalsAreRead}

pub globals_are_read : GlobalsAreRead
globals_are_read = record {
  put = λ o n s t small puts.
      ap (λ (a : ℕ). loaded t.memory (a + o) 8) (puts.registers 4 refl)
      ∙ ap (λ (m : ℕ → ℕ). loaded m (s.registers 4 + o) 8) puts.memory
      ∙ loaded-same s.memory (s.registers 4 + o) 8 n
      ∙ omega arith;
  kept = λ o s t keeps.
      ap (λ (a : ℕ). loaded t.memory (a + o) 8) (keeps.registers 4 refl) ∙ ap (λ (m : ℕ → ℕ). loaded m (s.registers 4 + o) 8) keeps.memory;
  reachable = λ o m s t keeps can.
      subst (λ (a : ℕ). (a + o < 2 ^ 64) × IsTrue (is_accessible m (a + o) 8)) (sym (keeps.registers 4 refl)) can;
}
