-- A call of `main`, and the end of the run behind it.
use Rattle.std.proofs.Common.{◌≡◌, ℕ, true, false, subst}
use Rattle.std.specs.Prelude.{◌==◌, ◌||◌}
use Rattle.rv_asm.specs.Appending.{Then}
use Rattle.rv_asm.specs.Parts.{Code, Does}
use Rattle.rv_asm.specs.declared.part.Label.{Label}
use Rattle.rv_asm.specs.declared.part.Part.TheVariants.{Call}
use Rattle.rv_table.specs.declared.request.Request.TheVariants.{End}
use Rattle.cmm_effects.proofs.Shared.{reaches_more}
use Rattle.cmm_abi.specs.Registers.{is_scratch}
use Rattle.cmm_effects.specs.Requests.{AsksFor}
use Rattle.cmm_emit_laws.specs.Starting.{BeginsRun}

other_than : (r : ℕ) → ((r == 1) || is_scratch r) ≡ false → r ≡ 1 → ⊥
other_than r is same = let e : true ≡ false = subst (λ (k : ℕ). ((k == 1) || is_scratch k) ≡ false) same is in absurd (cc)

pub begins_run : (x : Code) (main : Label) (from to : ℕ) →
    Then (λ x from to. Does x (Call main) from to) (λ x from to. AsksFor 1 (λ t. End (t.registers 10)) x from) x from to → BeginsRun main x from
begins_run x main from to (back, does, ends) = record {
  back = back;
  calls = record {
    go = λ s sound at p. reaches_more (does s at) (λ t gives. (gives.pc, (gives.given, (λ r is. gives.registers r (other_than r is)), gives.memory)));
  };
  ends = ends;
}
