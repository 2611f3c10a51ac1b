-- Stores that leave all registers as they are.
use Rattle.std.proofs.Common.{◌≡◌, ℕ}
use Rattle.std.specs.Prelude.{IsTrue}
use Rattle.rv_asm.proofs.Shared.{single_does}
use Rattle.rv_asm.specs.Parts.{Code, Does}
use Rattle.rv_asm.specs.declared.part.Part.TheVariants.{Single}
use Rattle.rv_table.specs.Machine.{is_accessible, stored}
use Rattle.rv_table.specs.Row.{row}
use Rattle.rv_table.specs.declared.effects.Effect.TheVariants.{Store}
use Rattle.rv_table.specs.declared.instruction.Instr.{Instr}
use Rattle.cmm_effects.proofs.Following.{leads_store, reaches_more}
use Rattle.cmm_effects.specs.Pieces.{Leads}

pub leads_store_alone : (x : Code) (i : Instr) (from to size : ℕ) (address value : (ℕ → ℕ) → ℕ) →
    ((r : ℕ → ℕ) (pc : ℕ) → row r pc i ≡ Store (address r) size (value r)) → Does x (Single i) from to →
    Leads 1 (λ m s. IsTrue (is_accessible m (address s.registers) size))
    (λ s t. (t.registers ≡ s.registers) × (t.memory ≡ stored s.memory (address s.registers) size (value s.registers))) x from to
leads_store_alone x i from to size address value is does = record {
  quiet = (leads_store x i from to size address value is does).quiet;
  runs = record {
    go = λ s sound at p.
        reaches_more ((single_does x i from to s does at).store (address s.registers) size (value s.registers) (is s.registers from) p)
        (λ t wrote. (wrote.pc, (wrote.registers, wrote.memory)));
  };
}
