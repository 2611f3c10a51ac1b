-- A place is read into a scratch register, and register 5 is written to a place.
use Rattle.std.proofs.Common.{◌≡◌, ◌≢◌, ℕ, refl, ◌∙◌, arith, pos, true, false}
use Rattle.std.specs.Prelude.{◌==◌, ◌||◌, Bool}
use Rattle.std.proofs.lemmas.Bool.Decides.{nat_tests}
use Rattle.cmm_abi.specs.Registers.{is_scratch}
use Rattle.rv_asm.specs.Parts.{Code, Does}
use Rattle.rv_asm.specs.declared.part.Part.TheVariants.{Single}
use Rattle.rv_table.specs.Machine.{State}
use Rattle.rv_table.specs.Words.{modulo, sum}
use Rattle.rv_table.specs.declared.instruction.Instr.{Instr}
use Rattle.rv_table.specs.declared.instruction.Instr.TheVariants.{Addi}
use Rattle.cmm_effects.proofs.Shared.{leads_set, leads_weaker}
use Rattle.cmm_effects.specs.Changes.{PutsRegister, Sets}
use Rattle.cmm_effects.specs.Pieces.{Always, Leads}
use Rattle.cmm_select.proofs.Sums.{plus_none}

-- one instruction, where it stands
abbrev pub One : Instr → Code → ℕ → ℕ → Type 0
One i x from to = Does x (Single i) from to

-- ---- registers that are set

pub same_set : (rd u v : ℕ) (s t w : State) → Sets rd u s t → Sets rd v t w → Sets rd v s w
same_set rd u v s t w first second = record {
  given = second.given;
  others = λ r h. second.others r h ∙ first.others r h;
  memory = second.memory ∙ first.memory;
}

pub set_as : (rd u v : ℕ) (s t : State) → u ≡ v → Sets rd u s t → Sets rd v s t
set_as rd u v s t is sets = record { given = sets.given ∙ is; others = sets.others; memory = sets.memory }

pub not_same : (r rd : ℕ) → r ≢ rd → (r == rd) ≡ false
not_same r rd h = grind (arith, nat_tests)

-- another register is as it was
pub other_kept : (rd u r : ℕ) (s t : State) → r ≢ rd → Sets rd u s t → t.registers r ≡ s.registers r
other_kept rd u r s t differ sets = sets.others r (not_same r rd differ)

-- ---- copies

pub copies : (x : Code) (rd r from to : ℕ) → rd ≢ 0 → One (Addi rd r (pos 0)) x from to → Leads 1 Always (λ s t. Sets rd (s.registers r) s t) x from to
copies x rd r from to written does =
    leads_weaker (leads_set x (Addi rd r (pos 0)) from to rd (λ g. sum (g r) (modulo 64 (pos 0))) written (λ g pc. refl) does) (omega arith)
    (λ s sound p. tt) (λ s t sound p sets. set_as rd (sum (s.registers r) (modulo 64 (pos 0))) (s.registers r) s t (plus_none (s.registers r) (sound.registers r)) sets)

-- ---- a register that is a place

pub puts_register : (x : Code) (r k from to : ℕ) → r ≢ 0 → One (Addi r k (pos 0)) x from to → Leads 1 Always (λ s t. PutsRegister r (s.registers k) s t) x from to
puts_register x r k from to written does =
    leads_weaker (copies x r k from to written does) (omega arith) (λ s sound p. tt)
    (λ s t sound p sets. (sets.given, (λ n h. sets.others n (first_false (n == r) (is_scratch n) h)), sets.memory))
  where
    first_false : (a b : Bool) → (a || b) ≡ false → a ≡ false
    first_false true b h = absurd (cc)
    first_false false b h = refl
