-- Registers that hold zeros.
use Rattle.std.proofs.Common.{◌≡◌, ℕ, Bool, true, false, List, replicate, get_or, inl, inr, refl, ap, ◌∙◌, arith}
use Rattle.std.proofs.Math.Path.{fun_ext}
use Rattle.std.proofs.lemmas.Bool.{cases_lt}
use Rattle.std.proofs.lemmas.List.{get_or-replicate, get_or_past, length-replicate}
use Rattle.std.specs.Prelude.{◌==◌}
use Rattle.rv_table.specs.declared.registers.Regs.{Regs}
use Rattle.rv_table.specs.Registers.{registers_of}

-- the number at any place of zeros, and past them
pub zero_at : (count k : ℕ) → ◌≡◌ {A = ℕ} (get_or (replicate count 0) k 0) 0
zero_at count k = elim (cases_lt k count) [
  | inl h ↦ get_or-replicate count k 0 0 h
  | inr h ↦ get_or_past (replicate count 0) k 0 (omega (arith, length-replicate {A = ℕ} count 0))
]

-- registers that hold zeros read as zeros
pub all_zero : (r : Regs) → r.x ≡ replicate 32 0 → registers_of r ≡ (λ _. 0)
all_zero r h = fun_ext (λ k. by k (k == 0))
  where
    by : (k : ℕ) (t : Bool) → (elim t as (λ _. ℕ) [ true ↦ 0 | false ↦ get_or r.x k 0 ]) ≡ 0
    by k true = refl
    by k false = ap (λ (x : List ℕ). get_or x k 0) h ∙ zero_at 32 k
