-- Reading registers after one is written.
use Rattle.std.proofs.Common.{◌≡◌, ℕ, ◌<◌, ◌^◌, ◌≢◌, refl, arith}
use Rattle.std.specs.Prelude.{◌==◌, Bool, true, false}
use Rattle.std.proofs.lemmas.Bool.Decides.{nat_tests}
use Rattle.rv_table.specs.Registers.{with_register}

pub with_register-same : (x : ℕ → ℕ) (rd value : ℕ) → rd ≢ 0 → with_register x rd value rd ≡ value
with_register-same x rd value h = grind (arith, nat_tests)

pub with_register-other : (x : ℕ → ℕ) (rd value k : ℕ) → k ≢ rd → with_register x rd value k ≡ x k
with_register-other x rd value k h = grind (arith, nat_tests)

pub with_register-0 : (x : ℕ → ℕ) (value : ℕ) → with_register x 0 value ≡ x
with_register-0 x value = refl

-- a written register keeps all below 2^64 if its value is, and register 0 as it was
pub with_register-fits : (x : ℕ → ℕ) (rd value : ℕ) → ((k : ℕ) → x k < 2 ^ 64) → value < 2 ^ 64 → (k : ℕ) →
    with_register x rd value k < 2 ^ 64
with_register-fits x rd value fits small k = either (rd == 0) (k == rd) (fits k) small
  where
    either : (a b : Bool) → x k < 2 ^ 64 → value < 2 ^ 64 →
        elim a [ true ↦ x k | false ↦ elim b [ true ↦ value | false ↦ x k ] ] < 2 ^ 64
    either true b h g = h
    either false true h g = g
    either false false h g = h

pub with_register-zero : (x : ℕ → ℕ) (rd value : ℕ) → with_register x rd value 0 ≡ x 0
with_register-zero x rd value = grind (arith, nat_tests)
