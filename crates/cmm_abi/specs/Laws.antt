-- Laws of the convention.
use Rattle.std.specs.Prelude.{◌≡◌, ℕ, ◌==◌, true, false}
use Rattle.std.specs.List.{list_any}
use Rattle.cmm_abi.specs.Registers.{callee_saves, carries_value, is_callee_saves, is_fixed, is_scratch, is_temporary}

abbrev pub CalleeSavesAreListed : Type 0
CalleeSavesAreListed = (r : ℕ) → is_callee_saves r ≡ list_any (λ k. r == k) callee_saves

-- a register that nothing keeps holds no local, no value that travels, and nothing that has a meaning wherever code runs
pub record HoldsNothing (r : ℕ) : Type 0 where
  pub saved : is_callee_saves r ≡ false
  pub temporary : is_temporary r ≡ false
  pub value : carries_value r ≡ false
  pub fixed : is_fixed r ≡ false

abbrev pub ScratchIsApart : Type 0
ScratchIsApart = (r : ℕ) → is_scratch r ≡ true → HoldsNothing r
