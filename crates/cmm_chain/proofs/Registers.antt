-- The registers in which a local may be: which roles they do not have, and which of them a frame saves.
use Rattle.std.proofs.Common.{◌≡◌, ◌≢◌, ℕ, ◌≤◌, ◌<◌, refl, sym, ◌∙◌, ap, arith, Bool, true, false, List, [], ◌∷◌, Option, Some, None}
use Rattle.std.specs.Prelude.{◌==◌, ◌&&◌, is_some}
use Rattle.std.specs.List.{list_all, list_any}
use Rattle.std.proofs.lemmas.Bool.Decides.{nat_tests}
use Rattle.cmm_abi.proofs.Shared.{callee_saves_are_listed}
use Rattle.cmm_abi.specs.Registers.{callee_saves, is_callee_saves, is_scratch, is_temporary}
use Rattle.cmm_chain.specs.Plans.{saved_in}

-- ---- callee-saves registers

pub callee_saves_is_written : (r : ℕ) → is_callee_saves r ≡ true → (r ≢ 0) × (r < 32)
callee_saves_is_written r is = (grind (arith, nat_tests, is), grind (arith, nat_tests, is))

pub callee_saves_is_kept : (r : ℕ) → is_callee_saves r ≡ true → is_scratch r ≡ false
callee_saves_is_kept r is = grind (arith, nat_tests, is)

-- it is none that code knows by its number
pub callee_saves_is_apart : (r k : ℕ) → k ≤ 8 → is_callee_saves r ≡ true → r ≢ k
callee_saves_is_apart r k low is e = grind (arith, nat_tests, is, e, low)

pub callee_saves_is_listed : (r : ℕ) → is_callee_saves r ≡ true → list_any (λ k. r == k) callee_saves ≡ true
callee_saves_is_listed r is = sym (callee_saves_are_listed r) ∙ is

-- ---- temporary registers

pub temporary_is_written : (r : ℕ) → is_temporary r ≡ true → (r ≢ 0) × (r < 32)
temporary_is_written r is = (grind (arith, nat_tests, is), grind (arith, nat_tests, is))

pub temporary_is_kept : (r : ℕ) → is_temporary r ≡ true → is_scratch r ≡ false
temporary_is_kept r is = grind (arith, nat_tests, is)

pub temporary_is_not_saved : (r : ℕ) → is_temporary r ≡ true → is_callee_saves r ≡ false
temporary_is_not_saved r is = grind (arith, nat_tests, is)

-- ---- what a frame saves

-- a register that is saved is a callee-saves register where all of them are
pub saved_is_callee_saves : (saved : List (ℕ × ℕ)) (r offset : ℕ) → list_all (λ word. is_callee_saves word.0) saved ≡ true → saved_in saved r ≡ Some offset → is_callee_saves r ≡ true
saved_is_callee_saves [] r offset all is = absurd (cc)
saved_is_callee_saves ((register, o) ∷ rest) r offset all is = by (λ found. saved_is_callee_saves rest r offset (after all) found) (r == register) refl is
  where
    after : list_all (λ word. is_callee_saves word.0) ((register, o) ∷ rest) ≡ true → list_all (λ word. is_callee_saves word.0) rest ≡ true
    after every = grind (arith, every)

    by : (saved_in rest r ≡ Some offset → is_callee_saves r ≡ true) → (test : Bool) → (r == register) ≡ test →
        elim test [ true ↦ Some o | false ↦ saved_in rest r ] ≡ Some offset → is_callee_saves r ≡ true
    by later true same found =
        let e : r ≡ register = grind (arith, nat_tests, same) in
        let first : is_callee_saves register ≡ true = grind (arith, all) in
        ap is_callee_saves e ∙ first
    by later false differs found = later found
