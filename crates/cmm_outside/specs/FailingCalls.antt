-- Calls that are counted, of which some are to fail.
use Rattle.std.specs.Prelude.{ℕ, List, Bool, Contains, if◌then◌else◌}
use Rattle.cmm_outside.specs.Faults.{next_count}

-- how many calls were made and how many of them failed, and the numbers, from 0, of those that are to fail
pub record Calls : Type 0 where
  pub made : ℕ
  pub failing : List ℕ
  pub faults : ℕ

-- no call was made
abbrev pub no_calls : List ℕ → Calls
no_calls failing = record { made = 0; failing = failing; faults = 0 }

-- the next call is to fail
abbrev pub IsNextListed : Calls → Type 0
IsNextListed calls = Contains calls.failing calls.made

-- after one more call, which failed or did not
abbrev pub after_call : Calls → Bool → Calls
after_call calls failed = record {
  made = next_count calls.made;
  failing = calls.failing;
  faults = if failed then next_count calls.faults else calls.faults;
}
