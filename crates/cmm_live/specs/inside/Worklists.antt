-- What a worklist keeps: whether a node waits is known beside the list, so that none is added twice.
use Rattle.std.specs.Prelude.{◌≡◌, ◌<◌, ℕ, Bool, true, All, Contains, List, length}
use Rattle.cmm_bitset.specs.Sets.{has}

pub record IsList (nodes : List ℕ) (waits : List Bool) : Type 0 where
  pub within : All (λ n. n < length waits) nodes
  -- a node that waits is in the list
  pub listed : (n : ℕ) → has waits n ≡ true → Contains nodes n

-- these nodes wait too
pub record Woken (old new : List Bool) (nodes : List ℕ) : Type 0 where
  pub size : length new ≡ length old
  pub kept : (n : ℕ) → has old n ≡ true → has new n ≡ true
  pub woken : (n : ℕ) → Contains nodes n → has new n ≡ true
