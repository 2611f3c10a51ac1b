-- What one read of a source does to the bytes that it has left.
use Rattle.std.specs.Prelude.{◌≡◌, ℕ, ◌<◌, ◌≤◌, List, [], length, take, drop, Option, Some, IfSome}

-- n bytes from the front of left are in the buffer's front, and the others are left; none only at the end
pub record Takes (left : List ℕ) (after : Option (List ℕ)) (room : ℕ) (buffer : List ℕ) (n : ℕ) : Type 0 where
  pub within : n ≤ length left
  pub bytes : take n buffer ≡ take n left
  pub rest : after ≡ Some (drop n left)
  pub progress : 0 < room → n ≡ 0 → left ≡ []

-- the same, where the source tells its bytes
abbrev pub Reads : Option (List ℕ) → Option (List ℕ) → ℕ → List ℕ → ℕ → Type 0
Reads before after room buffer n = IfSome before (λ left. Takes left after room buffer n)
