use Rattle.std.proofs.Common.{◌≡◌, ◌≢◌, ◌≤◌, ◌+◌, ◌*◌, ℕ, Bool, true, false, [], length}
use Rattle.cmm_moves.specs.Moves.{in_order, at_once, is_outside}
use Rattle.cmm_moves.specs.inside.Pending.{CanBeDone}
use Rattle.cmm_moves.proofs.sequencing.sequence.Given as goal

abbrev pub invariant-loop-first : goal.invariant-loop-first
invariant-loop-first l =
    CanBeDone l.scratch [] l.waiting.items
    × ((has : ℕ → ℕ) (x : ℕ) → x ≢ l.scratch → at_once l.waiting.items (in_order l.done has) x ≡ at_once l.moves has x)
    × (length l.done + 2 * length l.waiting.items ≤ 2 * length l.moves)
    × ((test : ℕ → Bool) → test l.scratch ≡ true → is_outside test l.moves ≡ false → (is_outside test l.done ≡ false) × (is_outside test l.waiting.items ≡ false))

abbrev pub decreases-loop-first : goal.decreases-loop-first
decreases-loop-first l = length l.waiting.items
