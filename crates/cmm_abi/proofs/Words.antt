-- Words of a region that lies in a memory can be loaded and stored.
use Rattle.std.proofs.Common.{◌≡◌, ℕ, ◌+◌, ◌%◌, ◌≤◌, arith}
use Rattle.std.proofs.lemmas.Bool.Decides.{nat_tests}
use Rattle.std.specs.Prelude.{IsTrue}
use Rattle.rv_table.specs.declared.memory_map.TheConstants.{BELOW_STACK}
use Rattle.rv_table.specs.Machine.{MemoryMap, Region, LiesIn, is_accessible}

-- a word of the argument area or a global register, by its offset
pub low_word_accessible : (r : Region) (m : MemoryMap) (offset : ℕ) → LiesIn r m → offset % 8 ≡ 0 → offset + 8 ≤ BELOW_STACK →
    IsTrue (is_accessible m (r.address + offset) 8)
low_word_accessible r m offset lies aligned below = grind (arith, nat_tests, lies.low, lies.high, lies.aligned, aligned, below)
