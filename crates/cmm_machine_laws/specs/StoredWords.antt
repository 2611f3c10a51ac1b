-- The bytes of a number and back, and words stored and loaded again.
use Rattle.std.specs.Prelude.{◌≡◌, ◌⊎◌, ℕ, ◌+◌, ◌%◌, ◌^◌, ◌<◌, ◌≤◌, All, List, length, Ok, IfOk}
use Rattle.cmm_words.specs.declared.width.Width.{Width}
use Rattle.cmm_words.specs.Widths.{bytes, IsWord}
use Rattle.cmm_program.specs.Layout.{bytes_of}
use Rattle.cmm_program.specs.Memory.{Memory, cell_at, with_bytes, number_of}
use Rattle.cmm_program.specs.State.{Setting, Store}
use Rattle.cmm_program.specs.Values.{may_access, loaded}
use Rattle.cmm_program.specs.Orders as place
use Rattle.cmm_program.specs.Writes.{reads_of, put}

-- n bytes of a number are m bytes
abbrev pub BytesOfNumber : Type 0
BytesOfNumber = (size value : ℕ) → (length (bytes_of size value) ≡ size) × All (λ byte. byte < 256) (bytes_of size value)

-- they spell the number, cut to their count
abbrev pub NumberOfBytes : Type 0
NumberOfBytes = (size value : ℕ) → number_of (bytes_of size value) ≡ value % 256 ^ size

-- bytes are those of the number that they spell
abbrev pub BytesOfSpelled : Type 0
BytesOfSpelled = (spelled : List ℕ) → All (λ byte. byte < 256) spelled → bytes_of (length spelled) (number_of spelled) ≡ spelled

-- a word that was stored is loaded again from its address
abbrev pub StoredIsLoaded : Type 0
StoredIsLoaded = (s : Setting) (width : Width) (aligned address value : ℕ) (store : Store) → IsWord width value →
    IfOk (put (place.Memory width aligned address) value store) (λ after. loaded (reads_of s after) width aligned address ≡ Ok value)

-- and the words elsewhere are loaded as before
abbrev pub WordsElsewhereStay : Type 0
WordsElsewhereStay = (s : Setting) (width width' : Width) (aligned aligned' address other value : ℕ) (store : Store) →
    (other + bytes width' ≤ address) ⊎ (address + bytes width ≤ other) → IfOk (put (place.Memory width aligned address) value store)
    (λ after. loaded (reads_of s after) width' aligned' other ≡ loaded (reads_of s store) width' aligned' other)

-- writes leave which addresses may be accessed
abbrev pub AccessStays : Type 0
AccessStays = (m : Memory) (address : ℕ) (written : List ℕ) (size aligned other : ℕ) →
    may_access (cell_at (with_bytes m address written)) size aligned other ≡ may_access (cell_at m) size aligned other
