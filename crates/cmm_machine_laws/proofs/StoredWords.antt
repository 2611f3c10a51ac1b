-- The bytes of a number and back, and words stored and loaded again.
use Rattle.std.specs.List.{list_all, range_with_len}
use Rattle.std.proofs.lemmas.Bool.Decides.{nat_tests}
use Rattle.std.proofs.lemmas.Grind.{get_or_head, get_or_tail}
use Rattle.std.proofs.Common.{◌≡◌, ◌⊎◌, ℕ, zero, suc, ◌+◌, ◌/◌, ◌%◌, ◌≤◌, ◌==◌, ◌&&◌, true, List, [], ◌∷◌, length, map, Ok, refl, ap, arith, pow-suc, mod-eq_of_lt}
use Rattle.std.proofs.Math.Nat.{one-le-pow}
use Rattle.std.proofs.Math.Arith.{mod-mul}
use Rattle.cmm_words.specs.Widths.{bytes}
use Rattle.cmm_program.specs.Errors.{all_of}
use Rattle.cmm_program.specs.Layout.{bytes_of}
use Rattle.cmm_program.specs.Memory.{Memory, cell_at, with_byte, with_bytes}
use Rattle.cmm_program.specs.Values.{is_there, byte_of}
use Rattle.cmm_machine_laws.proofs.Cells.{read_after_write}
use Rattle.cmm_machine_laws.specs.StoredWords.{BytesOfNumber, NumberOfBytes, BytesOfSpelled, StoredIsLoaded, WordsElsewhereStay, AccessStays}

-- ---- bytes of a number

-- the bytes of a number are n, and bytes
pub bytes_of_number : BytesOfNumber
bytes_of_number zero value = grind arith
bytes_of_number (suc size) value = grind (arith, get_or_head, get_or_tail, bytes_of_number size (value / 256))

-- they spell the number, cut to their count
pub number_of_bytes : NumberOfBytes
number_of_bytes zero value = omega arith
number_of_bytes (suc size) value = grind (arith, mod-mul, one-le-pow, pow-suc, number_of_bytes size (value / 256))

-- and back
pub bytes_of_spelled : BytesOfSpelled
bytes_of_spelled [] are = grind arith
bytes_of_spelled (byte ∷ bytes) are = grind (arith, are 0 0, bytes_of_spelled bytes (λ k d less. are (suc k) d (omega arith)))

-- ---- cells that are there

-- a write leaves which of n cells are there
all_there_stay : (m : Memory) (address : ℕ) (bytes : List ℕ) (other size : ℕ) →
    list_all is_there (map (cell_at (with_bytes m address bytes)) (range_with_len other size))
    ≡ list_all is_there (map (cell_at m) (range_with_len other size))
all_there_stay m address bytes other zero = refl
all_there_stay m address bytes other (suc size) = grind (arith, read_after_write, all_there_stay m address bytes (other + 1) size)

-- so it leaves which addresses may be accessed
pub access_stays : AccessStays
access_stays m address bytes size aligned other = ap (λ all. (other % aligned == 0) && all) (all_there_stay m address bytes other size)

-- ---- words stored

-- bytes written where all cells are there are read again
bytes_read : (m : Memory) (address size value : ℕ) → list_all is_there (map (cell_at m) (range_with_len address size)) ≡ true →
    all_of (map (λ at. byte_of (cell_at (with_bytes m address (bytes_of size value)) at)) (range_with_len address size)) ≡ Ok (bytes_of size value)
bytes_read m address zero value there = refl
bytes_read m address (suc size) value there =
    let here = read_after_write m address (bytes_of (suc size) value) address in
    let kept = all_there_stay m address (value % 256 ∷ []) in
    grind (arith, nat_tests, get_or_head, here, kept, bytes_read (with_byte m address (value % 256)) (address + 1) size)

-- bytes elsewhere stay
bytes_stay : (m : Memory) (address : ℕ) (bytes : List ℕ) (other size : ℕ) → (other + size ≤ address) ⊎ (address + length bytes ≤ other) →
    map (λ at. byte_of (cell_at (with_bytes m address bytes) at)) (range_with_len other size) ≡ map (λ at. byte_of (cell_at m at)) (range_with_len other size)
bytes_stay m address bytes other zero apart = refl
bytes_stay m address bytes other (suc size) apart = grind (arith, nat_tests, read_after_write, bytes_stay m address bytes (other + 1) size)

-- a stored word is loaded again
pub stored_is_loaded : StoredIsLoaded
stored_is_loaded s width aligned address value store small =
    grind (arith, nat_tests, all_there_stay, bytes_read store.memory address, number_of_bytes, mod-eq_of_lt {n = value})

-- a store leaves the words elsewhere
pub words_elsewhere_stay : WordsElsewhereStay
words_elsewhere_stay s width width' aligned aligned' address other value store apart =
    grind (arith, all_there_stay, bytes_stay store.memory address (bytes_of (bytes width) value), bytes_of_number)

-- ---- all of these

-- what is stated of bytes and words
pub ruleset laws = (bytes_of_number, number_of_bytes, bytes_of_spelled, access_stays, stored_is_loaded, words_elsewhere_stay)
