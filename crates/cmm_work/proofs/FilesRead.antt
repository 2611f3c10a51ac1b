-- Files that were read, and what stands outside.
use Rattle.std.proofs.Common.{◌≡◌, ℕ, suc, Option, Some, None, List, ◌<◌, length, replicate, refl, sym, subst, arith}
use Rattle.std.proofs.lemmas.List.{length-replicate}
use Rattle.cmm_outside.specs.Storage.{Contents, FailedCall, HasFile}
use Rattle.cmm_run.specs.Outside.{Outside as Streams}
use Rattle.cmm_work.specs.Standing.{Outside}
use Rattle.cmm_work.specs.Files.{HasBytes}

-- ---- a file

-- there are lists longer than any number
longer : (n : ℕ) → (bytes : List ℕ) × (n < length bytes)
longer n = (replicate (suc n) 0, subst (λ m. n < m) (sym (length-replicate (suc n) 0)) (omega arith))

-- a file that tells nothing may hold the bytes that were read
pub has_whole : (contents : Option Contents) (name read : List ℕ) → HasFile contents name (λ file. read ≡ file) → HasBytes contents name (λ bytes. read ≡ bytes)
has_whole None name read has = (read, tt, refl)
has_whole (Some files) name read has = has

-- and one that is too long some that are
pub has_more : (contents : Option Contents) (name : List ℕ) (limit : ℕ) → HasFile contents name (λ file. limit < length file) → HasBytes contents name (λ bytes. limit < length bytes)
has_more None name limit has = let (bytes, long) = longer limit in (bytes, tt, long)
has_more (Some files) name limit has = has

-- what holds of a file may be weaker
pub bytes_so : (contents : Option Contents) (name : List ℕ) (P Q : List ℕ → Type 0) → ((bytes : List ℕ) → P bytes → Q bytes) → HasBytes contents name P → HasBytes contents name Q
bytes_so contents name P Q so (bytes, there, holds) = (bytes, there, so bytes holds)

-- ---- what stands outside

-- files that were read stand as they did
pub same_outside : (streams : Streams) (files files' : Option Contents) (faults faults' : ℕ) (last last' : Option FailedCall) → files' ≡ files → faults' ≡ faults → last' ≡ last →
    ◌≡◌ {A = Outside} (record { files = files'; file_faults = faults'; last_failed = last'; streams = streams }) (record { files = files; file_faults = faults; last_failed = last; streams = streams })
same_outside streams files files' faults faults' last last' a b c = λ i. record { files = a i; file_faults = b i; last_failed = c i; streams = streams }
