use Rattle.std.proofs.Common.{◌≡◌, ℕ, List, refl, take, drop, min, length, arith, Option, Some, None, true, is_some}
use Rattle.std.proofs.lemmas.List.{nil_from_length}
use Rattle.cmm_outside.specs.MemoryFiles.{place_of}
use Rattle.cmm_outside.specs.Storage.{TakesFrom, bytes_of}
use Rattle.cmm_outside.proofs.Places.{find-position}
use Rattle.cmm_outside.proofs.memory_files.MemFilesFiles.read_at.Goals as goal
use Rattle.cmm_outside.proofs.memory_files.MemFilesFiles.read_at.Goals.{After-read_at}

-- the place that the call works on
found : (c : After-read_at) → place_of c.args.self.now.places c.args.name.now ≡ Some c.index.result.now
found c =
    let places : c.self.inside.places.items ≡ c.args.self.now.places = cc in
    let at = rw c.in_ok-i.ensures.same at c.in_ok-i.ensures.place in
    rw (find-position _ _ _ c.index.result.now at, ← places, ← c.index.ensures) refl

-- a file that is there, and a count and bytes of it
takes : (file : Option (List ℕ)) (from room : ℕ) (buffer : List ℕ) (n : ℕ) → is_some file ≡ true →
    n ≡ min room (length (drop from (bytes_of file))) → take n buffer ≡ take n (drop from (bytes_of file)) →
    (bytes : List ℕ) × (file ≡ Some bytes) × TakesFrom bytes from room buffer n
takes None from room buffer n there count bytes = cc
takes (Some file) from room buffer n there count bytes = (
  file,
  refl,
  record {
    within = omega arith;
    bytes = bytes;
    progress = λ some none. nil_from_length (drop from file) (omega arith);
  },
)

pub returns-clause-all : goal.returns-clause-all
returns-clause-all c = rw (found (goal.at.returns-clause-all c).After-read_at) c.read_at.ensures.count

pub returns-clause-read : goal.returns-clause-read
returns-clause-read c =
    let here = found (goal.at.returns-clause-read c).After-read_at in
    λ some. rw here (takes _ _ _ _ _ (rw here at c.in_ok-i.ensures.served) c.read_at.ensures.count c.read_at.ensures.bytes)
