-- Where a name's place stands among the places.
use Rattle.std.specs.Prelude.{ℕ, List, Option, position}
use Rattle.std.specs.Str.{bytes_eq}
use Rattle.cmm_outside.specs.MemoryFiles.{Place}

-- the index of the place of a name
abbrev pub index_of : List Place → List ℕ → Option ℕ
index_of places name = position (λ place. bytes_eq place.name name) places
