-- How many names of each sort are declared.
use Rattle.std.specs.Prelude.{◌≡◌, ℕ, ◌+◌, List}
use Rattle.cmm_static_semantics.specs.Declarations.{Declared, Local, Variable, Room, Label, Continuation}
use Rattle.cmm_proc_scope.specs.inside.Numbering.{count_of, of_sort}
use Rattle.cmm_proc_scope.specs.declared.numbering.Counts.{Counts}

-- the count of the sort of something
abbrev pub count_for : Counts → Local → ℕ
count_for counts (Variable t) = counts.variables
count_for counts Room = counts.rooms
count_for counts Label = counts.labels
count_for counts Continuation = counts.continuations

-- the counts with one more declaration
abbrev pub counted : Counts → Local → Counts
counted counts (Variable t) = record counts { variables = counts.variables + 1 }
counted counts Room = record counts { rooms = counts.rooms + 1 }
counted counts Label = record counts { labels = counts.labels + 1 }
counted counts Continuation = record counts { continuations = counts.continuations + 1 }

abbrev pub AreCounts : Counts → List (Declared Local) → Type 0
AreCounts counts ds = (l : Local) → count_for counts l ≡ count_of (of_sort l) ds
