-- The room that a program takes in an image, by its tokens.
use Rattle.std.specs.Prelude.{◌+◌, ◌*◌, ◌≤◌, List, length, sum_by}
use Rattle.cmm_ast.specs.declared.unit.Unit.{Unit as UnitTree}
use Rattle.cmm_program.specs.declared.program.Program.{Program}
use Rattle.cmm_program.specs.Limits.{token_limit}
use Rattle.cmm_static_semantics.specs.Faults.{AreAccepted}
use Rattle.cmm_elaboration.specs.Laws.{AreRead}
use Rattle.cmm_elaboration.specs.Meaning.{meaning_of}

-- The tokens of procedures, two for each name under which a data label is exported, and one for each label are among those of all units: an export has a
-- name, and a comma or a semicolon behind it.
abbrev pub KeepsRoom : Program → Type 0
KeepsRoom p = sum_by (λ q. q.tokens) p.procs + 2 * sum_by (λ l. length l.links) p.labels + length p.labels ≤ token_limit

abbrev pub RoomIsKept : Type 0
RoomIsKept = (us : List UnitTree) → AreAccepted us → AreRead us → KeepsRoom (meaning_of us)
