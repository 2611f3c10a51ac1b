-- The range from one number to another, where both are known.
use Rattle.std.specs.Prelude.{ℕ, Option, Some, None}
use Rattle.cmm_program.specs.declared.statement.Range.{Range}
use Rattle.cmm_static_semantics.specs.Switches.{extent}

abbrev pub range_between : Option ℕ → Option ℕ → Range
range_between low high = elim (extent low high) [ Some x ↦ record { from = x.low; to = x.high } | None ↦ record { from = 0; to = 0 } ]
