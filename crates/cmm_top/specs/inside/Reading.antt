-- Units that were read from files.
use Rattle.std.specs.Prelude.{◌≡◌, ◌<◌, ◌≤◌, ℕ, true, false, List, ◌∷◌, ◌++◌, length, Option}
use Rattle.cmm_lexer.specs.declared.tokens.TheConstants.{UNIT_LIMIT}
use Rattle.cmm_outside.specs.Storage.{Contents}
use Rattle.cmm_top.specs.declared.sources.Sources.{Sources}
use Rattle.cmm_work.specs.Files.{HasUnits}

-- these units were read: all, or those before the first that is too long
abbrev pub AreUnits : List (List ℕ) → Sources → Type 0
AreUnits units s = elim s.cut [
  | false ↦ s.units ≡ units
  | true ↦ (unit : List ℕ) × (rest : List (List ℕ)) × (units ≡ s.units ++ unit ∷ rest) × (UNIT_LIMIT < length unit)
]

-- these are the units of n files, or those before one that is too long
abbrev pub AreWithin : ℕ → Sources → Type 0
AreWithin count s = (length s.units ≤ count) × (s.cut ≡ true → length s.units < count) × (s.cut ≡ false → length s.units ≡ count)

abbrev pub AreRead : Option Contents → List (List ℕ) → Sources → Type 0
AreRead contents names s = HasUnits contents names (λ units. AreUnits units s)
