-- Names in tables.
use Rattle.std.specs.Prelude.{◌≡◌, ℕ, List}
use Rattle.cmm_static_semantics.specs.Senses.{is_there}
use Rattle.cmm_static_semantics.specs.Declarations.{Declared, found}
use Rattle.cmm_static_semantics.specs.Linking.{is_among}
use Rattle.cmm_symbols.specs.Indexed.{indexed}
use Rattle.cmm_symbols.specs.declared.index.Index.{Index}

-- the names in a table are these
abbrev pub AreLinks : Index (Unit {0}) → List (List ℕ) → Type 0
AreLinks i names = (x : List ℕ) → is_there (indexed i x) ≡ is_among x names

-- a table has of each name what it is first declared as
abbrev pub AreFound : {A : Type 0} → Index A → List (Declared A) → Type 0
AreFound i ds = (x : List ℕ) → indexed i x ≡ found x ds
