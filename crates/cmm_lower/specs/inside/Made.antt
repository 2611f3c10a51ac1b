-- What some units have of the program that they mean, made unit by unit (C-- Language Specification 2.0, compilation units).
use Rattle.std.specs.Prelude.{◌≡◌, ◌+◌, ◌<◌, ◌^◌, List, ◌∷◌, ◌++◌, flat_map, length}
use Rattle.std.specs.List.{All}
use Rattle.cmm_static_semantics.specs.Declarations.{NamedUnit}
use Rattle.cmm_static_semantics.specs.Items.{items_of}
use Rattle.cmm_static_semantics.specs.Linking.{Program as Linked}
use Rattle.cmm_static_semantics.specs.Scopes.{unit_senses}
use Rattle.cmm_elaboration.specs.Data.{datums_among}
use Rattle.cmm_elaboration.specs.Meaning.{labels_from, procedures_from, unit_datums}
use Rattle.cmm_lower.specs.Fitting.{ItemFits}
use Rattle.cmm_lower.specs.declared.parts.Parts.{Parts}

-- the procedures, data and labels of these units
pub record AreParts (program : Linked) (us : List NamedUnit) (parts : Parts) : Type 0 where
  pub procs : parts.procs ≡ procedures_from program 0 us
  pub datums : parts.datums ≡ flat_map (unit_datums program) us
  pub labels : parts.labels ≡ labels_from 0 us

-- a unit behind some others fits a program, whose numbers have 32 bits, as accepted units do
pub record FitsBehind (program : Linked) (before : List NamedUnit) (u : NamedUnit) : Type 0 where
  pub items : u.items ≡ items_of u.tree
  pub procedures : All (λ i. ItemFits (unit_senses program u.entries) i.what) u.items
  pub lengths : All (λ d. d.length < 2 ^ 32) (unit_datums program u)
  pub datums : length (flat_map (unit_datums program) before) + datums_among u.items < 2 ^ 32

-- each of some units does
abbrev pub AllFit : Linked → List NamedUnit → Type 0
AllFit program us = (before behind : List NamedUnit) (u : NamedUnit) → us ≡ before ++ u ∷ behind → FitsBehind program before u
