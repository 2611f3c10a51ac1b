-- The places that variables have had so far, for each procedure.
use Rattle.std.specs.Prelude.{◌≡◌, ℕ, ◌<◌, ◌==◌, ◌&&◌, not, Bool, List, [], length, slice_index_or}
use Rattle.std.specs.List.{list_any}
use Rattle.cmm_image.specs.declared.rows.SiteRow.{SiteRow}
use Rattle.cmm_image.specs.declared.rows.VariablePlace.{VariablePlace}
use Rattle.cmm_image.specs.declared.rows.VariablePlace.TheVariants.{Dead}
use Rattle.cmm_image.specs.Migration.{agree, place_of}

-- a variable has places that agree in two lists
abbrev pub agree_at : List VariablePlace → List VariablePlace → ℕ → Bool
agree_at seen here v = agree (slice_index_or seen v Dead) (slice_index_or here v Dead)

-- at one of these sites, of a procedure, a variable is live in another place than this
abbrev pub has_other : List SiteRow → ℕ → ℕ → VariablePlace → Bool
has_other sites procedure v place = list_any (λ s. (s.procedure == procedure) && not (agree (place_of v s) place)) sites

-- a place is another than that of one of these sites where it is another than the one that was seen
pub record AreSeen (procedures : ℕ) (seen : List (List VariablePlace)) (sites : List SiteRow) : Type 0 where
  pub count : length seen ≡ procedures
  pub each : (p v : ℕ) (place : VariablePlace) → p < procedures → has_other sites p v place ≡ not (agree (slice_index_or (slice_index_or seen p []) v Dead) place)
