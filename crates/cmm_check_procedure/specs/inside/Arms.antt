-- The faults of one arm, and what arms after it know of it.
use Rattle.std.specs.Prelude.{not, Bool, true, List, [], ◌∷◌, Option}
use Rattle.cmm_words.specs.declared.width.Width.{Width}
use Rattle.cmm_ast.specs.declared.statement.Case.{Case}
use Rattle.cmm_ast.specs.declared.statement.Case.TheVariants.{Ranges, Default}
use Rattle.cmm_rules.specs.declared.rule.Rule.TheVariants.{ArmsOverlap}
use Rattle.cmm_static_semantics.specs.declared.spot.Spot.{Spot}
use Rattle.cmm_static_semantics.specs.Spots.{unless}
use Rattle.cmm_static_semantics.specs.Senses.{Senses}
use Rattle.cmm_static_semantics.specs.Switches.{Extent, Head, ranges_spots, with_extents}

-- the extents of earlier ranges, and whether there was a `default`
pub record Before : Type 0 where
  pub extents : List (Option Extent)
  pub defaulted : Bool

abbrev pub before : List (Option Extent) → Bool → Before
before earlier defaulted = record { extents = earlier; defaulted = defaulted }

abbrev pub is_defaulted : Bool → Case → Bool
is_defaulted defaulted (Ranges rs) = defaulted
is_defaulted defaulted Default = true

module _ (names : Senses) (width : Option Width) where
  abbrev pub arm_spots : Option Extent → Before → Head → List Spot
  arm_spots all b a = elim a.case_ [ Ranges rs ↦ ranges_spots names width all b.extents rs | Default ↦ unless (not b.defaulted) ArmsOverlap a.token ]

  abbrev pub with_ranges : Case → List (Option Extent) → List (Option Extent)
  with_ranges (Ranges rs) earlier = with_extents names width rs earlier
  with_ranges Default earlier = earlier

  abbrev pub with_arm : Before → Head → Before
  with_arm b a = before (with_ranges a.case_ b.extents) (is_defaulted b.defaulted a.case_)

  abbrev pub with_arms : Before → List Head → Before
  with_arms b [] = b
  with_arms b (a ∷ as_) = with_arms (with_arm b a) as_
