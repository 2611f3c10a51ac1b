-- Which rules the range and the arms of a switch break (C-- Language Specification 2.0, the switch statement).
use Rattle.std.specs.Prelude.{ℕ, ◌&&◌, ◌||◌, not, nat_le, nat_lt, Bool, true, false, List, [], ◌∷◌, ◌++◌, Option, Some, None}
use Rattle.cmm_words.specs.declared.width.Width.{Width}
use Rattle.cmm_ast.specs.declared.expression.Expr.{Expr}
use Rattle.cmm_ast.specs.declared.statement.Case.{Case}
use Rattle.cmm_ast.specs.declared.statement.Case.TheVariants.{Ranges, Default}
use Rattle.cmm_ast.specs.declared.statement.Range.{Range}
use Rattle.cmm_ast.specs.declared.statement.Span.{Span}
use Rattle.cmm_ast.specs.declared.statement.StmtForm.{Row_of-Arm, end_of-Arm, more_of-Arm}
use Rattle.cmm_rules.specs.declared.rule.Rule.TheVariants.{ArmsOverlap}
use Rattle.cmm_static_semantics.specs.declared.spot.Spot.{Spot}
use Rattle.cmm_static_semantics.specs.Spots.{unless}
use Rattle.cmm_static_semantics.specs.Senses.{Senses}
use Rattle.cmm_static_semantics.specs.Judging.{if_ok}
use Rattle.cmm_static_semantics.specs.Constants.{number_alone}
use Rattle.cmm_static_semantics.specs.Expressions.{number_alone_spots}

-- the numbers from one to another
pub record Extent : Type 0 where
  pub low : ℕ
  pub high : ℕ

abbrev pub extent : Option ℕ → Option ℕ → Option Extent
extent (Some low) (Some high) = Some record { low = low; high = high }
extent _ _ = None

-- what stands before an arm's block
pub record Head : Type 0 where
  pub token : ℕ
  pub case_ : Case

abbrev pub heads : {n : _} → Row_of-Arm n → List Head
heads end_of-Arm = []
heads (more_of-Arm token case_ _ body rest) = record { token = token; case_ = case_ } ∷ heads rest

-- the names, and the width of the switch's value where that is not broken
module _ (names : Senses) (width : Option Width) where
  abbrev pub number_at : Expr → Option ℕ
  number_at e = if_ok (number_alone names width e)

  abbrev pub range_extent : Range → Option Extent
  range_extent r = elim r.to [ Some last ↦ extent (number_at r.from) (number_at last) | None ↦ extent (number_at r.from) (number_at r.from) ]

  abbrev pub last_spots : Option Expr → List Spot
  last_spots (Some e) = number_alone_spots names width e
  last_spots None = []

  abbrev pub lies_in : Option Extent → Extent → Bool
  lies_in None x = true
  lies_in (Some all) x = nat_le all.low x.low && nat_le x.high all.high

  abbrev pub meets_none : List (Option Extent) → Extent → Bool
  meets_none [] x = true
  meets_none (Some e ∷ es) x = (nat_lt x.high e.low || nat_lt e.high x.low) && meets_none es x
  meets_none (None ∷ es) x = meets_none es x

  -- 31: a range falls, leaves the switch's range or meets one before it
  abbrev pub extent_spots : Option Extent → List (Option Extent) → ℕ → Option Extent → List Spot
  extent_spots all earlier token (Some x) = unless (nat_le x.low x.high && lies_in all x && meets_none earlier x) ArmsOverlap token
  extent_spots all earlier token None = []

  abbrev pub range_spots : Option Extent → List (Option Extent) → Range → List Spot
  range_spots all earlier r = number_alone_spots names width r.from ++ last_spots r.to ++ extent_spots all earlier r.from.token (range_extent r)

  abbrev pub ranges_spots : Option Extent → List (Option Extent) → List Range → List Spot
  ranges_spots all earlier [] = []
  ranges_spots all earlier (r ∷ rs) = range_spots all earlier r ++ ranges_spots all (range_extent r ∷ earlier) rs

  abbrev pub with_extents : List Range → List (Option Extent) → List (Option Extent)
  with_extents [] earlier = earlier
  with_extents (r ∷ rs) earlier = with_extents rs (range_extent r ∷ earlier)

  -- 31: a second `default`
  abbrev pub arms_spots : Option Extent → List (Option Extent) → Bool → List Head → List Spot
  arms_spots all earlier defaulted [] = []
  arms_spots all earlier defaulted (a ∷ as_) = elim a.case_ [
    | Ranges rs ↦ ranges_spots all earlier rs ++ arms_spots all (with_extents rs earlier) defaulted as_
    | Default ↦ unless (not defaulted) ArmsOverlap a.token ++ arms_spots all earlier true as_
  ]

  abbrev pub whole_extent : Option Span → Option Extent
  whole_extent (Some s) = extent (number_at s.from) (number_at s.to)
  whole_extent None = None

  -- 31: the switch's range falls
  abbrev pub whole_spots : Option Span → List Spot
  whole_spots (Some s) = number_alone_spots names width s.from ++ number_alone_spots names width s.to
      ++ elim (extent (number_at s.from) (number_at s.to)) [ Some x ↦ unless (nat_le x.low x.high) ArmsOverlap s.from.token | None ↦ [] ]
  whole_spots None = []

  abbrev pub switch_spots : Option Span → List Head → List Spot
  switch_spots over arms = whole_spots over ++ arms_spots (whole_extent over) [] false arms
