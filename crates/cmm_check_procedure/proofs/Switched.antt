-- The ranges and the arms of a switch, one after another.
use Rattle.std.proofs.Common.{◌≡◌, ℕ, ◌<◌, ◌≤◌, refl, ap, sym, ◌∙◌, Bool, false, ◌&&◌, List, [], ◌∷◌, ◌++◌, Option, Some, None}
use Rattle.std.specs.Prelude.{nat_le}
use Rattle.std.proofs.lemmas.Bool.{le-leb, lt-leb}
use Rattle.cmm_words.specs.declared.width.Width.{Width}
use Rattle.cmm_ast.specs.declared.statement.Case.TheVariants.{Ranges, Default}
use Rattle.cmm_rules.specs.declared.rule.Rule.TheVariants.{ArmsOverlap}
use Rattle.cmm_static_semantics.specs.declared.spot.Spot.{Spot}
use Rattle.cmm_static_semantics.specs.Spots.{unless, first_of}
use Rattle.cmm_static_semantics.specs.Senses.{Senses}
use Rattle.cmm_static_semantics.specs.Switches.{Extent, Head, meets_none, lies_in, extent_spots, range_extent, range_spots, ranges_spots, with_extents, arms_spots}
use Rattle.cmm_check_procedure.specs.declared.extents.Extents.{Extents}
use Rattle.cmm_check_procedure.specs.Extents.{are_apart, extents_of, meets_none_of}
use Rattle.cmm_check_procedure.specs.inside.Arms.{Before, arm_spots, with_arm, with_arms}
use Rattle.cmm_check_procedure.specs.inside.Earlier.{AreEarlier, unbroken}
use Rattle.cmm_check_procedure.proofs.Walks.{Walk}

module _ (names : Senses) (width : Option Width) where
  pub meets_none_is : (earlier : List (Option Extent)) (x : Extent) → meets_none names width earlier x ≡ meets_none_of (unbroken earlier) x
  meets_none_is [] x = refl
  meets_none_is (Some e ∷ es) x = ap (λ b. are_apart e x && b) (meets_none_is es x)
  meets_none_is (None ∷ es) x = meets_none_is es x

  -- a range by a set of those before it
  pub extent_noted : (all : Option Extent) (s : Extents) (earlier : List (Option Extent)) (token : ℕ) (x : Extent) (allowed : Bool) (best : Option Spot) →
      AreEarlier s earlier → allowed ≡ (nat_le x.low x.high && lies_in names width all x && meets_none_of (extents_of s) x) →
      first_of best (unless allowed ArmsOverlap token) ≡ first_of best (extent_spots names width all earlier token (Some x))
  extent_noted all s earlier token x allowed best told is = ap (λ b. first_of best (unless b ArmsOverlap token))
      (is ∙ ap (λ b. nat_le x.low x.high && lies_in names width all x && b) (told x ∙ sym (meets_none_is earlier x)))

  pub ranges_walk : (all : Option Extent) → Walk (range_spots names width all) (λ earlier r. range_extent names width r ∷ earlier) (ranges_spots names width all)
      (λ earlier rs. with_extents names width rs earlier)
  ranges_walk all = record { none = λ s. refl; more = λ s x xs. refl; same = λ s. refl; moved = λ s x xs. refl }

  arms_more : (all : Option Extent) (before : Before) (a : Head) (as_ : List Head) →
      arms_spots names width all before.extents before.defaulted (a ∷ as_) ≡
      arm_spots names width all before a ++ arms_spots names width all (with_arm names width before a).extents (with_arm names width before a).defaulted as_
  arms_more all before a as_ = elim a.case_ as (λ case_. let b : Head = record { token = a.token; case_ = case_ } in
      arms_spots names width all before.extents before.defaulted (b ∷ as_) ≡
      arm_spots names width all before b ++ arms_spots names width all (with_arm names width before b).extents (with_arm names width before b).defaulted as_)
      [ Ranges rs ↦ refl | Default ↦ refl ]

  pub arms_walk : (all : Option Extent) → Walk (arm_spots names width all) (with_arm names width) (λ before as_. arms_spots names width all before.extents before.defaulted as_)
      (with_arms names width)
  arms_walk all = record { none = λ s. refl; more = arms_more all; same = λ s. refl; moved = λ s x xs. refl }

-- one more range among those before
pub one_more : (s t : Extents) (earlier : List (Option Extent)) (x : Extent) → AreEarlier s earlier →
    ((y : Extent) → meets_none_of (extents_of t) y ≡ (are_apart x y && meets_none_of (extents_of s) y)) → AreEarlier t (Some x ∷ earlier)
one_more s t earlier x told added y = added y ∙ ap (λ b. are_apart x y && b) (told y)

pub allowed_is : (a b c d : Bool) (low high : ℕ) → low ≤ high → a ≡ b → c ≡ d → (a && c) ≡ (nat_le low high && b && d)
allowed_is a b c d low high le e f = rw (e, f, le-leb low high le) refl

pub falling_is : (low high : ℕ) (b c : Bool) → high < low → false ≡ (nat_le low high && b && c)
falling_is low high b c lt = rw (lt-leb low high lt) refl
