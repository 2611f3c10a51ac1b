-- Where a rule is broken, and which of several places is named: the first, and at one place the rule with the least number.
use Rattle.std.specs.Prelude.{ℕ, ◌==◌, ◌&&◌, ◌||◌, nat_lt, Bool, true, false, List, [], ◌∷◌, Option, Some, None}
use Rattle.cmm_rules.specs.declared.rule.Rule.{Rule}
use Rattle.cmm_rules.specs.Rules.{rule_number}
use Rattle.cmm_static_semantics.specs.declared.spot.Spot.{Spot}

-- ---- the first by an order

-- the one that is named of two
abbrev pub sooner_by : {A : Type 0} → (A → A → Bool) → Option A → Option A → Option A
sooner_by before None b = b
sooner_by before (Some a) None = Some a
sooner_by before (Some a) (Some b) = elim (before b a) [ true ↦ Some b | false ↦ Some a ]

-- the one that is named of some and more
abbrev pub first_by : {A : Type 0} → (A → A → Bool) → Option A → List A → Option A
first_by before best [] = best
first_by before best (s ∷ ss) = first_by before (sooner_by before best (Some s)) ss

-- ---- in a unit

abbrev pub comes_before : Spot → Spot → Bool
comes_before a b = nat_lt a.token b.token || ((a.token == b.token) && nat_lt (rule_number a.rule) (rule_number b.rule))

abbrev pub sooner : Option Spot → Option Spot → Option Spot
sooner a b = sooner_by comes_before a b

abbrev pub first_of : Option Spot → List Spot → Option Spot
first_of best ss = first_by comes_before best ss

abbrev pub at : Rule → ℕ → List Spot
at rule token = record { token = token; rule = rule } ∷ []

-- the rule is broken where a test fails
abbrev pub unless : Bool → Rule → ℕ → List Spot
unless test rule token = elim test [ true ↦ [] | false ↦ at rule token ]
