-- Wholes: what all of the bytes are, and which field is the first to break a rule where they are nothing.
use Rattle.std.specs.Prelude.{◌≡◌, ℕ, ◌-◌, nat_lt, true, false, List, [], ◌∷◌, length, Result, Ok, Err}
use Rattle.cmm_rules.specs.declared.rule.Rule.{Rule}
use Rattle.cmm_format.specs.declared.fault.Broken.{Broken}
use Rattle.cmm_format.specs.Formats.{◌>>=◌, Format, breaks}

-- what is asked of all the bytes, beside the format of the value
pub record Ends : Type 0 where
  -- the most bytes, and the rule that more of them break
  pub limit : ℕ
  pub too_long : Rule
  -- the rule that is broken where bytes follow the value
  pub followed : Rule

-- a value, and what follows it: nothing may
abbrev pub ended : {A : Type 0} → Rule → A × List ℕ → Result A Broken
ended followed (a, []) = Ok a
ended followed (a, b ∷ bytes) = Err (breaks followed (b ∷ bytes))

-- the value that all of the bytes are, or the first field that breaks a rule
unfoldable pub whole_in : {A : Type 0} → Format A → Ends → List ℕ → Result A Broken
whole_in F ends bytes = elim (nat_lt ends.limit (length bytes)) [
  | true ↦ Err (record { rule = ends.too_long; left = length bytes - ends.limit })
  | false ↦ F.at bytes >>= ended ends.followed
]

-- the first field that breaks a rule begins at this offset
pub record IsFirstBroken {A : Type 0} (F : Format A) (ends : Ends) (bytes : List ℕ) (rule : Rule) (offset : ℕ) : Type 0 where
  pub broken : Broken
  pub first : whole_in F ends bytes ≡ Err broken
  pub rule_is : rule ≡ broken.rule
  pub offset_is : offset ≡ length bytes - broken.left
