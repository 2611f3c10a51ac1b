-- The tokens that have a span somewhere, by a list of them and how many are different.
use Rattle.std.specs.Prelude.{◌≡◌, ℕ, ◌==◌, ◌+◌, Bool, true, false, List, ◌++◌, flat_map}
use Rattle.std.specs.List.{list_any}
use Rattle.cmm_ast.specs.declared.statement.Arm.{Arm}
use Rattle.cmm_ast.specs.declared.statement.Part.{Part}
use Rattle.cmm_static_semantics.specs.Items.{SpanTree, Within, parts_in}
use Rattle.cmm_static_semantics.specs.Limits.{different, is_in, tokens_of}
use Rattle.cmm_static_semantics.specs.Senses.{Senses}
use Rattle.cmm_limits.specs.Capped.{capped}

-- a list has these tokens, in whatever order, and n of them are different
pub record HasTokens (tokens : List ℕ) (count : ℕ) (all : List ℕ) : Type 0 where
  pub member : (n : ℕ) → list_any (λ t. t == n) tokens ≡ is_in n all
  pub counted : count ≡ capped (different all)

-- those of these spans and those around them
abbrev pub AreInForce : Senses → List ℕ → ℕ → List SpanTree → List ℕ → Type 0
AreInForce names tokens count spans around = HasTokens tokens count (tokens_of names spans ++ around)

-- the count with one more, which may be among them
abbrev pub one_more : Bool → ℕ → ℕ
one_more true count = count
one_more false count = capped (count + 1)

abbrev pub tokens_at : Bool → ℕ → ℕ
tokens_at true count = count
tokens_at false count = 0

abbrev pub parts_of_arms : List SpanTree → List Arm → List (Within Part)
parts_of_arms spans as_ = flat_map (λ a. parts_in spans a.body) as_
