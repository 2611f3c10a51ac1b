-- Which rules an expression breaks where something is wanted of it in a procedure or a unit, and those of names and alignments in it.
use Rattle.std.specs.Prelude.{ℕ, Bool, true, false, List, [], ◌++◌, flat_map, slice_get, Option, Some, None}
use Rattle.cmm_words.specs.declared.width.Width.{Width}
use Rattle.cmm_ast.specs.declared.token.Ident.{Ident}
use Rattle.cmm_ast.specs.declared.token.Int.{Int}
use Rattle.cmm_ast.specs.declared.expression.Expr.{Expr}
use Rattle.cmm_ast.specs.declared.expression.TypeName.{TypeName}
use Rattle.cmm_rules.specs.declared.rule.Rule.{Rule}
use Rattle.cmm_rules.specs.declared.rule.Rule.TheVariants.{BadHostCall, Limit}
use Rattle.cmm_program.specs.Typing.{is_alignment}
use Rattle.cmm_static_semantics.specs.declared.spot.Spot.{Spot}
use Rattle.cmm_static_semantics.specs.declared.sense.Sense.{Sense}
use Rattle.cmm_static_semantics.specs.declared.sense.Sense.TheVariants.{Host}
use Rattle.cmm_static_semantics.specs.Spots.{at, unless}
use Rattle.cmm_static_semantics.specs.Senses.{Senses}
use Rattle.cmm_static_semantics.specs.Algebras.{knowns}
use Rattle.cmm_static_semantics.specs.Judging.{spots, with_ok, as_test}
use Rattle.cmm_static_semantics.specs.Typing.{expr_type, type_width, wanted}
use Rattle.cmm_static_semantics.specs.Constants.{number_alone, constant_alone, number_of, constant_of}
use Rattle.cmm_static_semantics.specs.Mentions.{expr_names, values_alone, form_alignments}

-- 40: an alignment is not 1, 2, 4, 8 or 16
abbrev pub alignment_spots : Int → List Spot
alignment_spots k = unless (is_alignment k.value) Limit k.token

-- 38: a procedure of the host stands where it isn't called as its own statement
abbrev pub is_not_host : Option Sense → Bool
is_not_host (Some (Host h)) = false
is_not_host _ = true

abbrev pub host_spots : Senses → Ident → List Spot
host_spots names i = unless (is_not_host (names i.name)) BadHostCall i.token

-- what is broken in an expression whatever is wanted of it
abbrev pub inner_spots : Senses → Expr → List Spot
inner_spots names e = flat_map (host_spots names) (expr_names values_alone e) ++ flat_map alignment_spots (form_alignments e.form)

-- ---- what is wanted of an expression: bits of a width where there is one, a condition, and the constants

abbrev pub bits_spots : Senses → Option Width → Expr → List Spot
bits_spots names width e = spots (wanted knowns names width e) ++ inner_spots names e

abbrev pub test_spots : Senses → Expr → List Spot
test_spots names e = spots (with_ok (expr_type knowns names e) (as_test e.token)) ++ inner_spots names e

-- a compile-time constant of 64 bits
abbrev pub number_spots : Senses → Expr → List Spot
number_spots names e = spots (number_of names e) ++ inner_spots names e

-- a compile-time constant; a literal takes the width
abbrev pub number_alone_spots : Senses → Option Width → Expr → List Spot
number_alone_spots names width e = spots (number_alone names width e) ++ inner_spots names e

-- a link-time constant of any width
abbrev pub constant_spots : Senses → Expr → List Spot
constant_spots names e = spots (constant_of names e) ++ inner_spots names e

-- a link-time constant; a literal takes the width
abbrev pub constant_alone_spots : Senses → Option Width → Expr → List Spot
constant_alone_spots names width e = spots (constant_alone names width e) ++ inner_spots names e

abbrev pub type_spots : Senses → TypeName → List Spot
type_spots names t = spots (type_width names t)

-- ---- lists

-- the rule is broken at what a list has past its limit
abbrev pub past_limit : {A : Type 0} → Rule → ℕ → (A → ℕ) → List A → List Spot
past_limit rule limit token list = elim (slice_get list limit) [ Some a ↦ at rule (token a) | None ↦ [] ]
