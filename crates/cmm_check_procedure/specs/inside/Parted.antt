-- A statement in two parts: the arms of a switch, and all else.
use Rattle.std.specs.Prelude.{ℕ, List, [], option_map, Option, None}
use Rattle.cmm_words.specs.declared.width.Width.{Width}
use Rattle.cmm_ast.specs.declared.expression.Expr.{Expr}
use Rattle.cmm_ast.specs.declared.statement.StmtForm.{StmtForm}
use Rattle.cmm_ast.specs.declared.statement.StmtForm.TheVariants as stmts
use Rattle.cmm_static_semantics.specs.declared.spot.Spot.{Spot}
use Rattle.cmm_static_semantics.specs.Algebras.{knowns}
use Rattle.cmm_static_semantics.specs.Expressions.{bits_spots}
use Rattle.cmm_static_semantics.specs.Judging.{if_ok}
use Rattle.cmm_static_semantics.specs.Scopes.{Scope, senses}
use Rattle.cmm_static_semantics.specs.Statements.{stmt_spots}
use Rattle.cmm_static_semantics.specs.Switches.{heads, switch_spots}
use Rattle.cmm_static_semantics.specs.Typing.{wanted}

-- the width of the value of a switch, if that is not broken
abbrev pub value_width : Scope → Expr → Option Width
value_width s value = option_map (λ x. x.width) (if_ok (wanted knowns (senses s) None value))

-- a statement, the arms of a switch left out
abbrev pub form_spots : Scope → ℕ → StmtForm → List Spot
form_spots s token (stmts.Switch' range value _ arms) = bits_spots (senses s) None value
form_spots s token form = stmt_spots s token form

-- the arms of a switch; other statements have none
abbrev pub arms_spots : Scope → StmtForm → List Spot
arms_spots s (stmts.Switch' range value _ arms) = switch_spots (senses s) (value_width s value) range (heads arms)
arms_spots s _ = []
