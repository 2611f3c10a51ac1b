-- How many words a room of stackdata has (C-- Language Specification 2.0, stack data).
use Rattle.std.specs.Prelude.{ℕ, Option, Some, None}
use Rattle.cmm_ast.specs.declared.expression.Expr.{Expr}
use Rattle.cmm_static_semantics.specs.Limits.{number_or_zero}
use Rattle.cmm_static_semantics.specs.Senses.{Senses}

abbrev pub words_in : Senses → Option Expr → ℕ
words_in names (Some e) = number_or_zero names e
words_in names None = 1
