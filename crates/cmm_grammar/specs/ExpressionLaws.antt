-- What the grammar of expressions promises: tokens have one tree, and a reader stops at the first token that no expression
-- goes on with, or that passes a limit in each that does.
use Rattle.std.specs.Prelude.{◌≡◌, ℕ, suc, ◌<◌, List, length, take, ◌++◌, true, Some, None}
use Rattle.cmm_lexer.specs.declared.piece.Lexeme.{Lexeme}
use Rattle.cmm_ast.specs.declared.expression.Expr.{Expr}
use Rattle.cmm_grammar.specs.ExpressionGrammar as grammar
use Rattle.cmm_grammar.specs.Reading.{Point, Unexpected, TooDeep, Read, Stopped}
use Rattle.cmm_grammar.specs.ReadingLaws.{within, point, TakesAll, Answers}
use Rattle.cmm_grammar.specs.ExpressionReading.{whole}

-- an expression takes all of these tokens, limits left aside
abbrev pub IsExpression : List Lexeme → Expr → Type 0
IsExpression tokens e = TakesAll (grammar.whole e) tokens

-- no tokens have two expressions
abbrev pub OneExpression : Type 0
OneExpression = (tokens : List Lexeme) (e f : Expr) → IsExpression tokens e → IsExpression tokens f → e ≡ f

-- no expression begins with the tokens up to and including one that is refused
abbrev pub NoneGoesOn : Type 0
NoneGoesOn =
    (tokens more : List Lexeme) (token : ℕ) (e : Expr) → Answers whole tokens (Stopped Unexpected token) → token < length tokens →
    IsExpression (take (suc token) tokens ++ more) e → ⊥

-- each expression that begins with the tokens up to and including one over a limit passes a limit there first
abbrev pub EachIsTooDeep : Type 0
EachIsTooDeep =
    (tokens more : List Lexeme) (token : ℕ) (e : Expr) → Answers whole tokens (Stopped TooDeep token) → token < length tokens →
    (is : IsExpression (take (suc token) tokens ++ more) e) → is.after.over ≡ Some token

-- an expression within the limits is read
abbrev pub EachIsRead : Type 0
EachIsRead = (tokens : List Lexeme) (e : Expr) (is : IsExpression tokens e) → is.after.over ≡ None → Answers whole tokens (Read e (point is.after))

-- and what is read is an expression within the limits, which takes the tokens up to where the reader then stands
abbrev pub WhatIsReadIsOne : Type 0
WhatIsReadIsOne =
    (fuel : ℕ) (p after : Point) (e : Expr) → whole fuel true p ≡ Read e after → grammar.whole e (within p) ≡ Some (within after)
