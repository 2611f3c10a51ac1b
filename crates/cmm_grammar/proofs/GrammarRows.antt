-- Worked rows: expressions, statements and a unit, with the text whose tokens they take.
use Rattle.std.proofs.Common.{◌≡◌, ℕ, zero, suc, ◌++◌, refl, List, [], ◌∷◌, Some, None}
use Rattle.std.specs.Prelude.{codes, map, length, replicate, option_map, Option}
use denote.Hole.Carrier as Carrier
use Rattle.cmm_words.specs.declared.width.Width.TheVariants.{W64}
use Rattle.cmm_lexer.specs.declared.piece.Lexeme.{Lexeme}
use Rattle.cmm_lexer.specs.declared.piece.Lexeme.TheVariants as lexeme
use Rattle.cmm_lexer.specs.Spellings.{number_of, reserved, symbols}
use Rattle.cmm_lexer.specs.Pieces.{comment_piece, name_piece, number_piece, character_piece, text_piece, symbol_piece, percent_piece, piece_at, pieces_from}
use Rattle.cmm_lexer.specs.Lexing.{tokens_of}
use Rattle.cmm_lexer.specs.declared.symbol.Symbol.TheVariants as sign
use Rattle.cmm_ast.specs.declared.token.Ident.{Ident}
use Rattle.cmm_ast.specs.declared.expression.Expr.{Expr}
use Rattle.cmm_ast.specs.declared.expression.ExprForm.TheBlock as ExprForms
use Rattle.cmm_ast.specs.declared.expression.ExprForm.TheVariants.{Infix, Prim, Named}
use Rattle.cmm_ast.specs.declared.expression.PrimForm.TheVariants.{Literal, Name, Bracketed}
use Rattle.cmm_ast.specs.declared.expression.Number.TheVariants as number
use Rattle.cmm_ast.specs.declared.expression.Infix.{Infix as Operator}
use Rattle.cmm_ast.specs.declared.expression.Infix.TheVariants.{Add, Mul, Eq}
use Rattle.cmm_ast.specs.declared.expression.TypeForm.TheVariants.{Bits}
use Rattle.cmm_ast.specs.declared.declaration.DeclForm.TheVariants as decls
use Rattle.cmm_ast.specs.declared.procedure.Modifiers.TheVariants.{Nothing}
use Rattle.cmm_ast.specs.declared.procedure.Proc.{Proc}
use Rattle.cmm_ast.specs.declared.statement.CalleeForm.TheVariants as callees
use Rattle.cmm_ast.specs.declared.statement.FlowForm.TheVariants as flows
use Rattle.cmm_ast.specs.declared.statement.Otherwise.TheBlock as Otherwises
use Rattle.cmm_ast.specs.declared.statement.Part.TheVariants as parts
use Rattle.cmm_ast.specs.declared.statement.StmtForm.TheVariants as stmts
use Rattle.cmm_ast.specs.declared.unit.TopLevel.TheVariants as tops
use Rattle.cmm_lexer.specs.Spellings.{symbol_number}
use Rattle.cmm_grammar.specs.Taking.{Takes}
use Rattle.cmm_grammar.specs.ExpressionGrammar.{whole}
use Rattle.cmm_grammar.specs.StatementGrammar.{stmt_form, proc}
use Rattle.cmm_grammar.specs.UnitGrammar.{unit}
use Rattle.cmm_grammar.specs.Derivation.{at_start}

-- what a row unfolds beside definitions that always unfold
unfoldable opened : Unit {0}
unfolding ExprForms.hidden-the_row-Expr-0 ExprForms.hidden-the_row-Expr-1 Otherwises.hidden-the_row-Part-0 Carrier.hidden number_of reserved symbols comment_piece name_piece number_piece character_piece text_piece symbol_piece percent_piece piece_at pieces_from
opened = tt

-- what a row looks at: the tokens that are left, the operators that were counted, and the token that passes a limit
record Seen : Type 0 where
  pub left : ℕ
  pub operators : ℕ
  pub over : Option ℕ

abbrev seen : Takes → List Lexeme → Option Seen
seen p tokens = option_map (λ r. record { left = length r.left; operators = r.operators; over = r.over }) (p (at_start tokens))

-- the tokens of a text
abbrev spelled : List ℕ → List Lexeme
spelled text = map (λ t. t.lexeme) (tokens_of text)

-- all tokens are taken, of which n are operators of the last outermost expression
abbrev all_with : ℕ → Option Seen
all_with operators = Some record { left = 0; operators = operators; over = None }

-- ---- expressions, by the number of their first token

abbrev int_at : ℕ → ℕ → Expr
int_at token value = record { token = token; form = Prim (Literal (number.Int value) None) }

abbrev name_at : ℕ → List ℕ → Expr
name_at token name = record { token = token; form = Prim (Name name) }

abbrev both : Expr → Operator → Expr → Expr
both left operator right = record { token = left.token; form = Infix left operator right }

abbrev ident_at : ℕ → List ℕ → Ident
ident_at token name = record { name = name; token = token }

-- a product groups before a sum, whatever stands first
row_sum : seen (whole (both (int_at 0 1) Add (both (int_at 2 2) Mul (int_at 4 3)))) (spelled (codes "1 + 2 * 3")) ≡ all_with 2
unfolding opened
row_sum = refl

-- and no tree that lacks brackets says otherwise
row_product : seen (whole (both (both (int_at 0 1) Add (int_at 2 2)) Mul (int_at 4 3))) (spelled (codes "1 + 2 * 3")) ≡ None
unfolding opened
row_product = refl

-- infix operators group to the left
row_left : seen (whole (both (both (int_at 0 1) Add (int_at 2 2)) Add (int_at 4 3))) (spelled (codes "1 + 2 + 3")) ≡ all_with 2
unfolding opened
row_left = refl

-- comparisons do not group
row_comparisons : seen (whole (both (both (int_at 0 1) Eq (int_at 2 2)) Eq (int_at 4 3))) (spelled (codes "1 == 2 == 3")) ≡ None
unfolding opened
row_comparisons = refl

-- the operands of a named operator may end in a comma
row_named : seen (whole record { token = 0; form = Named (codes "add") (int_at 2 1 ∷ name_at 4 (codes "x") ∷ []) }) (spelled (codes "%add(1, x,)")) ≡ all_with 1
unfolding opened
row_named = refl

-- ---- limits

-- the number 1 in n brackets, from a token on
abbrev nested : ℕ → ℕ → Expr
nested zero token = int_at token 1
nested (suc n) token = record { token = token; form = Prim (Bracketed (nested n (suc token))) }

abbrev nested_tokens : ℕ → List Lexeme
nested_tokens n = replicate n (lexeme.Symbol (symbol_number sign.Open)) ++ lexeme.Int 1 ∷ replicate n (lexeme.Symbol (symbol_number sign.Close))

row_200 : seen (whole (nested 200 0)) (nested_tokens 200) ≡ all_with 0
unfolding opened
row_200 = refl

-- the bracket after the 200th is over the limit
row_201 : seen (whole (nested 201 0)) (nested_tokens 201) ≡ Some record { left = 0; operators = 0; over = Some 200 }
unfolding opened
row_201 = refl

-- ---- statements

-- an optional comma after the actuals, and after each annotation
row_call : seen (stmt_form (stmts.Call (record { kind = None; name = ident_at 0 (codes "x") } ∷ []) None record { token = 2; form = callees.Name (ident_at 2 (codes "f")) }
    (record { kind = None; value = int_at 4 1 } ∷ [])
    (record { token = 7; form = flows.CutsTo (ident_at 10 (codes "k") ∷ ident_at 12 (codes "l") ∷ []) } ∷ record { token = 14; form = flows.NeverReturns } ∷ [])))
    (spelled (codes "x = f(1,) also cuts to k, l, never returns,;")) ≡ all_with 0
unfolding opened
row_call = refl

-- ---- procedures

-- a procedure with one formal and an empty body, up to a token
abbrev one_formal : ℕ → Proc
one_formal past = record {
  name = ident_at 0 (codes "f");
  formals = record { modifiers = Nothing; width = record { token = 2; form = Bits W64 }; name = ident_at 3 (codes "a") } ∷ [];
  body = record { parts = [] };
  past = past;
}

-- a comma after the last formal is seen in the tree: the token after the closing brace has the next number
row_procedure : seen (proc (one_formal 7)) (spelled (codes "f(bits64 a) { }")) ≡ all_with 0
unfolding opened
row_procedure = refl

row_comma : seen (proc (one_formal 8)) (spelled (codes "f(bits64 a,) { }")) ≡ all_with 0
unfolding opened
row_comma = refl

row_no_comma : seen (proc (one_formal 8)) (spelled (codes "f(bits64 a) { }")) ≡ None
unfolding opened
row_no_comma = refl

-- ---- a unit

row_unit : seen (unit record {
  parts = tops.Decl record { token = 0; form = decls.Export None (record { name = ident_at 1 (codes "main"); link = None } ∷ []) }
      ∷ tops.Proc record {
        name = ident_at 3 (codes "main");
        formals = [];
        body = record {
          parts = parts.Stmt record {
            token = 7;
            past = 14;
            form = stmts.Return None (Some (record { kind = None; value = both (int_at 9 1) Add (int_at 11 2) } ∷ []));
          } ∷ [];
        };
        past = 15;
      } ∷ [];
  places = [];
})
    (spelled (codes "export main; main() { return (1 + 2); }")) ≡ all_with 1
unfolding opened
row_unit = refl
