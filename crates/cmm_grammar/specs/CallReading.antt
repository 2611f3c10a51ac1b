-- How calls are read after what is called, and after their results.
use Rattle.std.specs.Prelude.{ℕ, List, Option, Some, None}
use Rattle.cmm_ast.specs.declared.token.Text.{Text}
use Rattle.cmm_lexer.specs.declared.keyword.Keyword.TheVariants.{Foreign}
use Rattle.cmm_lexer.specs.declared.symbol.Symbol.TheVariants.{Semicolon}
use Rattle.cmm_ast.specs.declared.statement.Callee.{Callee}
use Rattle.cmm_ast.specs.declared.statement.Kinded.{Kinded}
use Rattle.cmm_ast.specs.declared.statement.StmtForm.{StmtForm}
use Rattle.cmm_ast.specs.declared.statement.StmtForm.TheVariants as stmts
use Rattle.cmm_grammar.specs.Taking.{is_word}
use Rattle.cmm_grammar.specs.Reading.{Reads, ◌>>=◌, give, if_next, skip, symbol, text}
use Rattle.cmm_grammar.specs.PartReading.{arguments, callee, annotations}

-- after the callee
abbrev pub call : ℕ → List Kinded → Option Text → Callee → Reads StmtForm
call fuel results convention what =
    arguments fuel >>= λ actuals. annotations fuel >>= λ fs. symbol Semicolon >>= λ _. give (stmts.Call results convention what actuals fs)

abbrev pub convention : Reads (Option Text)
convention = if_next (is_word Foreign) (skip >>= λ _. text >>= λ t. give (Some t)) (give None)

-- after the `=` that follows the results, or without them
abbrev pub call_after : ℕ → List Kinded → Reads StmtForm
call_after fuel results = convention >>= λ by. callee fuel >>= λ what. call fuel results by what
