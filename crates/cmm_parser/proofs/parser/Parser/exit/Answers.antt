use Rattle.std.proofs.Common.{ℕ}
use Rattle.cmm_ast.specs.declared.statement.Exit.{Exit}
use Rattle.cmm_grammar.specs.Reading.{Reads, ◌>>=◌, give, symbol}
use Rattle.cmm_grammar.specs.ExpressionReading.{whole_prim}
use Rattle.cmm_parser.proofs.Steps.{handed, steps, stops, gives}
use Rattle.cmm_parser.proofs.CallSteps.{at_token}
use Rattle.cmm_lexer.specs.declared.symbol.Symbol.TheVariants.{Less, Slash, Greater}
use Rattle.cmm_parser.proofs.parser.Parser.exit.Goals as goal

abbrev exit_at : ℕ → ℕ → Reads Exit
exit_at token fuel =
    symbol Less >>= λ _. whole_prim fuel >>= λ index. symbol Slash >>= λ _. whole_prim fuel >>= λ count. symbol Greater >>= λ _.
    give (record { token = token; index = index; count = count })

pub returns-in_err-index : goal.returns-in_err-index
returns-in_err-index c =
    at_token exit_at c.here-token.ensures (steps _ c.in_ok-expect.ensures (stops _ c.in_err-index.ensures (handed c.from_residual-in_err-index.ensures.1)))

pub returns-in_err-expect-2 : goal.returns-in_err-expect-2
returns-in_err-expect-2 c =
    at_token exit_at c.here-token.ensures
    (steps _ c.in_ok-expect.ensures (steps _ c.in_ok-index.ensures (stops _ c.in_err-expect-2.ensures (handed c.from_residual-in_err-expect-2.ensures.1))))

pub returns-in_err-count : goal.returns-in_err-count
returns-in_err-count c =
    at_token exit_at c.here-token.ensures
    (steps _ c.in_ok-expect.ensures
    (steps _ c.in_ok-index.ensures (steps _ c.in_ok-expect-2.ensures (stops _ c.in_err-count.ensures (handed c.from_residual-in_err-count.ensures.1)))))

pub returns-in_err-expect-3 : goal.returns-in_err-expect-3
returns-in_err-expect-3 c =
    at_token exit_at c.here-token.ensures
    (steps _ c.in_ok-expect.ensures
    (steps _ c.in_ok-index.ensures
    (steps _ c.in_ok-expect-2.ensures (steps _ c.in_ok-count.ensures (stops _ c.in_err-expect-3.ensures (handed c.from_residual-in_err-expect-3.ensures.1))))))

pub returns : goal.returns
returns c =
    at_token exit_at c.here-token.ensures
    (steps _ c.in_ok-expect.ensures
    (steps _ c.in_ok-index.ensures (steps _ c.in_ok-expect-2.ensures (steps _ c.in_ok-count.ensures (steps _ c.in_ok-expect-3.ensures gives)))))
