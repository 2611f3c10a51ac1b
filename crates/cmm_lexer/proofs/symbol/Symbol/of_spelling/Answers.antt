use Rattle.std.proofs.Common.{arith}
use Rattle.cmm_lexer.proofs.Beginnings.{no_empty_symbol, no_long_symbol}
use Rattle.cmm_lexer.proofs.symbol.Symbol.of_spelling.Goals as goal

pub returns-in_default : goal.returns-in_default
returns-in_default c = no_empty_symbol c.args.spelling.now (omega (arith, c.in_default.len_below))

pub returns-in_default-2 : goal.returns-in_default-2
returns-in_default-2 c = no_long_symbol c.args.spelling.now (omega (arith, c.in_default.len_at_least))
