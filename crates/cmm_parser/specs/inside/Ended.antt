-- The last part of a statement, with the semicolon behind it.
use Rattle.cmm_lexer.specs.declared.symbol.Symbol.TheVariants.{Semicolon}
use Rattle.cmm_grammar.specs.Reading.{Reads, ◌>>=◌, give, symbol}

abbrev pub ended : {A : Type 0} → Reads A → Reads A
ended last = last >>= λ a. symbol Semicolon >>= λ _. give a
