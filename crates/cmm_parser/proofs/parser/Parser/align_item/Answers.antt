use Rattle.std.proofs.Common.{ℕ}
use Rattle.cmm_lexer.specs.declared.keyword.Keyword.TheVariants.{Align as AlignWord}
use Rattle.cmm_lexer.specs.declared.symbol.Symbol.TheVariants.{Semicolon}
use Rattle.cmm_ast.specs.declared.unit.Item.{Item}
use Rattle.cmm_ast.specs.declared.unit.DatumForm.TheVariants.{Align}
use Rattle.cmm_grammar.specs.Reading.{Reads, ◌>>=◌, give, keyword, symbol, int}
use Rattle.cmm_grammar.specs.UnitReading.{datum_at}
use Rattle.cmm_parser.proofs.Steps.{handed, steps, stops, gives_same}
use Rattle.cmm_parser.proofs.DeclarationSteps.{from_here}
use Rattle.cmm_parser.proofs.parser.Parser.align_item.Goals as goal

abbrev align : ℕ → ℕ → Reads Item
align token fuel = keyword AlignWord >>= λ _. int >>= λ bytes. symbol Semicolon >>= λ _. give (datum_at token (Align bytes))

pub returns-in_err-expect_word : goal.returns-in_err-expect_word
returns-in_err-expect_word c = from_here align c.here-token.ensures (stops _ c.in_err-expect_word.ensures (handed c.from_residual.ensures.1))

pub returns-in_err-bytes : goal.returns-in_err-bytes
returns-in_err-bytes c =
    from_here align c.here-token.ensures (steps _ c.in_ok-expect_word.ensures (stops _ c.in_err-bytes.ensures (handed c.from_residual-in_err-bytes.ensures.1)))

pub returns-in_err-expect : goal.returns-in_err-expect
returns-in_err-expect c =
    from_here align c.here-token.ensures
    (steps _ c.in_ok-expect_word.ensures (steps _ c.in_ok-bytes.ensures (stops _ c.in_err-expect.ensures (handed c.from_residual-in_err-expect.ensures.1))))

pub returns : goal.returns
returns c =
    from_here align c.here-token.ensures
    (steps _ c.in_ok-expect_word.ensures
    (steps _ c.in_ok-bytes.ensures (steps _ c.in_ok-expect.ensures (gives_same c.datum_at.ensures))))
