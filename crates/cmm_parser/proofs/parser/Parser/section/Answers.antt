use Rattle.std.proofs.Common.{ℕ}
use Rattle.cmm_lexer.specs.declared.keyword.Keyword.TheVariants.{Section as SectionWord}
use Rattle.cmm_ast.specs.declared.unit.Section.{Section}
use Rattle.cmm_grammar.specs.Reading.{Reads, ◌>>=◌, give, keyword, text}
use Rattle.cmm_grammar.specs.StatementReading.{block}
use Rattle.cmm_grammar.specs.UnitReading.{in_braces, item}
use Rattle.cmm_parser.proofs.Steps.{handed, steps, stops, gives}
use Rattle.cmm_parser.proofs.DeclarationSteps.{from_here}
use Rattle.cmm_parser.proofs.parser.Parser.section.Goals as goal

abbrev section_at : ℕ → ℕ → Reads Section
section_at token fuel =
    keyword SectionWord >>= λ _. text >>= λ name. in_braces fuel (item fuel block) >>= λ inside. give record { token = token; name = name; items = inside }

pub returns-in_err-expect_word : goal.returns-in_err-expect_word
returns-in_err-expect_word c = from_here section_at c.here-token.ensures (stops _ c.in_err-expect_word.ensures (handed c.from_residual.ensures.1))

pub returns-in_err-name : goal.returns-in_err-name
returns-in_err-name c =
    from_here section_at c.here-token.ensures (steps _ c.in_ok-expect_word.ensures (stops _ c.in_err-name.ensures (handed c.from_residual-in_err-name.ensures.1)))

pub returns-in_err-items : goal.returns-in_err-items
returns-in_err-items c =
    from_here section_at c.here-token.ensures
    (steps _ c.in_ok-expect_word.ensures (steps _ c.in_ok-name.ensures (stops _ c.in_err-items.ensures (handed c.from_residual-in_err-items.ensures.1))))

pub returns : goal.returns
returns c =
    from_here section_at c.here-token.ensures
    (steps _ c.in_ok-expect_word.ensures (steps _ c.in_ok-name.ensures (steps _ c.in_ok-items.ensures gives)))
