use Rattle.std.proofs.Common.{◌∙◌, sym, rules}
use denote.Enum.Bare.{same_true, same_false}
use Rattle.cmm_lexer.specs.contracts.keyword.Keyword.{the_type}
use Rattle.cmm_parser.proofs.NextTokens.{word_same}
use Rattle.cmm_parser.proofs.parser.Parser.is_word.Goals as goal

pub returns-in-Some : goal.returns-in-Some
returns-in-Some c =
    rw c.in-Some.ensures
    (word_same c.in-Some.next c.args.word c.eq.result (λ e. same_true the_type (search rules) _ _ (sym c.eq.ensures ∙ e)) (λ e. same_false the_type _ _ (sym c.eq.ensures ∙ e)))
