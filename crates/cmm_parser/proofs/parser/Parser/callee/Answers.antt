use Rattle.cmm_grammar.specs.Taking.{is_sign}
use Rattle.cmm_grammar.specs.Reading.{◌>>=◌, if_next, give, round}
use Rattle.cmm_grammar.specs.ExpressionReading.{whole}
use Rattle.cmm_grammar.specs.PartReading.{lvalue, called}
use Rattle.cmm_parser.proofs.Steps.{handed, steps, stops, gives}
use Rattle.cmm_parser.proofs.CallSteps.{at_token}
use Rattle.cmm_lexer.specs.declared.symbol.Symbol.TheVariants.{Open}
use Rattle.cmm_ast.specs.declared.statement.CalleeForm.TheVariants as callees
use Rattle.cmm_parser.proofs.parser.Parser.callee.Goals as goal

pub returns-in_err-form : goal.returns-in_err-form
returns-in_err-form c = at_token
    (λ token fuel.
    if_next (is_sign Open) (round (whole fuel) >>= λ e. give (callees.Bracketed e)) (lvalue fuel >>= λ v. give (called v))
    >>= λ form. give record { token = token; form = form })
    c.here-token.ensures (stops _ c.in_err-form.ensures (handed c.from_residual.ensures.1))

pub returns : goal.returns
returns c = at_token
    (λ token fuel.
    if_next (is_sign Open) (round (whole fuel) >>= λ e. give (callees.Bracketed e)) (lvalue fuel >>= λ v. give (called v))
    >>= λ form. give record { token = token; form = form })
    c.here-token.ensures (steps _ c.in_ok-form.ensures (gives))
