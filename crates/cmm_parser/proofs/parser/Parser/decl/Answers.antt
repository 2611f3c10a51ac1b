use Rattle.cmm_grammar.specs.Reading.{◌>>=◌, give}
use Rattle.cmm_grammar.specs.DeclarationReading.{decl_form}
use Rattle.cmm_parser.proofs.Steps.{handed, steps, stops, gives}
use Rattle.cmm_parser.proofs.DeclarationSteps.{from_here}
use Rattle.cmm_parser.proofs.parser.Parser.decl.Goals as goal

pub returns-in_err-form : goal.returns-in_err-form
returns-in_err-form c =
    from_here (λ token fuel. decl_form fuel >>= λ form. give record { token = token; form = form }) c.here-token.ensures
    (stops _ c.in_err-form.ensures (handed c.from_residual.ensures.1))

pub returns : goal.returns
returns c =
    from_here (λ token fuel. decl_form fuel >>= λ form. give record { token = token; form = form }) c.here-token.ensures
    (steps _ c.in_ok-form.ensures gives)
