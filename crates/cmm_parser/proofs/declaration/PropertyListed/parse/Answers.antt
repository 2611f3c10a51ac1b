use Rattle.cmm_grammar.specs.Reading.{◌>>=◌, give}
use Rattle.cmm_grammar.specs.DeclarationReading.{property_form}
use Rattle.cmm_parser.proofs.Steps.{steps, gives}
use Rattle.cmm_parser.proofs.DeclarationSteps.{from_here}
use Rattle.cmm_parser.proofs.declaration.PropertyListed.parse.Goals as goal

pub returns : goal.returns
returns c =
    from_here (λ token fuel. property_form >>= λ form. give record { token = token; form = form }) c.here-token.ensures (steps _ c.in_ok-form.ensures gives)
