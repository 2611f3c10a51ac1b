use Rattle.cmm_typing.proofs.Answering.{answers_constant}
use Rattle.cmm_typing.proofs.scope.constant.Goals as goal

pub returns-in-Err-None : goal.returns-in-Err-None
returns-in-Err-None c = answers_constant c.args.scope.now.names c.args.e.now _ (cc (c.constant_judged.ensures, c.in-Err-None.is, c.in-Err-None.field-0-is))
