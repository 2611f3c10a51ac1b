use Rattle.cmm_typing.proofs.Answering.{answers_type}
use Rattle.cmm_typing.proofs.scope.type_of.Goals as goal

pub returns-in-Err-None : goal.returns-in-Err-None
returns-in-Err-None c = answers_type c.args.scope.now.names c.args.e.now _ (cc (c.judge.ensures.value, c.in-Err-None.is, c.in-Err-None.field-0-is))
