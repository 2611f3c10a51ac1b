use Rattle.std.proofs.Common.{refl}
use Rattle.cmm_typing.proofs.PartTypes.{bracketed_type}
use Rattle.cmm_typing.proofs.expected.parts.prim_type.Goals as goal

pub returns-in-Bracketed-clause-value : goal.returns-in-Bracketed-clause-value
returns-in-Bracketed-clause-value g c =
    rw (bracketed_type (g.N.Names.senses c.args.names.now) c.args.token c.args.prim.now c.in-Bracketed.inner c.in-Bracketed.is, c.judge.ensures.value, c.get.ensures) refl
