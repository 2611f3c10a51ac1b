use Rattle.std.proofs.Common.{refl}
use Rattle.cmm_typing.proofs.Named.{prefix_alone_law}
use Rattle.cmm_typing.proofs.expected.alone.alone_type.Goals as goal

pub returns-in-Prefix-clause-value : goal.returns-in-Prefix-clause-value
returns-in-Prefix-clause-value c =
    rw (prefix_alone_law c.args.e.now.form c.in-Prefix.operator c.in-Prefix.operand c.in-Prefix.is, c.prefix_type.ensures.value, c.get.ensures) refl
