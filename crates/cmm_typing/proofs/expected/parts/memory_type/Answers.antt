use Rattle.std.proofs.Common.{refl}
use Rattle.cmm_typing.proofs.PartTypes.{memory_loaded}
use Rattle.cmm_typing.proofs.expected.parts.memory_type.Goals as goal

pub returns-clause-value : goal.returns-clause-value
returns-clause-value g c =
    rw (
      memory_loaded (g.N.Names.senses c.args.names.now) c.args.memory.now,
      c.loaded.ensures.value,
      c.type_width-width.ensures,
      c.judge-address.ensures.value,
      c.get.ensures,
      c.get-2.ensures,
    ) refl
