-- The procedure of the host that a name means.
use Rattle.std.specs.Prelude.{Option, Some, None}
use Rattle.cmm_static_semantics.specs.declared.sense.Host.{Host as HostProcedure}
use Rattle.cmm_static_semantics.specs.declared.sense.Sense.{Sense}
use Rattle.cmm_static_semantics.specs.declared.sense.Sense.TheVariants.{Host}

abbrev pub host_of : Option Sense → Option HostProcedure
host_of o = elim o [ Some sense ↦ elim sense [ Host h ↦ Some h | _ ↦ None ] | None ↦ None ]
