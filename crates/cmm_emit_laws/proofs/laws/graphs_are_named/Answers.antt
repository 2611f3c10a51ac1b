use Rattle.cmm_emit_laws.proofs.Naming.{graphs_are_named}
use Rattle.cmm_emit_laws.proofs.laws.graphs_are_named.Goals as goal

pub returns : goal.returns
returns c = graphs_are_named
