use Rattle.cmm_elaboration.proofs.OfBytes.{texts_are_bytes}
use Rattle.cmm_elaboration.proofs.laws.texts_are_bytes.Goals as goal

pub returns : goal.returns
returns c = texts_are_bytes
