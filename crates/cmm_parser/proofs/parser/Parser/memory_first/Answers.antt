use Rattle.cmm_parser.proofs.Steps.{handed, steps, stops}
use Rattle.cmm_parser.proofs.parser.Parser.memory_first.Goals as goal

pub returns-in_err-memory : goal.returns-in_err-memory
returns-in_err-memory c = stops _ c.in_err-memory.ensures (handed c.from_residual.ensures.1)

pub returns : goal.returns
returns c = steps _ c.in_ok-memory.ensures (c.memory_stmt.ensures)
