use Rattle.std.proofs.Common.{◌≡◌, take}
use Rattle.rv_table.specs.Stands.{code_of}
use Rattle.rv_code.proofs.bytes.bytes_of.Given as goal

abbrev pub invariant-loop-instruction : goal.invariant-loop-instruction
invariant-loop-instruction l = l.bytes.items ≡ code_of (take l.instruction-index l.code)
