-- What holds of encoding and decoding together.
use Rattle.std.specs.Prelude.{◌≡◌, Some}
use Rattle.rv_table.specs.declared.instruction.Instr.{Instr}
use Rattle.rv_table.specs.Decoding.{instr_of}
use Rattle.rv_table.specs.Table.{IsValid, word_of}

-- what `decode` gives for what `encode` gives
abbrev pub DecodingUndoesEncoding : Type 0
DecodingUndoesEncoding = (i : Instr) → IsValid i → instr_of (word_of i) ≡ Some i
