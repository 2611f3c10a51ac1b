use Rattle.rv_table.proofs.Shared.{instr_of-word_of}
use Rattle.rv_code.proofs.laws.decoding_undoes_encoding.Goals as goal

pub returns : goal.returns
returns c = instr_of-word_of
