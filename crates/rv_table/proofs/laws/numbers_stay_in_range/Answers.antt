use Rattle.rv_table.proofs.RowBounds.{row_values_fit, row_has_a_size, row_writes_a_register}
use Rattle.rv_table.proofs.Soundness.{sound_start, sound_steps}
use Rattle.rv_table.proofs.laws.numbers_stay_in_range.Goals as goal

pub returns-clause-rows : goal.returns-clause-rows
returns-clause-rows c = record { values = row_values_fit; size = row_has_a_size; register = row_writes_a_register }

pub returns-clause-runs : goal.returns-clause-runs
returns-clause-runs c = record { begin = sound_start; stay = sound_steps }
