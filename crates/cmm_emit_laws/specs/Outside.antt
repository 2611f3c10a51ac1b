-- What of a run of an image is outside of registers and memory.
use Rattle.std.specs.Prelude.{ℕ, List}
use Rattle.rv_table.specs.Machine.{State}
use Rattle.cmm_simulation.specs.Seen.{Seen}
use Rattle.cmm_image_machine.specs.Machine.{Run, Status}

-- input that is left and that was taken, output and log, and how the run stands
pub record Outside : Type 0 where
  pub input : List ℕ
  pub taken : List ℕ
  pub output : List ℕ
  pub log : List ℕ
  pub status : Status

abbrev pub outside : Run → Outside
outside run = record { input = run.input; taken = run.taken; output = run.output; log = run.log; status = run.status }

-- the run with this outside, and these registers and this memory
abbrev pub run_with : Outside → State → Run
run_with o s = record { machine = s; input = o.input; taken = o.taken; output = o.output; log = o.log; status = o.status }

abbrev pub seen_outside : Outside → Seen ℕ
seen_outside o = record { output = o.output; log = o.log; taken = o.taken }
