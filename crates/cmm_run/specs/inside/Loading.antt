-- What a session keeps of what it loaded.
use Rattle.std.specs.Prelude.{◌≡◌, ◌%◌, ◌≤◌, [], false, List, Option}
use Rattle.rv_sim.specs.Standing.{IsTableOf}
use Rattle.rv_table.specs.declared.instruction.Instr.{Instr}
use Rattle.rv_table.specs.declared.memory_map.TheConstants.{STACK_SIZE_LIMIT}
use Rattle.cmm_script.specs.Limits.{HasFewValues}
use Rattle.cmm_image_machine.specs.Machine.{Launch, map_of, region_of, first_run}
use Rattle.cmm_client.specs.declared.stopped.Stopped.{Stopped}
use Rattle.cmm_client.specs.Stops as stops
use Rattle.cmm_client.specs.Stops.{state_of}
use Rattle.cmm_run.specs.declared.machine.Machine.{Machine}

-- the code is decoded, the script's commands give few values, and the stack is within its limit and a multiple of 16
pub record IsLoaded (l : Launch) (table : List (Option Instr)) : Type 0 where
  pub decoded : IsTableOf l.image.code table
  pub few : HasFewValues l.script
  pub stack : l.stack_size ≤ STACK_SIZE_LIMIT
  pub aligned : l.stack_size % 16 ≡ 0

-- the program's memory is one of the run's: its code, and data and region of its lengths, with a stack that is a multiple of 16
pub record IsOfRun (l : Launch) (program : Stopped) : Type 0 where
  pub map : stops.map_of program ≡ map_of l
  pub region : stops.region_of program ≡ region_of l
  pub aligned : l.stack_size % 16 ≡ 0

-- registers and memory are those where a run begins, no output waits, and the input has not ended
pub record IsReady (l : Launch) (machine : Machine) : Type 0 where
  pub map : stops.map_of machine.program ≡ map_of l
  pub region : stops.region_of machine.program ≡ region_of l
  pub first : (first_run l []).machine ≡ state_of machine.program
  pub none_waits : machine.waiting ≡ []
  pub has_input : machine.input_ended ≡ false
