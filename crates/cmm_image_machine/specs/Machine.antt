-- What an image does: the state after n instructions.
use Rattle.std.specs.Prelude.{◌≡◌, ℕ, zero, suc, ◌+◌, ◌-◌, ◌%◌, ◌≤◌, nat_le, true, false, List, [], ◌∷◌, ◌++◌, length, slice_index_or, Some, None}
use Rattle.cmm_abi.specs.declared.registers.TheConstants.{REQUEST_VALUE}
use Rattle.rv_table.specs.declared.memory_map.TheConstants.{BELOW_STACK, STACK_SIZE_LIMIT}
use Rattle.rv_table.specs.declared.request.Request.{Request}
use Rattle.rv_table.specs.declared.request.Request.TheVariants.{PutByte, GetByte, Yield, StackLimit, End}
use Rattle.rv_table.specs.declared.trap.TrapKind.{TrapKind}
use Rattle.rv_table.specs.Machine as rv
use Rattle.rv_table.specs.Machine.{State, MemoryMap, data_base, region_base, with_set, instruction_step}
use Rattle.cmm_script.specs.declared.script.Script.{Script}
use Rattle.cmm_script.specs.Lines.{yield_line}
use Rattle.cmm_program.specs.Performing.{next_byte}
use Rattle.cmm_program.specs.State as c
use Rattle.cmm_program.specs.State.{Outcome}
use Rattle.cmm_image.specs.declared.parts.ImageParts.{ImageParts}
use Rattle.cmm_program.specs.Asking.{Askable, Break, Chain}
use Rattle.cmm_program.specs.Commands.{Answer, Left, answer_to}
use Rattle.cmm_program.specs.Commands as client
use Rattle.cmm_abi.specs.Regions.{Region, values_in}
use Rattle.cmm_image_machine.specs.Frames.{Element, chain_of, older_than}
use Rattle.cmm_image_machine.specs.Walks.{element_shown}
use Rattle.cmm_image_machine.specs.Changes.{with_variable, with_data, return_exit, unwind_exit, cut_exit, at_pc}

-- what a run depends on, beside its input
pub record Launch : Type 0 where
  pub image : ImageParts
  pub script : Script
  pub stack_size : ℕ

abbrev pub launch_of : ImageParts → Script → ℕ → Launch
launch_of image script stack = record { image = image; script = script; stack_size = stack }

-- how large stacks are, in bytes
abbrev pub IsStackSize : ℕ → Type 0
IsStackSize n = (n % 16 ≡ 0) × (n ≤ STACK_SIZE_LIMIT)

pub data Status : Type 0 where
  Running : Status
  -- the program returned, its client stopped it, or it passed the stack's limit
  Ended : Outcome → Status
  -- an instruction, at this pc, trapped
  Trapped : TrapKind → ℕ → Status
  -- the client came to where the chain of frames breaks
  Torn : Break → Status

-- A state: registers, pc and memory; input that is left and that was taken, output and log; and how the run stands.
pub record Run : Type 0 where
  pub machine : State
  pub input : List ℕ
  pub taken : List ℕ
  pub output : List ℕ
  pub log : List ℕ
  pub status : Status

-- ---- where everything lies

abbrev pub map_of : Launch → MemoryMap
map_of l = record { code = l.image.code; data_length = length l.image.initial; region_length = BELOW_STACK + l.stack_size }

abbrev pub region_of : Launch → Region
region_of l = record { address = region_base; stack_size = l.stack_size }

-- the image's data, and zeros everywhere else
abbrev pub first_memory : ImageParts → ℕ → ℕ
first_memory i address = elim (nat_le data_base address) [ true ↦ slice_index_or i.initial (address - data_base) 0 | false ↦ 0 ]

-- ---- yields

-- the image as a program that can be asked
abbrev pub askable : ImageParts → Region → Askable Element State State
askable i r = record {
  chain = chain_of i r;
  running = chain_of i r;
  older = older_than i r;
  shown = element_shown;
  with_variable = with_variable;
  with_data = with_data i;
  return_exit = return_exit r;
  unwind_exit = unwind_exit r;
  cut_exit = cut_exit r;
}

-- the values of a yield: as many as the site of the youngest activation yields; none where there is no activation or its site does not
abbrev pub yielded_at : Region → State → List Element → List ℕ
yielded_at r s [] = []
yielded_at r s (e ∷ older) = elim e.site.yield_values [ Some count ↦ values_in r s count | None ↦ [] ]

-- the client's answer to a yield of these values
abbrev pub answered : Launch → List ℕ → State → Answer State State
answered l values s = answer_to (askable l.image (region_of l)) l.script values s

abbrev pub left : Left State State → Run → Run
left (client.Running s) run = record run { machine = s }
left (client.Stopped s) run = record run { machine = s; status = Ended c.Stopped }
left (client.Torn b s) run = record run { machine = s; status = Torn b }

-- the line of a yield, and the client's answer
abbrev pub yields : Launch → List ℕ → Run → Run
yields l values run = let answer = answered l values run.machine in
    left answer.left record run { log = run.log ++ yield_line values ++ answer.text }

-- where the chain breaks at its first point, there is no yield
abbrev pub yielded : Launch → Chain Element → Run → Run
yielded l chain run = let yields = yields l (yielded_at (region_of l) run.machine chain.activations) run in elim chain.activations [
  | [] ↦ elim chain.broken [ Some b ↦ record run { status = Torn b } | None ↦ yields ]
  | e ∷ older ↦ yields
]

-- ---- one instruction

-- the input once its next byte is taken, if there is one
abbrev pub one_taken : Run → Run
one_taken run = elim run.input [ [] ↦ run | byte ∷ rest ↦ record run { input = rest; taken = run.taken ++ byte ∷ [] } ]

abbrev pub goes_on : Run → Run
goes_on run = record run { machine = at_pc (run.machine.pc + 4) run.machine }

-- what an ECALL asks for is done
abbrev pub requested : Launch → Run → Request → Run
requested l run (PutByte byte) = goes_on record run { output = run.output ++ byte ∷ [] }
requested l run GetByte = record (one_taken run) { machine = with_set run.machine REQUEST_VALUE (next_byte run.input) }
requested l run Yield = let after = goes_on run in yielded l (chain_of l.image (region_of l) after.machine) after
requested l run StackLimit = record run { status = Ended c.StackLimit }
requested l run (End value) = record run { status = Ended (c.Done value) }

abbrev pub after_instruction : Launch → Run → rv.Outcome → Run
after_instruction l run (rv.Next s) = record run { machine = s }
after_instruction l run (rv.Asks r) = requested l run r
after_instruction l run (rv.Traps kind) = record run { status = Trapped kind run.machine.pc }

-- a run that is over stays as it is
abbrev pub step : Launch → Run → Run
step l run = elim run.status [ Running ↦ after_instruction l run (instruction_step (map_of l) run.machine) | _ ↦ run ]

-- ---- runs

-- at the image's start, with the stack's top in register 2 and the region in register 4
abbrev pub first_run : Launch → List ℕ → Run
first_run l input = record {
  machine = at_pc l.image.start (rv.start (region_of l) (first_memory l.image));
  input = input;
  taken = [];
  output = [];
  log = [];
  status = Running;
}

abbrev pub steps_of : Launch → ℕ → Run → Run
steps_of l zero run = run
steps_of l (suc n) run = steps_of l n (step l run)

-- the state after n instructions
abbrev pub image_after : Launch → List ℕ → ℕ → Run
image_after l input n = steps_of l n (first_run l input)
