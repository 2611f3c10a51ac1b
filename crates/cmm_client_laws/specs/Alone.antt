-- The chain of some activations on its own, with no store round it: it is asked as a stopped program is, in whose store nothing else is known.
use Rattle.std.specs.Prelude.{◌≡◌, ◌≤◌, ℕ, List, [], length, map, replicate, None}
use Rattle.rv_table.specs.Bounds.{IsSound}
use Rattle.rv_table.specs.Machine.{State, data_base}
use Rattle.cmm_chain.specs.Chain.{Suspension}
use Rattle.cmm_chain.specs.Running.{Holdings}
use Rattle.cmm_image.specs.declared.parts.ImageParts.{ImageParts}
use Rattle.cmm_machine_laws.specs.Stacks.{Extent, stackdata_of}
use Rattle.cmm_program.specs.Frames.{frame_address, sum_of_sizes}
use Rattle.cmm_program.specs.Layout.{data_bytes}
use Rattle.cmm_program.specs.Memory.{Room}
use Rattle.cmm_program.specs.State.{Activation, Running, Setting, Store}
use Rattle.cmm_emit_laws.specs.Words.{RepresentsWords, Symbols}
use Rattle.cmm_emit_laws.specs.Represented.{RepresentsHoldings, stack_region}
use Rattle.cmm_located.specs.Compiled.{Compiled, Located}
use Rattle.cmm_client_laws.specs.Asked.{IsStoppedAs}
use Rattle.cmm_client_laws.specs.Walked.{IsWalked}

-- a room none of whose bytes is written
abbrev pub unwritten : Extent → Room
unwritten e = record { address = e.address; cells = replicate e.length None }

-- no byte is written, and there is no global register
abbrev pub bare_store : Setting → List Activation → Store
bare_store s activations = record {
  memory = record {
    data_room = unwritten (record { address = data_base; length = length (data_bytes s.program s.placement) });
    rooms = map unwritten (stackdata_of s activations);
  };
  registers = [];
  activations = activations;
  input = [];
  taken = [];
  output = [];
  log = [];
  status = Running;
}

abbrev pub alone : Setting → Holdings → List Activation → Located
alone s h activations = record { store = bare_store s activations; holdings = h; procedure = 0; node = record { number = 0 }; carried = [] }

-- The activations are found from a point on, their frames fit the stack, and registers and the words of the stack's region represent what is known of them.
pub record IsChainAs (s : Setting) (c : Compiled) (y : Symbols) (h : Holdings) (activations : List Activation) (t : State) : Type 0 where
  pub suspended : List Suspension
  pub walked : IsWalked s c h activations suspended
  pub fits : sum_of_sizes s activations ≤ s.stack_size
  pub at : h.point.at ≡ frame_address s activations
  pub holdings : RepresentsHoldings y (stack_region s) h t.registers
  pub words : RepresentsWords y (stack_region s) (bare_store s activations).memory h.contents t.memory
  pub sound : IsSound t

-- such a chain is a stopped program on its own, and the rest of memory is what it is
abbrev pub ChainsAreStopped : Type 0
ChainsAreStopped = (s : Setting) (c : Compiled) (y : Symbols) (i : ImageParts) (h : Holdings) (activations : List Activation) (t : State) → IsChainAs s c y h activations t →
    IsStoppedAs s c y t.memory i (alone s h activations) t

-- and every stopped program has one
abbrev pub StoppedAreChains : Type 0
StoppedAreChains = (s : Setting) (c : Compiled) (y : Symbols) (rest : ℕ → ℕ) (i : ImageParts) (at : Located) (t : State) → IsStoppedAs s c y rest i at t →
    IsChainAs s c y at.holdings at.store.activations t
