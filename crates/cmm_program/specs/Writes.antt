-- What can be read of a store by its youngest activation, and how values are put into places
-- (C-- Language Specification 2.0, assignment).
use Rattle.std.specs.Prelude.{ℕ, List, [], ◌∷◌, slice_index_or, slice_set, Ok}
use Rattle.cmm_words.specs.Widths.{bytes}
use Rattle.cmm_program.specs.declared.procedure.Target.{Target}
use Rattle.cmm_program.specs.declared.procedure.Target.TheVariants.{Variable, Register}
use Rattle.cmm_program.specs.Errors.{Tried, BadAccess, and_then, provided}
use Rattle.cmm_program.specs.Layout.{constant_value, bytes_of}
use Rattle.cmm_program.specs.Memory.{cell_at, with_bytes}
use Rattle.cmm_program.specs.State.{Setting, Activation, Store}
use Rattle.cmm_program.specs.Frames.{continuation_value, stackdata_address}
use Rattle.cmm_program.specs.Values.{Reads, may_access}
use Rattle.cmm_program.specs.Orders.{Place, Held, Memory, Write}

abbrev pub variables_of : List Activation → List ℕ
variables_of [] = []
variables_of (a ∷ older) = a.variables

-- what the youngest activation of a store reads
abbrev pub reads_of : Setting → Store → Reads
reads_of s store = record {
  constant = constant_value s.program s.placement;
  variable = λ n. slice_index_or (variables_of store.activations) n 0;
  register = λ n. slice_index_or store.registers n 0;
  stackdata = stackdata_address s store.activations;
  continuation = continuation_value s store.activations;
  byte = cell_at store.memory;
}

abbrev pub with_variable : List Activation → ℕ → ℕ → List Activation
with_variable [] number value = []
with_variable (a ∷ older) number value = record a { variables = slice_set a.variables number value } ∷ older

-- a variable of the youngest activation, or a register, with a value
abbrev pub assigned : Target → ℕ → Store → Store
assigned (Variable number width) value store = record store { activations = with_variable store.activations number value }
assigned (Register number width) value store = record store { registers = slice_set store.registers number value }

-- from left to right
abbrev pub all_assigned : List Target → List ℕ → Store → Store
all_assigned [] values store = store
all_assigned (t ∷ ts) [] store = store
all_assigned (t ∷ ts) (v ∷ vs) store = all_assigned ts vs (assigned t v store)

-- a value put into a place
abbrev pub put : Place → ℕ → Store → Tried Store
put (Held target) value store = Ok (assigned target value store)
put (Memory width aligned address) value store =
    provided (may_access (cell_at store.memory) (bytes width) aligned address) BadAccess
    (Ok record store { memory = with_bytes store.memory address (bytes_of (bytes width) value) })

-- from left to right
abbrev pub put_all : List Write → Store → Tried Store
put_all [] store = Ok store
put_all (w ∷ ws) store = and_then (put w.place w.value store) (put_all ws)
