-- A stopped program and a cursor, as the definition of images has them.
use Rattle.std.specs.Option.{option_map}
use Rattle.rv_table.specs.Machine.{MemoryMap, State}
use Rattle.rv_memory.specs.Regions as regions
use Rattle.rv_memory.specs.States as states
use Rattle.cmm_abi.specs.Regions.{Region}
use Rattle.cmm_program.specs.Asking as asking
use Rattle.cmm_image.specs.declared.parts.ImageParts.{ImageParts}
use Rattle.cmm_image_machine.specs.Frames.{Element}
use Rattle.cmm_walk.specs.Activations.{element_of}
use Rattle.cmm_client.specs.declared.cursor.Cursor.{Cursor}
use Rattle.cmm_client.specs.declared.stopped.Stopped.{Stopped}

-- the state of its machine
abbrev pub state_of : Stopped → State
state_of s = states.state_of s.thread.regs s.thread.memory

-- where everything lies, and its region
abbrev pub map_of : Stopped → MemoryMap
map_of s = regions.map_of s.thread.memory

abbrev pub region_of : Stopped → Region
region_of s = regions.region_of s.thread.memory

-- the cursor over the chain of an image's frames
abbrev pub cursor_of : ImageParts → Cursor → asking.Cursor Element
cursor_of i cursor = record { activation = option_map (element_of i) cursor.activation }
