-- Parts of a snapshot that functions of their own write, and why there is none.
use Rattle.std.specs.Prelude.{ℕ, ◌-◌, List, ◌++◌, flat_map}
use Rattle.rv_memory.specs.Regions.{Regions}
use Rattle.cmm_format.specs.Formats.{number_bytes}
use Rattle.cmm_format.specs.declared.fault.Unread.{Unread}
use Rattle.cmm_format.specs.declared.fault.Unread.TheVariants.{Breaks, Memory}
use Rattle.cmm_snapshot.specs.SnapshotFormat.{magic}
use Rattle.cmm_snapshot.specs.declared.fault.SnapshotFault.{SnapshotFault}
use Rattle.cmm_snapshot.specs.declared.fault.SnapshotFault.TheVariants.{At}
use Rattle.cmm_snapshot.specs.declared.fault.SnapshotFault.TheVariants as snapshot_fault

-- what stands before the registers
abbrev pub front_bytes : List ℕ → ℕ → List ℕ
front_bytes header stack_size = number_bytes 4 magic ++ (number_bytes 4 1 ++ (header ++ number_bytes 8 stack_size))

-- registers 1 to 31
abbrev pub numbered_bytes : List ℕ → List ℕ
numbered_bytes = flat_map (number_bytes 8)

-- the data, and the region
abbrev pub memory_bytes : Regions → List ℕ
memory_bytes m = m.data_bytes ++ m.region_bytes

-- why there is no snapshot in n bytes
abbrev pub fault_of : ℕ → Unread → SnapshotFault
fault_of length (Breaks b) = At b.rule (length - b.left)
fault_of length Memory = snapshot_fault.Memory
