-- The format of a snapshot of a stopped program: its fields in their order, a line each, with their conditions in the order in which they are tested.
use Rattle.std.specs.Prelude.{ℕ, ◌+◌, ◌%◌, ◌==◌, ◌&&◌, nat_le, bytes_eq, Bool, List, [], ◌∷◌, drop, length}
use Rattle.cmm_rules.specs.declared.rule.Rule.TheVariants.{SnapshotIsCut, OtherImageHeader, BadSnapshotField, NotASnapshot}
use Rattle.rv_table.specs.declared.memory_map.TheConstants.{BELOW_STACK, STACK_SIZE_LIMIT}
use Rattle.rv_table.specs.declared.registers.Regs.{Regs}
use Rattle.rv_memory.specs.Regions.{Regions}
use Rattle.cmm_format.specs.Formats.{Format, Condition, number, block, rows, as_, ◌when◌, ◌▸◌}
use Rattle.cmm_image.specs.declared.parts.ImageParts.{ImageParts}
use Rattle.cmm_image.specs.WholeImage.{header_bytes}

-- What a snapshot has of a stopped program, beside its image.
pub record Snapshot : Type 0 where
  pub stack_size : ℕ
  -- those of registers 1 to 31; that of register 0 is 0
  pub registers : List ℕ
  pub pc : ℕ
  pub data_bytes : List ℕ
  -- the argument area, the global registers and the stack
  pub region_bytes : List ℕ

-- the snapshot of registers and a memory
abbrev pub taken_of : Regs → Regions → Snapshot
taken_of r m = record {
  stack_size = m.stack_size;
  registers = drop 1 r.x;
  pc = r.pc;
  data_bytes = m.data_bytes;
  region_bytes = m.region_bytes;
}

-- ---- fields

abbrev pub u32 : Format ℕ
u32 = number SnapshotIsCut 4

abbrev pub u64 : Format ℕ
u64 = number SnapshotIsCut 8

-- what the first two fields are
abbrev pub is_front : ℕ → Condition ℕ
is_front value = record { rule = NotASnapshot; holds = λ n. n == value }

-- a value is one that its field may have
abbrev pub allowed : (ℕ → Bool) → Condition ℕ
allowed test = record { rule = BadSnapshotField; holds = test }

abbrev pub is_header_of : ImageParts → Condition (List ℕ)
is_header_of i = record { rule = OtherImageHeader; holds = λ bytes. bytes_eq bytes (header_bytes i) }

-- 434d4d53, "CMMS"
abbrev pub magic : ℕ
magic = 0x534d4d43

abbrev pub is_stack_size : ℕ → Bool
is_stack_size n = (n % 16 == 0) && nat_le n STACK_SIZE_LIMIT

-- ---- the registers, 33 fields: register 0, which is 0, registers 1 to 31, and the pc

-- registers 1 to 31
unfoldable pub numbered_count : ℕ
numbered_count = 31

abbrev pub RegisterFields : Type 0
RegisterFields = ℕ × (List ℕ × ℕ)

abbrev pub registers : Format (List ℕ × ℕ)
registers = as_ {A = RegisterFields} (λ x. x.1) (λ r. (0, r)) (
    u64 when (allowed (λ n. n == 0) ∷ [])
    ▸ λ zero_register. rows (λ previous. u64) numbered_count
    ▸ λ numbered. u64
    )

-- ---- the whole; the header is one field, the data is one, and the region is one

abbrev pub SnapshotFields : Type 0
SnapshotFields = ℕ × (ℕ × (List ℕ × (ℕ × ((List ℕ × ℕ) × (List ℕ × List ℕ)))))

abbrev pub snapshot_of : SnapshotFields → Snapshot
snapshot_of (front, (version, (header, (stack_size, (registers, (initial, region)))))) = record {
  stack_size = stack_size;
  registers = registers.0;
  pc = registers.1;
  data_bytes = initial;
  region_bytes = region;
}

abbrev pub snapshot_fields : ImageParts → Snapshot → SnapshotFields
snapshot_fields i s = (magic, (1, (header_bytes i, (s.stack_size, ((s.registers, s.pc), (s.data_bytes, s.region_bytes))))))

abbrev pub snapshot : ImageParts → Format Snapshot
snapshot i = as_ snapshot_of (snapshot_fields i) (
    u32 when (is_front magic ∷ [])
    ▸ λ front. u32 when (is_front 1 ∷ [])
    ▸ λ version. block SnapshotIsCut 64 when (is_header_of i ∷ [])
    ▸ λ header. u64 when (allowed is_stack_size ∷ [])
    ▸ λ stack_size. registers
    ▸ λ registers. block SnapshotIsCut (length i.initial)
    ▸ λ initial. block SnapshotIsCut (BELOW_STACK + stack_size)
    )
