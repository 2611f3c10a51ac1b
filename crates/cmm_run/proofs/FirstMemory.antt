-- The memory that a session loads is the one where a run begins.
use Rattle.std.proofs.Common.{[], ◌≡◌, ℕ, ◌+◌, ◌-◌, ◌≤◌, List, replicate, length, inl, inr, refl, sym, ap, ◌∙◌, arith}
use Rattle.std.proofs.Math.Path.{fun_ext}
use Rattle.std.proofs.lemmas.Bool.{cases_lt}
use Rattle.std.proofs.lemmas.Bool.Decides.{nat_tests}
use Rattle.std.proofs.lemmas.List.{get_or_past, length-replicate}
use Rattle.std.specs.Prelude.{nat_le, true, false}
use Rattle.rv_table.specs.declared.registers.Regs.{Regs}
use Rattle.rv_table.specs.declared.memory_map.TheConstants.{BELOW_STACK, DATA_LENGTH_LIMIT}
use Rattle.rv_table.specs.Machine.{data_base, region_base, start}
use Rattle.rv_memory.specs.Regions as regions
use Rattle.rv_memory.specs.Regions.{Regions, memory_of, started}
use Rattle.rv_sim.specs.Stepping.{state_with}
use Rattle.cmm_image.specs.declared.parts.ImageParts.{ImageParts}
use Rattle.cmm_image_machine.specs.Changes.{at_pc}
use Rattle.cmm_image_machine.specs.Machine.{Launch, map_of, region_of, first_memory}
use Rattle.cmm_client.specs.Stops as stops
use Rattle.cmm_run.specs.declared.machine.Machine.{Machine}
use Rattle.cmm_run.specs.inside.Loading.{IsReady}
use Rattle.cmm_run.proofs.Zeros.{zero_at}

-- byte by byte: code and what lies below the data is 0, and so is the region
memory_at : (i : ImageParts) (stack address : ℕ) → length i.initial ≤ DATA_LENGTH_LIMIT → first_memory i address ≡ memory_of (started i.code i.initial stack) address
memory_at i stack address short = elim (cases_lt address region_base) [
  | inl below ↦
      let a : nat_le region_base address ≡ false = grind (arith, nat_tests) in
      rw (memory_of, first_memory, a) refl
  | inr from ↦
      let a : nat_le region_base address ≡ true = grind (arith, nat_tests) in
      let b : nat_le data_base address ≡ true = grind (arith, nat_tests) in
      rw (memory_of, first_memory, a, b)
      (get_or_past i.initial (address - data_base) 0 (omega arith) ∙ sym (zero_at (BELOW_STACK + stack) (address - region_base)))
]

pub first_memory_is : (i : ImageParts) (stack : ℕ) → length i.initial ≤ DATA_LENGTH_LIMIT → first_memory i ≡ memory_of (started i.code i.initial stack)
first_memory_is i stack short = fun_ext (λ address. memory_at i stack address short)

-- what stays as it is in a run
pub map_is : (l : Launch) (m : Regions) → m ≡ started l.image.code l.image.initial l.stack_size → regions.map_of m ≡ map_of l
map_is l m is =
    let count : length (replicate {A = ℕ} (BELOW_STACK + l.stack_size) 0) ≡ BELOW_STACK + l.stack_size = length-replicate (BELOW_STACK + l.stack_size) 0 in
    ap regions.map_of is ∙ ap (λ (n : ℕ). record { code = l.image.code; data_length = length l.image.initial; region_length = n }) count

pub region_is : (l : Launch) (m : Regions) → m ≡ started l.image.code l.image.initial l.stack_size → regions.region_of m ≡ region_of l
region_is l m is = ap regions.region_of is

-- a machine is ready with the first registers and the first memory
pub is_ready : (l : Launch) (machine : Machine) (regs : Regs) (memory : Regions) → machine.program ≡ record { thread = record { regs = regs; memory = memory } } →
    length l.image.initial ≤ DATA_LENGTH_LIMIT → ((bytes : ℕ → ℕ) → state_with regs bytes ≡ at_pc l.image.start (start (regions.region_of memory) bytes)) →
    memory ≡ started l.image.code l.image.initial l.stack_size → machine.waiting ≡ [] → machine.input_ended ≡ false →
    IsReady l machine
is_ready l machine regs memory program short registers is none has_input =
    let region = region_is l memory is in
    let bytes : first_memory l.image ≡ memory_of memory = first_memory_is l.image l.stack_size short ∙ ap memory_of (sym is) in
    record {
      map = ap stops.map_of program ∙ map_is l memory is;
      region = ap stops.region_of program ∙ region;
      first = (λ i. at_pc l.image.start (start (sym region i) (bytes i))) ∙ sym (registers (memory_of memory)) ∙ ap stops.state_of (sym program);
      none_waits = none;
      has_input = has_input;
    }
