-- Values put into a store whose values fit: what its youngest activation reads fits, and every place keeps what fits it.
use Rattle.cmm_program.specs.Errors.{with_some}
use Rattle.std.proofs.lemmas.Bool.Decides.{nat_tests}
use Rattle.cmm_program.specs.declared.procedure.VarInfo.{VarInfo}
use Rattle.cmm_machine_laws.specs.Fitting.{Youngest}
use Rattle.cmm_program.specs.Exits.{gone_on}
use Rattle.cmm_program.specs.Frames.{with_site}
use Rattle.cmm_program.specs.State.{stack_top, Running}
use Rattle.std.proofs.Common.{◌+◌, Option, IfSome, length}
use Rattle.cmm_program.specs.Memory as memory
use Rattle.cmm_machine_laws.proofs.FittingActs.{PlaceFits}
use Rattle.cmm_machine_laws.proofs.FittingExpressions.{IsByteCell, ReadsFit}
use Rattle.cmm_machine_laws.proofs.Lists.{any_place}
use Rattle.cmm_machine_laws.specs.Fitting.{AreActivations, CellFits, Demand, MemoryFits, RoomFits}
use Rattle.cmm_program.specs.Orders.{Held, target_width}
use Rattle.cmm_program.specs.Frames.{frame_size, place_row, procedure_at, sum_of_sizes}
use Rattle.cmm_program.specs.Memory.{IsByte, is_in, Room, cell_in, cell_of, with_byte, with_byte_in, with_bytes, rooms_of}
use Rattle.std.specs.List.{list_all}
use Rattle.cmm_program.specs.State.{stack_top, Activation, Setting, Status, Store}
use Rattle.cmm_program.specs.Todo.{Todo}
use Rattle.cmm_program.specs.Typing.{has_variable, is_target, same_width}
use Rattle.cmm_program.specs.Writes.{assigned, reads_of, variables_of, with_variable}
use Rattle.cmm_program.specs.declared.placement.PlaceRow.{PlaceRow}
use Rattle.cmm_program.specs.declared.procedure.Proc.{Proc}
use Rattle.cmm_program.specs.declared.procedure.Target.{Target}
use Rattle.cmm_program.specs.declared.procedure.Target.TheVariants.{Register, Variable}
use Rattle.cmm_words.specs.Widths.{IsWord}
use Rattle.cmm_words.specs.declared.width.Width.{Width}
use Rattle.std.proofs.Common.{false, All, IsTrue, List, None, Some, [], arith, map, slice_get, slice_index_or, slice_set, suc, ℕ, ◌<◌, ◌^◌, ◌∷◌, ◌≡◌, ◌≤◌}
use Rattle.std.proofs.lemmas.List.Elements.{All-cons, All-head, All-map, All-set, All-tail}
use Rattle.std.proofs.lemmas.List.Sums.{sum_by-cons}
use Rattle.std.specs.List.{AllZip}

-- ---- what is kept of a store while its youngest activation works

-- the youngest activation is one of this procedure
abbrev pub IsYoungest : Setting → Proc → List Activation → Type 0
IsYoungest s q activations = with_some (slice_get activations 0) (λ f. procedure_at s f.procedure) ≡ Some q

-- registers and memory hold what fits
abbrev pub HeldFits : Setting → Store → Type 0
HeldFits s store = AllZip (λ g value. IsWord g.width value) s.program.globals store.registers × MemoryFits store.memory

-- and so do activations, which stand at these places
abbrev pub Leaves : Setting → Demand → List Todo → Store → Type 0
Leaves s P ts store = HeldFits s store × AreActivations s P store.activations ts

-- and the youngest of them works in this status
abbrev pub Works : Setting → Proc → Demand → Status → List Todo → Store → Type 0
Works s q P status ts store = Leaves s P ts store × IsYoungest s q store.activations × (store.status ≡ status)

-- ---- memory

-- bytes written from an address on
pub with_bytes_fit : (m : memory.Memory) (address : ℕ) (bs : List ℕ) → All IsByte bs → MemoryFits m → MemoryFits (with_bytes m address bs)
with_bytes_fit m address [] are old = old
with_bytes_fit m address (b ∷ bs) are old =
    let byte = All-head IsByte b bs are in
    let rooms = All-map RoomFits (λ room. with_byte_in room address b) m.rooms (λ n d within. grind (arith, All-set CellFits, byte)) in
    with_bytes_fit (with_byte m address b) (address + 1) bs (All-tail IsByte b bs are) (grind (arith, All-set CellFits, byte, rooms))

-- a cell that is read
cell_in_fits : (rooms : List Room) (address : ℕ) → All RoomFits rooms → IsByteCell (cell_in rooms address)
cell_in_fits [] address are = tt
cell_in_fits (room ∷ rooms) address are =
    grind (arith, any_place CellFits room.cells, All-head RoomFits room rooms, cell_in_fits rooms address, All-tail RoomFits room rooms)

-- ---- addresses of parts of frames

-- offsets that are not above a limit, and a frame whose parts lie inside it
abbrev pub AreUpTo : ℕ → List ℕ → Type 0
AreUpTo limit offsets = (n : ℕ) → slice_index_or offsets n 0 ≤ limit

pub record PartsInside (row : PlaceRow) : Type 0 where
  pub pairs : AreUpTo row.frame row.pairs
  pub stack : AreUpTo row.frame row.stack

-- ---- what the youngest activation reads and writes

-- the value that stands for what has a width is a word of it, and another one may be put there
in_step : {A : Type 0} (g : A → Width) (xs : List A) (values : List ℕ) (n : ℕ) (w : Width) → AllZip (λ x v. IsWord (g x) v) xs values →
    IsTrue (elim (slice_get xs n) [ Some x ↦ same_width (g x) w | None ↦ false ]) →
    IsWord w (slice_index_or values n 0) × ((value : ℕ) → IsWord w value → AllZip (λ x v. IsWord (g x) v) xs (slice_set values n value))
in_step g (x ∷ xs) (v ∷ values) (suc n) w fits has = grind (arith, nat_tests, in_step g xs values n w)
in_step g xs values n w fits has = grind (arith, nat_tests)

-- so with a variable of the youngest activation
pub variable_fits : (s : Setting) (q : Proc) (P : Demand) (fs : List Activation) (ts : List Todo) (n : ℕ) (w : Width) → AreActivations s P fs ts →
    IsYoungest s q fs → IsTrue (has_variable q n w) → IsWord w (slice_index_or (variables_of fs) n 0)
    × ((value : ℕ) → IsWord w value → AreActivations s P (with_variable fs n value) ts × IsYoungest s q (with_variable fs n value))
variable_fits s q P (f ∷ fs) (t ∷ ts) n w are youngest has =
    grind (arith, are.1.procedure q youngest, in_step (λ (v : VarInfo). v.width) q.vars f.variables n w)
variable_fits s q P fs ts n w are youngest has = grind arith

-- all that the youngest activation reads
pub reads_fit : (s : Setting) → stack_top s < 2 ^ 64 → ((n : ℕ) → PartsInside (place_row s n)) → (q : Proc) (P : Demand) (status : Status) (ts : List Todo)
    (store : Store) → sum_of_sizes s store.activations ≤ s.stack_size → Works s q P status ts store → ReadsFit s.program q (reads_of s store)
reads_fit s top inside q P status ts store stack works = record {
  constant = λ c known. grind (arith, nat_tests);
  variable = λ n w has. (variable_fits s q P store.activations ts n w works.0.1 works.1 has).0;
  register = λ n w has. (in_step (λ g. g.width) s.program.globals store.registers n w works.0.0.0 has).0;
  stackdata = λ n. grind (arith, λ (f : Activation). (inside f.procedure).stack n, sum_by-cons (frame_size s));
  continuation = λ n. grind (arith, λ (f : Activation). (inside f.procedure).pairs n, sum_by-cons (frame_size s));
  byte = λ address. grind (arith, cell_in_fits (rooms_of store.memory) address, All-cons RoomFits);
}

-- the youngest activation suspended at one of its sites, or going on
pub with_site_keeps : (s : Setting) (q : Proc) (P Q : Demand) (site : Option ℕ) (fs : List Activation) (ts : List Todo) → Q (Some site) →
    IfSome site (λ n. n < length q.sites) → AreActivations s P fs ts → IsYoungest s q fs → AreActivations s Q (with_site site fs) ts
with_site_keeps s q P Q site (f ∷ fs) (t ∷ ts) demand within are youngest = grind (arith, are.1.procedure q youngest)
with_site_keeps s q P Q site fs ts demand within are youngest = grind arith

module _ (s : Setting) (q : Proc) (P : Demand) (status : Status) (ts : List Todo) where
  -- a target with a value of its width
  pub assigned_works : (target : Target) (value : ℕ) (store : Store) → Works s q P status ts store →
      PlaceFits s.program q (Held target) value → Works s q P status ts (assigned target value store)
  assigned_works (Variable n w) value store old fits = grind (arith, variable_fits s q P store.activations ts n w)
  assigned_works (Register n w) value store old fits = grind (arith, in_step (λ g. g.width) s.program.globals store.registers n w)

  -- the youngest activation goes on with values of their widths in targets
  pub gone_on_fits : (targets : List Target) (values : List ℕ) (store : Store) → Works s q P status ts store →
      IsTrue (list_all (is_target s.program q) targets) → AllZip IsWord (map target_width targets) values →
      Leaves s (Youngest Running) ts (gone_on targets values store)
  gone_on_fits (t ∷ targets) (v ∷ values) store old has fits =
      grind (arith, nat_tests, gone_on_fits targets values (assigned t v store), assigned_works t v store)
  gone_on_fits targets values store old has fits = grind (arith, with_site_keeps s q P (Youngest Running) None store.activations ts)
