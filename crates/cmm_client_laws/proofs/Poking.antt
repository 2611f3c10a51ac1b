-- The client writes data, over locations and in the image.
use Rattle.std.proofs.Common.{◌≡◌, ℕ, ◌+◌, ◌%◌, ◌≤◌, ◌==◌, ◌&&◌, Bool, true, false, All, List, [], length, Option, Some, None, refl, sym, ap, ◌∙◌, subst, arith}
use Rattle.std.specs.Prelude.{nat_le}
use Rattle.std.proofs.lemmas.Bool.Decides.{nat_tests}
use Rattle.rv_table.specs.Machine.{MemoryMap, State, data_base, stored}
use Rattle.cmm_program.specs.declared.program.Label.{Label}
use Rattle.cmm_program.specs.Client as program
use Rattle.cmm_program.specs.Client.{linked_label}
use Rattle.cmm_program.specs.Errors.{with_some}
use Rattle.cmm_program.specs.Layout.{label_address}
use Rattle.cmm_program.specs.Memory.{IsByte, Room, number_of, with_bytes}
use Rattle.cmm_program.specs.State.{Setting, Store}
use Rattle.cmm_image.specs.declared.parts.ImageParts.{ImageParts}
use Rattle.cmm_image.specs.declared.rows.LabelRow.{LabelRow}
use Rattle.cmm_machine_laws.specs.Alike.{ChangesAlike, StayAlike}
use Rattle.cmm_machine_laws.specs.Stacks.{Extent}
use Rattle.cmm_image_machine.specs.Changes as image
use Rattle.cmm_image_machine.specs.Changes.{label_named}
use Rattle.cmm_emit_laws.specs.Words.{Symbols}
use Rattle.cmm_emit_laws.specs.Represented.{IsFor, IsRepresented}
use Rattle.cmm_emit_laws.proofs.Shared.{data_is_written}
use Rattle.cmm_located.specs.Answering.{places_askable}
use Rattle.cmm_located.specs.Compiled.{Compiled, Located}
use Rattle.cmm_client_laws.specs.Asked.{AreAs, GoesOnAs, IsStoppedAs}
use Rattle.cmm_client_laws.specs.Tables.{HaveTables}
use Rattle.cmm_image_machine.specs.Tables.{IsLabelRow}
use Rattle.cmm_client_laws.proofs.Sound.{sound_memory}

module _ (s : Setting) (c : Compiled) (y : Symbols) (rest : ℕ → ℕ) (i : ImageParts) (tables : HaveTables s c y i) (m : MemoryMap) (is_for : IsFor s m)
    (at : Located) (t : State) (same : IsStoppedAs s c y rest i at t) where
  begins : at.store.memory.data_room.address ≡ data_base
  begins = ap (λ (e : Extent). e.address) same.shown.stack.data_room

  bytes : length at.store.memory.data_room.cells ≡ length i.initial
  bytes = ap (λ (e : Extent). e.length) same.shown.stack.data_room ∙ sym tables.data_length

  may_alike : (address count : ℕ) → program.may_poke at.store.memory.data_room address count ≡ image.may_poke (length i.initial) address count
  may_alike address count =
      ap (λ (n : ℕ). (address % 8 == 0) && nat_le n address && nat_le (address + count) (n + length at.store.memory.data_room.cells)) begins
      ∙ ap (λ (n : ℕ). (address % 8 == 0) && nat_le data_base address && nat_le (address + count) (data_base + n)) bytes

  -- what may be poked lies in data
  low_of : (r : Room) (address count : ℕ) → program.may_poke r address count ≡ true → r.address ≤ address
  low_of r address count may = grind (arith, nat_tests, may)

  high_of : (r : Room) (address count : ℕ) → program.may_poke r address count ≡ true → address + count ≤ r.address + length r.cells
  high_of r address count may = grind (arith, nat_tests, may)

  written : (address : ℕ) (those : List ℕ) → All IsByte those → program.may_poke at.store.memory.data_room address (length those) ≡ true →
      IsRepresented y rest s at.holdings (record at.store { memory = with_bytes at.store.memory address those }) []
      (record t { memory = stored t.memory address (length those) (number_of those) })
  written address those are may =
      let low = low_of at.store.memory.data_room address (length those) may in
      let high = high_of at.store.memory.data_room address (length those) may in
      let size : length at.store.memory.data_room.cells ≡ m.data_length = ap (λ (e : Extent). e.length) same.shown.stack.data_room ∙ sym is_for.data_length in
      data_is_written y rest s m is_for at.holdings at.store t address those are (omega (arith, low, begins)) (omega (arith, high, begins, size)) same.shown

  after_poke : (address : ℕ) (those : List ℕ) → All IsByte those → program.may_poke at.store.memory.data_room address (length those) ≡ true →
      StayAlike (IsStoppedAs s c y rest i) (AreAs s c y i) (GoesOnAs s c y rest i) at t (record at { store = record at.store { memory = with_bytes at.store.memory address those } })
      (record t { memory = stored t.memory address (length those) (number_of those) })
  after_poke address those are may = record {
    same = record {
      suspended = same.suspended;
      walked = same.walked;
      shown = written address those are may;
      sound = sound_memory t address (length those) (number_of those) same.sound;
    };
    each = λ a x as_. record {
      element = as_.element;
      is_listed = as_.is_listed;
      found = as_.found;
      procedure = as_.procedure;
      number = as_.number;
      site = as_.site;
    };
  }

  abbrev Alike : Option Located → Option State → Type 0
  Alike x z = ChangesAlike (IsStoppedAs s c y rest i) (AreAs s c y i) (GoesOnAs s c y rest i) at t x z

  -- over locations, and in the image, where a test says whether bytes may be written
  abbrev located_poke : ℕ → List ℕ → Bool → Option Located
  located_poke address those may =
      with_some (elim may as (λ _. Option Store) [ true ↦ Some record at.store { memory = with_bytes at.store.memory address those } | false ↦ None ])
      (λ store. Some record at { store = store })

  abbrev image_poke : ℕ → List ℕ → Bool → Option State
  image_poke address those may =
      elim may as (λ _. Option State) [ true ↦ Some record t { memory = stored t.memory address (length those) (number_of those) } | false ↦ None ]

  by_test : (address : ℕ) (those : List ℕ) → All IsByte those → (b : Bool) → program.may_poke at.store.memory.data_room address (length those) ≡ b →
      Alike (located_poke address those b) (image_poke address those b)
  by_test address those are true may = after_poke address those are may
  by_test address those are false may = tt

  by_label : (offset : ℕ) (those : List ℕ) → All IsByte those → (l : Option Label) (r : Option LabelRow) → IsLabelRow s.program l r →
      Alike (with_some (with_some l (λ l. program.poked at.store (label_address s.program l + offset) those)) (λ store. Some record at { store = store }))
      (with_some r (λ l. image_poke (l.address + offset) those (image.may_poke (length i.initial) (l.address + offset) (length those))))
  by_label offset those are (Some l) (Some row) is =
      let address : row.address + offset ≡ label_address s.program l + offset = ap (λ (n : ℕ). n + offset) is in
      subst (λ (n : ℕ). Alike (located_poke (label_address s.program l + offset) those (program.may_poke at.store.memory.data_room (label_address s.program l + offset) (length those)))
      (image_poke n those (image.may_poke (length i.initial) n (length those)))) (sym address)
      (subst (λ (b : Bool). Alike (located_poke (label_address s.program l + offset) those (program.may_poke at.store.memory.data_room (label_address s.program l + offset) (length those)))
      (image_poke (label_address s.program l + offset) those b)) (may_alike (label_address s.program l + offset) (length those))
      (by_test (label_address s.program l + offset) those are (program.may_poke at.store.memory.data_room (label_address s.program l + offset) (length those)) refl))
  by_label offset those are None None is = tt
  by_label offset those are (Some l) None is = absurd is
  by_label offset those are None (Some row) is = absurd is

  pub pokes_alike : (name : List ℕ) (offset : ℕ) (those : List ℕ) → All IsByte those →
      Alike ((places_askable s c).with_data at name offset those) (image.with_data i t name offset those)
  pokes_alike name offset those are = by_label offset those are (linked_label name s.program.labels) (label_named i name) (tables.labels name)
