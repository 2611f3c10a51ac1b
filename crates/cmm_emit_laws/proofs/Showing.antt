-- What changes inside an activation represent.
use Rattle.std.proofs.Common.{◌≡◌, ℕ, ◌+◌, ◌-◌, ◌*◌, ◌<◌, ◌≤◌, ◌^◌, refl, sym, ◌∙◌, ap, subst, arith, Bool, true, false, List, [], ◌∷◌, map, length-set}
use Rattle.std.specs.Prelude.{◌==◌}
use Rattle.std.proofs.lemmas.Bool.Decides.{nat_tests}
use Rattle.std.proofs.lemmas.Bool.{or_from}
use Rattle.cmm_chain.proofs.Shared.{callee_saves_is_kept, temporary_is_kept, temporary_is_not_saved}
use Rattle.cmm_chain.specs.declared.frame.Location.{Location}
use Rattle.cmm_chain.specs.declared.frame.Location.TheVariants.{Slot, Saved, Temp}
use Rattle.cmm_abi.specs.Regions.{global_address}
use Rattle.cmm_abi.specs.Registers.{is_callee_saves, is_temporary, is_scratch}
use Rattle.cmm_chain.specs.Contents.{Content, Number, Contents, with_content}
use Rattle.cmm_chain.specs.Running.{Holdings, put_in}
use Rattle.cmm_program.specs.Layout.{bytes_of}
use Rattle.cmm_program.specs.Memory.{Room, cell_at, with_byte, with_byte_in, with_bytes}
use Rattle.cmm_program.specs.State.{Setting, Activation, Store}
use Rattle.cmm_program.specs.Values.{is_there}
use Rattle.cmm_machine_laws.specs.Stacks.{IsStack, extent, stack_of}
use Rattle.rv_table.specs.Machine.{MemoryMap, Region, State, bottom, loaded, stored}
use Rattle.cmm_effects.specs.Changes.{Puts, PutsRegister, Writes}
use Rattle.cmm_emit_laws.specs.Words.{Symbols, Represents, RepresentsRegisters, RepresentsValues, Sits}
use Rattle.cmm_emit_laws.specs.Represented.{IsFor, IsPlaceOf, IsRepresented, IsWordAt, RepresentsHoldings, stack_region}
use Rattle.cmm_emit_laws.proofs.Regions.{value_same}
use Rattle.cmm_emit_laws.proofs.WrittenWords.{shown_same, word_written, cells_stay, below_stays}
use Rattle.cmm_emit_laws.proofs.WrittenBytes.{cells_written, words_stay, word_stays}
use Rattle.cmm_emit_laws.proofs.Frames.{region_free, word_sits}
use Rattle.cmm_emit_laws.proofs.Rest.{rest_by_cells, rest_stays}

-- ---- registers

pub differ_both : (a b : ℕ) → (a == b) ≡ false → (b == a) ≡ false
differ_both a b differs = grind (arith, nat_tests, differs)

-- a temporary register is no callee-saves register
pub temp_apart : (k r : ℕ) → is_temporary k ≡ true → is_callee_saves r ≡ true → (k == r) ≡ false
temp_apart k r temp saved = by (k == r) refl
  where
    by : (test : Bool) → (k == r) ≡ test → (k == r) ≡ false
    by false differs = differs
    by true same =
        let e : k ≡ r = grind (arith, nat_tests) in
        let never : is_callee_saves k ≡ false = temporary_is_not_saved k temp in
        let is : is_callee_saves k ≡ true = rw e saved in
        absurd (cc)

-- ---- a stack is one whatever bytes its rooms have

extents_keep : (rooms : List Room) (address byte : ℕ) → map extent (map (λ room. with_byte_in room address byte) rooms) ≡ map extent rooms
extents_keep [] address byte = refl
extents_keep (room ∷ rooms) address byte = grind (arith, length-set, extents_keep rooms address byte)

byte_keeps : (store : Store) (address byte : ℕ) → stack_of (record store { memory = with_byte store.memory address byte }) ≡ stack_of store
byte_keeps store address byte = grind (arith, length-set, extents_keep store.memory.rooms address byte)

bytes_keep : (store : Store) (address : ℕ) (bytes : List ℕ) → stack_of (record store { memory = with_bytes store.memory address bytes }) ≡ stack_of store
bytes_keep store address [] = refl
bytes_keep store address (byte ∷ bytes) =
    bytes_keep (record store { memory = with_byte store.memory address byte }) (address + 1) bytes ∙ byte_keeps store address byte

pub stack_after_bytes : (s : Setting) (store : Store) (address : ℕ) (bytes : List ℕ) → IsStack s (stack_of store) →
    IsStack s (stack_of (record store { memory = with_bytes store.memory address bytes }))
stack_after_bytes s store address bytes stack = subst (IsStack s) (sym (bytes_keep store address bytes)) stack

-- ---- what is as it was

-- registers that are as they were
pub holdings_same : (y : Symbols) (w : Region) (h : Holdings) (x x' : ℕ → ℕ) → ((r : ℕ) → is_scratch r ≡ false → x' r ≡ x r) → RepresentsHoldings y w h x → RepresentsHoldings y w h x'
holdings_same y w h x x' same shows = record {
  zero = same 0 refl ∙ shows.zero;
  frame = same 2 refl ∙ shows.frame;
  region = same 4 refl ∙ shows.region;
  back = shown_same y h.point.back (x 1) (x' 1) (λ k. same 1 refl) shows.back;
  kept = λ r is. shown_same y (h.point.kept r) (x r) (x' r) (λ k. same r (callee_saves_is_kept r is)) (shows.kept r is);
  temps = λ r is. shown_same y (h.temps r) (x r) (x' r) (λ k. same r (temporary_is_kept r is)) (shows.temps r is);
}

-- no values are brought
pub no_values : (w : Region) (t : State) → RepresentsValues w [] t
no_values w t = (omega arith, λ i less. absurd (omega arith))

-- global registers are where nothing else is
pub registers_same : (w : Region) (registers : List ℕ) (bytes bytes' : ℕ → ℕ) → ((b : ℕ) → b + 8 ≤ bottom w → w.address ≤ b → loaded bytes' b 8 ≡ loaded bytes b 8) →
    RepresentsRegisters w registers bytes → RepresentsRegisters w registers bytes'
registers_same w registers bytes bytes' same shows =
    (shows.0, λ k less. same (global_address w k) (omega (arith, shows.0, less)) (omega arith) ∙ shows.1 k less)

-- values that are brought are in registers and in the argument area
pub values_same : (w : Region) (values : List ℕ) (t t' : State) → ((i : ℕ) → i < 8 → t'.registers (10 + i) ≡ t.registers (10 + i)) →
    ((b : ℕ) → b + 8 ≤ bottom w → w.address ≤ b → loaded t'.memory b 8 ≡ loaded t.memory b 8) → RepresentsValues w values t → RepresentsValues w values t'
values_same w values t t' registers words shows =
    (shows.0, λ i less. value_same w t t' i (registers i) (λ far. words (w.address + 8 * (i - 8)) (omega (arith, shows.0, less)) (omega arith)) ∙ shows.1 i less)

module _ (y : Symbols) (rest : ℕ → ℕ) (s : Setting) (m : MemoryMap) (is_for : IsFor s m) where
  -- ---- a place of the youngest

  module _ (h : Holdings) (store : Store) (a : Activation) (older : List Activation) (t t' : State) (youngest : store.activations ≡ a ∷ older) where
    pub own_word_sits : (offset : ℕ) (carried : List ℕ) → IsWordAt s a offset → IsRepresented y rest s h store carried t → Sits (stack_region s) store.memory (h.point.at + offset)
    own_word_sits offset carried is shows =
        subst (λ (at : ℕ). Sits (stack_region s) store.memory (at + offset)) (sym shows.at) (word_sits s m is_for store a older shows.stack youngest offset is)

    put_in_slot : (offset n : ℕ) → IsWordAt s a offset → n < 2 ^ 64 → Puts (Slot offset) n t t' → IsRepresented y rest s h store [] t →
        IsRepresented y rest s (put_in (Slot offset) (Number n) h) store [] t'
    put_in_slot offset n is small puts shows =
        let sits : Sits (stack_region s) store.memory (h.point.at + offset) = own_word_sits offset [] is shows in
        let there : t'.memory ≡ stored t.memory (h.point.at + offset) 8 n = puts.memory ∙ ap (λ (at : ℕ). stored t.memory (at + offset) 8 n) shows.holdings.frame in
        record {
          holdings =
              let same : RepresentsHoldings y (stack_region s) h t'.registers = holdings_same y (stack_region s) h t.registers t'.registers puts.registers shows.holdings in
              record { zero = same.zero; frame = same.frame; region = same.region; back = same.back; kept = same.kept; temps = same.temps };
          words = rw there (word_written y (stack_region s) store.memory (h.point.at + offset) n sits h.contents t.memory (Number n) refl small shows.words);
          cells = rw there (cells_stay y (stack_region s) store.memory (h.point.at + offset) n sits t.memory shows.cells);
          registers = rw there (registers_same (stack_region s) store.registers t.memory (stored t.memory (h.point.at + offset) 8 n)
              (λ b less low. below_stays y (stack_region s) store.memory (h.point.at + offset) n sits t.memory b less) shows.registers);
          elsewhere = rw there (rest_stays rest (stack_region s) store.memory.data_room t.memory (h.point.at + offset) 8 n (omega (arith, sits.low)) sits.high shows.elsewhere);
          values = no_values (stack_region s) t';
          stack = shows.stack;
          at = shows.at;
        }

    -- a register of the activation is set: what is known of others stays known
    module _ (r n : ℕ) (puts : PutsRegister r n t t') (shows : IsRepresented y rest s h store [] t) where
      other_register : (k : ℕ) → (k == r) ≡ false → is_scratch k ≡ false → t'.registers k ≡ t.registers k
      other_register k differs scratch = puts.1 k (or_from (k == r) (is_scratch k) differs scratch)

      shown_there : (contents : Contents) (k : ℕ) → is_scratch k ≡ false → Represents y (contents k) (t.registers k) → Represents y (with_content r (Number n) contents k) (t'.registers k)
      shown_there contents k scratch is = by (k == r) refl
        where
          by : (test : Bool) → (k == r) ≡ test → Represents y (elim test [ true ↦ Number n | false ↦ contents k ]) (t'.registers k)
          by true same = let e : k ≡ r = grind (arith, nat_tests) in ap t'.registers e ∙ puts.0
          by false differs = shown_same y (contents k) (t.registers k) (t'.registers k) (λ known. other_register k differs scratch) is

      shown_else : (c : Content) (k : ℕ) → (k == r) ≡ false → is_scratch k ≡ false → Represents y c (t.registers k) → Represents y c (t'.registers k)
      shown_else c k differs scratch is = shown_same y c (t.registers k) (t'.registers k) (λ known. other_register k differs scratch) is

      put_in_register : (h' : Holdings) → ((k : ℕ) → k < 5 → (k == r) ≡ false) → h'.contents ≡ h.contents → h'.point.at ≡ h.point.at → h'.point.back ≡ h.point.back →
          ((k : ℕ) → is_callee_saves k ≡ true → Represents y (h'.point.kept k) (t'.registers k)) →
          ((k : ℕ) → is_temporary k ≡ true → Represents y (h'.temps k) (t'.registers k)) → IsRepresented y rest s h' store [] t'
      put_in_register h' fixed contents at back kept temps = record {
        holdings = record {
          zero = other_register 0 (fixed 0 (omega arith)) refl ∙ shows.holdings.zero;
          frame = other_register 2 (fixed 2 (omega arith)) refl ∙ shows.holdings.frame ∙ sym at;
          region = other_register 4 (fixed 4 (omega arith)) refl ∙ shows.holdings.region;
          back = subst (λ (c : Content). Represents y c (t'.registers 1)) (sym back) (shown_else h.point.back 1 (fixed 1 (omega arith)) refl shows.holdings.back);
          kept = kept;
          temps = temps;
        };
        words = rw (puts.2, contents) shows.words;
        cells = rw puts.2 shows.cells;
        registers = rw puts.2 shows.registers;
        elsewhere = rw puts.2 shows.elsewhere;
        values = no_values (stack_region s) t';
        stack = shows.stack;
        at = at ∙ shows.at;
      }

    -- a number is put into a place
    pub put_shows : (place : Location) (n : ℕ) → IsPlaceOf s a place → n < 2 ^ 64 → Puts place n t t' → IsRepresented y rest s h store [] t →
        IsRepresented y rest s (put_in place (Number n) h) store [] t'
    put_shows (Slot offset) n is small puts shows = put_in_slot offset n is small puts shows
    put_shows (Saved r) n is small puts shows =
        put_in_register r n puts shows (put_in (Saved r) (Number n) h) (λ k low. grind (arith, nat_tests, is, low)) refl refl refl
        (λ k kept. shown_there r n puts shows h.point.kept k (callee_saves_is_kept k kept) (shows.holdings.kept k kept))
        (λ k temp. shown_else r n puts shows (h.temps k) k (temp_apart k r temp is) (temporary_is_kept k temp) (shows.holdings.temps k temp))
    put_shows (Temp r) n is small puts shows =
        put_in_register r n puts shows (put_in (Temp r) (Number n) h) (λ k low. grind (arith, nat_tests, is, low)) refl refl refl
        (λ k kept. shown_else r n puts shows (h.point.kept k) k (differ_both r k (temp_apart r k is kept)) (callee_saves_is_kept k kept) (shows.holdings.kept k kept))
        (λ k temp. shown_there r n puts shows h.temps k (temporary_is_kept k temp) (shows.holdings.temps k temp))

  -- ---- a store where cells stand

  pub store_shows : (h : Holdings) (store : Store) (t t' : State) (address size n : ℕ) → 1 ≤ size → ((i : ℕ) → i < size → is_there (cell_at store.memory (address + i)) ≡ true) →
      Writes address size n t t' → IsRepresented y rest s h store [] t →
      IsRepresented y rest s h (record store { memory = with_bytes store.memory address (bytes_of size n) }) [] t'
  store_shows h store t t' address size n some there writes shows = record {
    holdings = holdings_same y (stack_region s) h t.registers t'.registers writes.registers shows.holdings;
    words = rw writes.memory (words_stay store.memory address size n t.memory some there y (stack_region s) h.contents shows.words);
    cells = rw writes.memory (cells_written store.memory address size n t.memory shows.cells);
    registers = rw writes.memory (registers_same (stack_region s) store.registers t.memory (stored t.memory address size n)
        (λ b less low. word_stays store.memory address size n t.memory some there b
        (λ i under. region_free s m is_for store shows.stack (b + i) (omega arith) (omega (arith, less, under)))) shows.registers);
    elsewhere = rw writes.memory (rest_by_cells s m is_for rest store (record store { memory = with_bytes store.memory address (bytes_of size n) }) t.memory address size n shows.stack
        (stack_after_bytes s store address (bytes_of size n) shows.stack) there shows.elsewhere);
    values = no_values (stack_region s) t';
    stack = stack_after_bytes s store address (bytes_of size n) shows.stack;
    at = shows.at;
  }
