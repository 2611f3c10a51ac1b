-- What is shown as values go out to where they travel, and come to places.
use Rattle.std.proofs.Common.{◌≡◌, ◌⊎◌, inl, inr, ℕ, zero, suc, ◌+◌, ◌-◌, ◌*◌, ◌<◌, ◌≤◌, refl, ◌∙◌, subst, arith, Bool, true, false, List, [], ◌∷◌, length, Option, Some, None}
use Rattle.std.specs.Prelude.{◌==◌, ◌&&◌, ◌||◌, min, nat_le, nat_lt, slice_get, slice_index_or}
use Rattle.std.proofs.lemmas.Bool.Decides.{nat_tests}
use Rattle.cmm_chain.proofs.Shared.{callee_saves_is_kept}
use Rattle.cmm_chain.specs.declared.frame.Location.{Location}
use Rattle.cmm_abi.specs.Registers.{is_callee_saves, is_scratch}
use Rattle.cmm_chain.specs.Contents.{Number}
use Rattle.cmm_chain.specs.Running.{Holdings, none_known, put_in}
use Rattle.cmm_program.specs.Memory.{Outside, cell_at, rooms_of}
use Rattle.cmm_program.specs.State.{Setting, Activation, Store}
use Rattle.rv_table.specs.Machine.{MemoryMap, State, loaded, top}
use Rattle.cmm_calls.specs.Frames.{PutsEach}
use Rattle.cmm_calls.specs.Values.{Gives}
use Rattle.cmm_select.specs.declared.operand.Operand.{Operand}
use Rattle.cmm_emit_laws.specs.Words.{Symbols}
use Rattle.cmm_emit_laws.specs.Represented.{ArePlacesOf, IsFor, IsGiven, IsRepresented, put_each, stack_region}
use Rattle.cmm_emit_laws.proofs.WrittenWords.{rooms_same, shown_same}
use Rattle.cmm_emit_laws.proofs.Frames.{region_free}
use Rattle.cmm_emit_laws.proofs.Showing.{no_values, put_shows}
use Rattle.cmm_abi.specs.Regions.{global_address, value_place, word_at}
use Rattle.rv_table.specs.declared.memory_map.TheConstants.{GLOBALS_OFFSET}

-- values that were brought are done with
pub forget_values : (y : Symbols) (rest : ℕ → ℕ) (s : Setting) (h : Holdings) (store : Store) (carried : List ℕ) (t : State) → IsRepresented y rest s h store carried t → IsRepresented y rest s h store [] t
forget_values y rest s h store carried t shows = record {
  holdings = shows.holdings;
  words = shows.words;
  cells = shows.cells;
  registers = shows.registers;
  elsewhere = shows.elsewhere;
  values = no_values (stack_region s) t;
  stack = shows.stack;
  at = shows.at;
}

-- numbers are put into places, one after the other
pub puts_show : (y : Symbols) (rest : ℕ → ℕ) (s : Setting) (m : MemoryMap) → IsFor s m → (list : List (Location × ℕ)) (h : Holdings) (store : Store) (a : Activation) (older : List Activation) (t t' : State) →
    store.activations ≡ a ∷ older → ArePlacesOf s a list → PutsEach list t t' → IsRepresented y rest s h store [] t → IsRepresented y rest s (put_each list h) store [] t'
puts_show y rest s m is_for [] h store a older t t' youngest are puts shows = subst (λ (u : State). IsRepresented y rest s h store [] u) puts shows
puts_show y rest s m is_for ((place, n) ∷ places) h store a older t t' youngest are puts shows =
    puts_show y rest s m is_for places (put_in place (Number n) h) store a older puts.0 t' youngest are.1.1 puts.2
    (put_shows y rest s m is_for h store a older t puts.0 youngest place n are.0 are.1.0 puts.1 shows)

-- ---- registers in which values travel

-- a register in which values travel is no scratch register
pub value_is_kept : (k : ℕ) → k < 8 → is_scratch (10 + k) ≡ false
value_is_kept k early = grind (arith, nat_tests, early)

-- and no callee-saves register
saved_no_value : (r : ℕ) → is_callee_saves r ≡ true → nat_le 10 r && nat_lt r 18 ≡ false
saved_no_value r is = grind (arith, nat_tests, is)

-- a register that carries no value is none to which values are given, however many they are
none_given : (count r : ℕ) (scratch : Bool) → nat_le 10 r && nat_lt r 18 ≡ false → scratch ≡ false → ((nat_le 10 r && nat_lt r (10 + min count 8)) || scratch) ≡ false
none_given count r scratch apart none = grind (arith, nat_tests, apart, none)

none_past : (operands : List Operand) (i : ℕ) → slice_get operands i ≡ None → i < length operands → ⊥
none_past [] i is less = omega arith
none_past (operand ∷ operands) zero is less = absurd (cc)
none_past (operand ∷ operands) (suc i) is less = none_past operands i is (omega arith)

loaded_same : (bytes bytes' : ℕ → ℕ) (a n : ℕ) → ((i : ℕ) → i < n → bytes' (a + i) ≡ bytes (a + i)) → loaded bytes' a n ≡ loaded bytes a n
loaded_same bytes bytes' a zero same = refl
loaded_same bytes bytes' a (suc n) same =
    let first : bytes' a ≡ bytes a = subst (λ (k : ℕ). bytes' k ≡ bytes k) (omega arith) (same 0 (omega arith)) in
    let rest : loaded bytes' (a + 1) n ≡ loaded bytes (a + 1) n =
    loaded_same bytes bytes' (a + 1) n (λ i less. subst (λ (k : ℕ). bytes' k ≡ bytes k) (omega arith) (same (suc i) (omega arith))) in
    omega (arith, first, rest)

module _ (y : Symbols) (rest : ℕ → ℕ) (s : Setting) (m : MemoryMap) (is_for : IsFor s m) (h : Holdings) (store : Store) (values : List ℕ) (address_of : ℕ → ℕ) (operands : List Operand) (t t' : State)
    (gives : Gives (stack_region s) address_of operands t t') (is_given : IsGiven address_of operands values t) (shows : IsRepresented y rest s h store [] t) where
  far : (k : ℕ) → (stack_region s).address + GLOBALS_OFFSET ≤ k → (stack_region s).address + 8 * (length operands - 8) ≤ k
  far k above = omega (arith, is_given.count, is_given.few)

  keeps : (r : ℕ) → nat_le 10 r && nat_lt r 18 ≡ false → is_scratch r ≡ false → t'.registers r ≡ t.registers r
  keeps r apart scratch = gives.registers r (none_given (length operands) r (is_scratch r) apart scratch)

  free : (k : ℕ) (low : Bool) → nat_lt k (stack_region s).address ≡ low → (area : Bool) → nat_lt k ((stack_region s).address + GLOBALS_OFFSET) ≡ area →
      (t'.memory k ≡ t.memory k) ⊎ (cell_at store.memory k ≡ Outside)
  free k true low area top = inl (gives.memory k (inl (grind (arith, nat_tests))))
  free k false low false top = inl (gives.memory k (inr (far k (grind (arith, nat_tests)))))
  free k false low true top = inr (region_free s m is_for store shows.stack k (grind (arith, nat_tests)) (grind (arith, nat_tests)))

  outer : (k : ℕ) → (k < (stack_region s).address) ⊎ (top (stack_region s) ≤ k) → (k < (stack_region s).address) ⊎ ((stack_region s).address + 8 * (length operands - 8) ≤ k)
  outer k (inl low) = inl low
  outer k (inr high) = inr (far k (omega (arith, high)))

  pub given_shows : IsRepresented y rest s (record h { temps = none_known }) store values t'
  given_shows = record {
    holdings = record {
      zero = keeps 0 refl refl ∙ shows.holdings.zero;
      frame = keeps 2 refl refl ∙ shows.holdings.frame;
      region = keeps 4 refl refl ∙ shows.holdings.region;
      back = shown_same y h.point.back (t.registers 1) (t'.registers 1) (λ known. keeps 1 refl refl) shows.holdings.back;
      kept = λ r is. shown_same y (h.point.kept r) (t.registers r) (t'.registers r)
          (λ known. keeps r (saved_no_value r is) (callee_saves_is_kept r is)) (shows.holdings.kept r is);
      temps = λ r is. tt;
    };
    words = record {
      sits = shows.words.sits;
      shown = λ b. shown_same y (h.contents b) (loaded t.memory b 8) (loaded t'.memory b 8)
          (λ known. loaded_same t.memory t'.memory b 8 (λ i less. gives.memory (b + i) (inr (far (b + i) (omega (arith, (shows.words.sits b known).low)))))) (shows.words.shown b);
    };
    cells = rooms_same (rooms_of store.memory) t.memory t'.memory (λ k. free k (nat_lt k (stack_region s).address) refl (nat_lt k ((stack_region s).address + GLOBALS_OFFSET)) refl) shows.cells;
    registers = (
      shows.registers.0,
      λ r less. loaded_same t.memory t'.memory (global_address (stack_region s) r) 8 (λ i under. gives.memory (global_address (stack_region s) r + i) (inr (far (global_address (stack_region s) r + i) (omega arith))))
          ∙ shows.registers.1 r less,
    );
    elsewhere = λ b lacks out. gives.memory b (outer b out) ∙ shows.elsewhere b lacks out;
    values = (is_given.few, λ i less. given_at i less (slice_get operands i) refl);
    stack = shows.stack;
    at = shows.at;
  }
    where
      given_at : (i : ℕ) → i < length values → (o : Option Operand) → slice_get operands i ≡ o → word_at t' (value_place (stack_region s) i) ≡ slice_index_or values i 0
      given_at i less (Some operand) is = gives.arrive i operand is ∙ is_given.have i operand is
      given_at i less None is = absurd (none_past operands i is (omega (arith, is_given.count, less)))
