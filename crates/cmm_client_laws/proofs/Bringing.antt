-- A client brings values to where they travel: what is represented of all else stays.
use Rattle.std.proofs.Common.{◌≡◌, ◌⊎◌, inl, inr, ℕ, zero, suc, ◌+◌, ◌-◌, ◌*◌, ◌<◌, ◌≤◌, ◌^◌, ◌==◌, ◌&&◌, ◌||◌, Bool, true, false, List, [], ◌∷◌, map, length, Some, refl, sym, ap, ◌∙◌, subst, arith}
use Rattle.std.specs.Prelude.{min, nat_le, nat_lt, slice_get, slice_index_or}
use Rattle.std.proofs.lemmas.Bool.{and_parts}
use Rattle.std.proofs.lemmas.Bool.Decides.{nat_tests}
use Rattle.std.proofs.lemmas.List.{length-map}
use Rattle.std.proofs.lemmas.Option.{same_Some}
use Rattle.cmm_words.specs.declared.width.Width.{Width}
use Rattle.cmm_words.specs.Widths.{bits}
use Rattle.rv_table.specs.Machine.{MemoryMap, Region, State, loaded, stored}
use Rattle.rv_table.specs.Registers.{with_register}
use Rattle.rv_table.proofs.Shared.{loaded-below, stored-outside}
use Rattle.cmm_program.specs.Commands.{all_fit}
use Rattle.cmm_program.specs.State.{Setting, Store}
use Rattle.cmm_chain.specs.Contents.{Contents}
use Rattle.cmm_chain.specs.Running.{Holdings, none_known}
use Rattle.cmm_abi.specs.Registers.{is_scratch}
use Rattle.cmm_calls.specs.Values.{Gives}
use Rattle.cmm_select.specs.Operands.{operand_at}
use Rattle.cmm_select.specs.declared.operand.Operand.{Operand}
use Rattle.cmm_select.specs.declared.operand.Operand.TheVariants.{Held}
use Rattle.cmm_select.specs.declared.source.Source.TheVariants.{Number}
use Rattle.cmm_abi.specs.Regions.{Place, InRegister, InMemory, value_place, with_values, with_values_from, with_word, word_at}
use Rattle.cmm_emit_laws.specs.Words.{Symbols}
use Rattle.cmm_emit_laws.specs.Represented.{IsFor, IsRepresented, stack_region}
use Rattle.cmm_emit_laws.proofs.Shared.{given_shows, same_word}
use Rattle.cmm_client_laws.proofs.Lists.{AreWords}
use Rattle.cmm_client_laws.proofs.Putting.{other_is}
use Rattle.cmm_client_laws.proofs.Setting.{word_fits}

pub fit_words : (widths : List Width) (values : List ℕ) → length widths ≡ length values → all_fit widths values ≡ true → AreWords values
fit_words [] [] count fit = tt
fit_words (w ∷ ws) (v ∷ vs) count fit =
    let both = and_parts (nat_lt v (2 ^ bits w)) (all_fit ws vs) fit in
    let less : v < 2 ^ bits w = grind (arith, nat_tests, both.0) in
    (word_fits w v less, fit_words ws vs (omega (arith, count)) both.1)
fit_words [] (v ∷ vs) count fit = absurd (omega (arith, count))
fit_words (w ∷ ws) [] count fit = absurd (omega (arith, count))

-- in any region
module _ (w : Region) where
  abbrev value_in : ℕ → State → ℕ
  value_in k s = word_at s (value_place w k)

  -- ---- one value

  abbrev one : ℕ → ℕ → State → State
  one k v s = with_word (value_place w k) v s

  by_register : (k v : ℕ) (s : State) → nat_lt k 8 ≡ true → with_word (value_place w k) v s ≡ record s { registers = with_register s.registers (10 + k) v }
  by_register k v s is = ap (λ (b : Bool). with_word (elim b as (λ _. Place) [ true ↦ InRegister (10 + k) | false ↦ InMemory (w.address + 8 * (k - 8)) ]) v s) is

  by_memory : (k v : ℕ) (s : State) → nat_lt k 8 ≡ false → with_word (value_place w k) v s ≡ record s { memory = stored s.memory (w.address + 8 * (k - 8)) 8 v }
  by_memory k v s is = ap (λ (b : Bool). with_word (elim b as (λ _. Place) [ true ↦ InRegister (10 + k) | false ↦ InMemory (w.address + 8 * (k - 8)) ]) v s) is

  register_in : (k : ℕ) (s : State) → nat_lt k 8 ≡ true → value_in k s ≡ s.registers (10 + k)
  register_in k s is = ap (λ (b : Bool). word_at s (elim b as (λ _. Place) [ true ↦ InRegister (10 + k) | false ↦ InMemory (w.address + 8 * (k - 8)) ])) is

  memory_in : (k : ℕ) (s : State) → nat_lt k 8 ≡ false → value_in k s ≡ loaded s.memory (w.address + 8 * (k - 8)) 8
  memory_in k s is = ap (λ (b : Bool). word_at s (elim b as (λ _. Place) [ true ↦ InRegister (10 + k) | false ↦ InMemory (w.address + 8 * (k - 8)) ])) is

  one_same : (k v : ℕ) (s : State) → v < 2 ^ 64 → value_in k (with_word (value_place w k) v s) ≡ v
  one_same k v s small = by (nat_lt k 8) refl
    where
      same_register : (f : ℕ → ℕ) (r x : ℕ) → with_register f (10 + r) x (10 + r) ≡ x
      same_register f r x = grind (arith, nat_tests)

      by : (b : Bool) → nat_lt k 8 ≡ b → value_in k (with_word (value_place w k) v s) ≡ v
      by true is = ap (value_in k) (by_register k v s is) ∙ register_in k (record s { registers = with_register s.registers (10 + k) v }) is ∙ same_register s.registers k v
      by false is = ap (value_in k) (by_memory k v s is) ∙ memory_in k (record s { memory = stored s.memory (w.address + 8 * (k - 8)) 8 v }) is ∙ same_word s.memory (w.address + 8 * (k - 8)) v small

  one_other : (k v j : ℕ) (s : State) → j < k → value_in j (with_word (value_place w k) v s) ≡ value_in j s
  one_other k v j s less = by (nat_lt k 8) refl (nat_lt j 8) refl
    where
      differs : (r q : ℕ) → r < q → (10 + r == 10 + q) ≡ false
      differs r q below = grind (arith, nat_tests, below)

      by : (b : Bool) → nat_lt k 8 ≡ b → (d : Bool) → nat_lt j 8 ≡ d → value_in j (with_word (value_place w k) v s) ≡ value_in j s
      by true is true early = ap (value_in j) (by_register k v s is) ∙ register_in j (record s { registers = with_register s.registers (10 + k) v }) early
          ∙ other_is s.registers (10 + k) v (10 + j) (differs j k less) ∙ sym (register_in j s early)
      by true is false late = absurd (grind (arith, nat_tests, is, late, less))
      by false is true early = ap (value_in j) (by_memory k v s is) ∙ register_in j (record s { memory = stored s.memory (w.address + 8 * (k - 8)) 8 v }) early ∙ sym (register_in j s early)
      by false is false late = ap (value_in j) (by_memory k v s is) ∙ memory_in j (record s { memory = stored s.memory (w.address + 8 * (k - 8)) 8 v }) late
          ∙ loaded-below s.memory (w.address + 8 * (k - 8)) 8 v (w.address + 8 * (j - 8)) 8 (under (grind (arith, nat_tests, is)) (grind (arith, nat_tests, late)))
          ∙ sym (memory_in j s late)
        where
          under : 8 ≤ k → 8 ≤ j → w.address + 8 * (j - 8) + 8 ≤ w.address + 8 * (k - 8)
          under high low = omega (arith, less, high, low)

  one_register : (k v r : ℕ) (s : State) → (k < 8 → (r == 10 + k) ≡ false) → (with_word (value_place w k) v s).registers r ≡ s.registers r
  one_register k v r s differs = by (nat_lt k 8) refl
    where
      by : (b : Bool) → nat_lt k 8 ≡ b → (with_word (value_place w k) v s).registers r ≡ s.registers r
      by true is = ap (λ (u : State). u.registers r) (by_register k v s is) ∙ other_is s.registers (10 + k) v r (differs (grind (arith, nat_tests, is)))
      by false is = ap (λ (u : State). u.registers r) (by_memory k v s is)

  one_byte : (k v a : ℕ) (s : State) → (a < w.address) ⊎ (w.address + 8 * (suc k - 8) ≤ a) → (with_word (value_place w k) v s).memory a ≡ s.memory a
  one_byte k v a s out = by (nat_lt k 8) refl
    where
      outside : 8 ≤ k → (a < w.address) ⊎ (w.address + 8 * (suc k - 8) ≤ a) → (a < w.address + 8 * (k - 8)) ⊎ (w.address + 8 * (k - 8) + 8 ≤ a)
      outside high (inl below) = inl (omega (arith, below))
      outside high (inr above) = inr (omega (arith, above, high))

      by : (b : Bool) → nat_lt k 8 ≡ b → (with_word (value_place w k) v s).memory a ≡ s.memory a
      by true is = ap (λ (u : State). u.memory a) (by_register k v s is)
      by false is = ap (λ (u : State). u.memory a) (by_memory k v s is) ∙ stored-outside s.memory (w.address + 8 * (k - 8)) 8 v a (outside (grind (arith, nat_tests, is)) out)

  -- ---- all values

  earlier : (vs : List ℕ) (k j : ℕ) (s : State) → j < k → value_in j (with_values_from w k vs s) ≡ value_in j s
  earlier [] k j s less = refl
  earlier (v ∷ vs) k j s less =
      let below : j < suc k = omega (arith, less) in
      earlier vs (suc k) j (with_word (value_place w k) v s) below ∙ one_other k v j s less

  arrive : (vs : List ℕ) (k i : ℕ) (s : State) → AreWords vs → i < length vs → value_in (k + i) (with_values_from w k vs s) ≡ slice_index_or vs i 0
  arrive [] k i s words less = absurd (omega (arith, less))
  arrive (v ∷ vs) k zero s words less =
      let none : k + 0 ≡ k = omega arith in
      let below : k < suc k = omega arith in
      ap (λ (n : ℕ). value_in n (with_values_from w (suc k) vs (with_word (value_place w k) v s))) none
      ∙ earlier vs (suc k) k (with_word (value_place w k) v s) below ∙ one_same k v s words.0
  arrive (v ∷ vs) k (suc i) s words less =
      let more : k + suc i ≡ suc k + i = omega arith in
      ap (λ (n : ℕ). value_in n (with_values_from w (suc k) vs (with_word (value_place w k) v s))) more
      ∙ arrive vs (suc k) i (with_word (value_place w k) v s) words.1 (omega (arith, less))

  first_differs : (k count r : ℕ) → (nat_le (10 + k) r && nat_lt r (10 + min (k + suc count) 8)) ≡ false → k < 8 → (r == 10 + k) ≡ false
  first_differs k count r apart low = grind (arith, nat_tests, apart, low)

  rest_differ : (k count r : ℕ) → (nat_le (10 + k) r && nat_lt r (10 + min (k + suc count) 8)) ≡ false → (nat_le (10 + suc k) r && nat_lt r (10 + min (suc k + count) 8)) ≡ false
  rest_differ k count r apart = grind (arith, nat_tests, apart)

  registers_stay : (vs : List ℕ) (k r : ℕ) (s : State) → (nat_le (10 + k) r && nat_lt r (10 + min (k + length vs) 8)) ≡ false →
      (with_values_from w k vs s).registers r ≡ s.registers r
  registers_stay [] k r s apart = refl
  registers_stay (v ∷ vs) k r s apart =
      registers_stay vs (suc k) r (with_word (value_place w k) v s) (rest_differ k (length vs) r apart) ∙ one_register k v r s (first_differs k (length vs) r apart)

  bytes_stay : (vs : List ℕ) (k a : ℕ) (s : State) → (a < w.address) ⊎ (w.address + 8 * (k + length vs - 8) ≤ a) → (with_values_from w k vs s).memory a ≡ s.memory a
  bytes_stay [] k a s out = refl
  bytes_stay (v ∷ vs) k a s out = bytes_stay vs (suc k) a (with_word (value_place w k) v s) (later out) ∙ one_byte k v a s (first out)
    where
      later : (a < w.address) ⊎ (w.address + 8 * (k + length (v ∷ vs) - 8) ≤ a) → (a < w.address) ⊎ (w.address + 8 * (suc k + length vs - 8) ≤ a)
      later (inl below) = inl below
      later (inr above) = inr (omega (arith, above))

      first : (a < w.address) ⊎ (w.address + 8 * (k + length (v ∷ vs) - 8) ≤ a) → (a < w.address) ⊎ (w.address + 8 * (suc k - 8) ≤ a)
      first (inl below) = inl below
      first (inr above) = inr (omega (arith, above))

  -- ---- as code gives values

  abbrev operands : List ℕ → List Operand
  operands values = map (λ v. Held (Number v)) values

  no_labels : ℕ → ℕ
  no_labels n = 0

  given_number : (values : List ℕ) (k : ℕ) (a : Operand) → slice_get (map (λ v. Held (Number v)) values) k ≡ Some a → (k < length values) × (a ≡ Held (Number (slice_index_or values k 0)))
  given_number [] k a is = absurd (cc)
  given_number (v ∷ values) zero a is = (omega arith, sym (same_Some (Held (Number v)) a is))
  given_number (v ∷ values) (suc k) a is = let rest = given_number values k a is in (omega (arith, rest.0), rest.1)

  or_both : (a b : Bool) → (a || b) ≡ false → a ≡ false
  or_both true b is = absurd (cc)
  or_both false b is = refl

  gives : (values : List ℕ) (s : State) → AreWords values → Gives w (λ n. 0) (map (λ v. Held (Number v)) values) s (with_values w values s)
  gives values s words =
      let count : length (map (λ v. Held (Number v)) values) ≡ length values = length-map values (λ v. Held (Number v)) in
      record {
        arrive = λ k a is.
            let there = given_number values k a is in
            let none : k ≡ 0 + k = omega arith in
            ap (λ (n : ℕ). value_in n (with_values w values s)) none ∙ arrive values 0 k s words there.0 ∙ sym (ap (λ (o : Operand). operand_at (λ n. 0) o s) there.1);
        registers = λ r apart. registers_stay values 0 r s (at_zero values r count (or_both _ (is_scratch r) apart));
        waits = registers_stay values 0 7 s refl_seven;
        memory = λ a out. bytes_stay values 0 a s (subst (λ (n : ℕ). (a < w.address) ⊎ (w.address + 8 * (n - 8) ≤ a)) (count ∙ zero_add (length values)) out);
      }
    where
      zero_add : (n : ℕ) → n ≡ 0 + n
      zero_add n = omega arith

      refl_seven : (nat_le (10 + 0) 7 && nat_lt 7 (10 + min (0 + length values) 8)) ≡ false
      refl_seven = grind (arith, nat_tests)

      at_zero : (vs : List ℕ) (r : ℕ) → length (map (λ v. Held (Number v)) vs) ≡ length vs → (nat_le 10 r && nat_lt r (10 + min (length (map (λ v. Held (Number v)) vs)) 8)) ≡ false →
          (nat_le (10 + 0) r && nat_lt r (10 + min (0 + length vs) 8)) ≡ false
      at_zero vs r count apart =
          let same : 0 + length vs ≡ length (map (λ v. Held (Number v)) vs) = omega (arith, count) in
          ap (λ (n : ℕ). nat_le 10 r && nat_lt r (10 + min n 8)) same ∙ apart

-- what is shown once the values are brought
pub brought_shows : (y : Symbols) (rest : ℕ → ℕ) (s : Setting) (m : MemoryMap) → IsFor s m → (h : Holdings) (store : Store) (values : List ℕ) (t : State) → AreWords values → length values ≤ 64 →
    h.temps ≡ none_known → IsRepresented y rest s h store [] t → IsRepresented y rest s h store values (with_values (stack_region s) values t)
brought_shows y rest s m is_for h store values t words few temps is_shown =
    let count : length (map (λ v. Held (Number v)) values) ≡ length values = length-map values (λ v. Held (Number v)) in
    let shows = given_shows y rest s m is_for h store values (λ n. 0) (map (λ v. Held (Number v)) values) t (with_values (stack_region s) values t) (gives (stack_region s) values t words)
    (record { few = few; count = count; have = λ k a is. ap (λ (o : Operand). operand_at (λ n. 0) o t) (given_number (stack_region s) values k a is).1 }) is_shown in
    let same : record h { temps = none_known } ≡ h = ap (λ (temps : Contents). record h { temps = temps }) (sym temps) in
    subst (λ (k : Holdings). IsRepresented y rest s k store values (with_values (stack_region s) values t)) same shows
