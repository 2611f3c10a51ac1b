-- Some of the values go out, and then others.
use Rattle.std.proofs.Common.{◌≡◌, ◌≢◌, ◌⊎◌, inl, inr, ℕ, zero, suc, ◌+◌, ◌-◌, ◌*◌, ◌<◌, ◌≤◌, Bool, true, false, List, length, min, refl, sym, ◌∙◌, ap, arith, Some}
use Rattle.std.specs.Prelude.{◌==◌, ◌&&◌, ◌||◌, nat_le, nat_lt, slice_get, is_some, IsTrue}
use Rattle.std.proofs.lemmas.Bool.{cases_lt, and_parts}
use Rattle.std.proofs.lemmas.Bool.Decides.{nat_tests}
use Rattle.std.proofs.lemmas.Option.{slice_get_within}
use Rattle.cmm_abi.specs.Regions.{value_place, word_at}
use Rattle.cmm_abi.specs.Registers.{is_callee_saves, is_scratch, is_temporary}
use Rattle.cmm_chain.specs.declared.frame.Frame.{Frame}
use Rattle.cmm_chain.specs.declared.frame.Location.TheVariants.{Slot, Saved, Temp}
use Rattle.rv_table.proofs.Shared.{stored-outside}
use Rattle.rv_table.specs.Machine.{Region, State, bottom, loaded}
use Rattle.cmm_select.specs.Operands.{operand_at}
use Rattle.cmm_select.specs.declared.operand.Operand.{Operand}
use Rattle.cmm_select.specs.declared.operand.Operand.TheVariants.{Held, Symbol}
use Rattle.cmm_select.specs.declared.source.Source.TheVariants.{Place, Number, Address}
use Rattle.cmm_calls.proofs.Brought.{in_area, in_register, others_kept, value_arrives}
use Rattle.cmm_calls.proofs.Taken.{no_scratch_value, value_in_area, value_in_register}
use Rattle.cmm_calls.proofs.Tests.{alike}
use Rattle.cmm_calls.specs.Values.{Gives, is_operand}
use Rattle.cmm_calls.specs.inside.Giving.{GivesThose, GivesValue, Goes, home}

-- ---- bytes

loaded-within : (m n : ℕ → ℕ) (from size : ℕ) → ((a : ℕ) → from ≤ a → a < from + size → m a ≡ n a) → loaded m from size ≡ loaded n from size
loaded-within m n from zero same = refl
loaded-within m n from (suc size) same =
    ap (λ (b : ℕ). b + 256 * loaded m (from + 1) size) (same from (omega arith) (omega arith))
    ∙ ap (λ (k : ℕ). n from + 256 * k) (loaded-within m n (from + 1) size (λ a h g. same a (omega (arith, h)) (omega (arith, g))))

-- ---- some, and then others

some_same : (a b : Operand) → Some a ≡ Some b → a ≡ b
some_same a b e = cc (e)

found_same : (values : List Operand) (k i : ℕ) (a b : Operand) → slice_get values k ≡ Some a → slice_get values i ≡ Some b → k ≡ i → a ≡ b
found_same values k i a b f g e = some_same a b (sym f ∙ ap (λ (n : ℕ). slice_get values n) e ∙ g)

-- one alone
pub one_goes : (region : Region) (at : ℕ → ℕ) (values : List Operand) (i n : ℕ) (v : Operand) (s t : State) → slice_get values i ≡ Some v → n ≡ operand_at at v s → GivesValue region i n s t →
    GivesThose region at (λ k a. k == i) values s t
one_goes region at values i n v s t found is gives = record {
  arrive = λ k a goes.
      let e = alike k i goes.goes in
      ap (λ (j : ℕ). word_at t (value_place region j)) e ∙ value_arrives region i n s t gives ∙ is
      ∙ ap (λ (o : Operand). operand_at at o s) (sym (found_same values k i a v goes.found found e));
  registers = λ r kept away. others_kept region i n r s t kept (λ near. away i v here near) gives;
  waits = gives.waits;
  memory = λ b away. elim (cases_lt i 8) [
    | inl near ↦ ap (λ (m : ℕ → ℕ). m b) (in_register region i n s t near gives).memory
    | inr far ↦ ap (λ (m : ℕ → ℕ). m b) (in_area region i n s t far gives).memory ∙ stored-outside s.memory (region.address + 8 * (i - 8)) 8 n b (away i v here far)
  ];
}
  where
    here : Goes (λ k a. k == i) values i v
    here = record { found = found; goes = grind (arith, nat_tests) }

module _ (region : Region) (at : ℕ → ℕ) (values : List Operand) (one two all : ℕ → Operand → Bool) where
  module _ (split : (k : ℕ) (a : Operand) → Goes all values k a → Goes one values k a ⊎ Goes two values k a)
      (first_in : (k : ℕ) (a : Operand) → Goes one values k a → Goes all values k a) (second_in : (k : ℕ) (a : Operand) → Goes two values k a → Goes all values k a)
      (apart : (k : ℕ) (a : Operand) → Goes one values k a → Goes two values k a → true ≡ false) where
    no_both : (k j : ℕ) (a b : Operand) → Goes one values k a → Goes two values j b → k ≢ j
    no_both k j a b h g e =
        let same = found_same values k j a b h.found g.found e in
        let bad = apart k a h record { found = h.found; goes = rw (e, same) g.goes } in
        absurd (cc (bad))

    value_kept : (k : ℕ) (a : Operand) (t u : State) → Goes one values k a → GivesThose region at two values t u → word_at u (value_place region k) ≡ word_at t (value_place region k)
    value_kept k a t u goes gives = elim (cases_lt k 8) [
      | inl low ↦ value_in_register region k u low
          ∙ gives.registers (10 + k) (no_scratch_value k) (λ j b other near e. no_both k j a b goes other (omega (arith, e)))
          ∙ sym (value_in_register region k t low)
      | inr far ↦ value_in_area region k u far
          ∙ loaded-within u.memory t.memory (region.address + 8 * (k - 8)) 8
          (λ c low high. gives.memory c (λ j b other above. beside c j low high far above (no_both k j a b goes other)))
          ∙ sym (value_in_area region k t far)
    ]
      where
        beside : (c j : ℕ) → region.address + 8 * (k - 8) ≤ c → c < region.address + 8 * (k - 8) + 8 → 8 ≤ k → 8 ≤ j → k ≢ j → (c < region.address + 8 * (j - 8)) ⊎ (region.address + 8 * (j - 8) + 8 ≤ c)
        beside c j low high far above differ = elim (cases_lt k j) [
          | inl before ↦ inl (omega (arith, high, before, far))
          | inr behind ↦ inr (let strictly : j < k = omega (arith, behind, differ) in omega (arith, low, strictly, above))
        ]

    pub those_then : (s t u : State) → ((k : ℕ) (a : Operand) → Goes two values k a → operand_at at a t ≡ operand_at at a s) → GivesThose region at one values s t → GivesThose region at two values t u →
        GivesThose region at all values s u
    those_then s t u stays first second = record {
      arrive = λ k a goes. elim (split k a goes) [
        | inl before ↦ value_kept k a t u before second ∙ first.arrive k a before
        | inr now ↦ second.arrive k a now ∙ stays k a now
      ];
      registers = λ r kept away.
          second.registers r kept (λ k a goes. away k a (second_in k a goes)) ∙ first.registers r kept (λ k a goes. away k a (first_in k a goes));
      waits = second.waits ∙ first.waits;
      memory = λ b away. second.memory b (λ k a goes. away k a (second_in k a goes)) ∙ first.memory b (λ k a goes. away k a (first_in k a goes));
    }

-- the same ones
pub those_same : (region : Region) (at : ℕ → ℕ) (values : List Operand) (one all : ℕ → Operand → Bool) (s t : State) → ((k : ℕ) (a : Operand) → Goes all values k a → Goes one values k a) →
    ((k : ℕ) (a : Operand) → Goes one values k a → Goes all values k a) → GivesThose region at one values s t → GivesThose region at all values s t
those_same region at values one all s t back forth gives = record {
  arrive = λ k a goes. gives.arrive k a (back k a goes);
  registers = λ r kept away. gives.registers r kept (λ k a goes. away k a (forth k a goes));
  waits = gives.waits;
  memory = λ b away. gives.memory b (λ k a goes. away k a (forth k a goes));
}

-- ---- what operands are behind them

saved_kept : (r : ℕ) → IsTrue (is_callee_saves r) → is_scratch r ≡ false
saved_kept r is = grind (arith, nat_tests, is)

temporary_kept : (r : ℕ) → IsTrue (is_temporary r) → is_scratch r ≡ false
temporary_kept r is = grind (arith, nat_tests, is)

module _ (region : Region) (at : ℕ → ℕ) (gone : ℕ → Operand → Bool) (values : List Operand) (few : length values ≤ 64) (s t : State) (gives : GivesThose region at gone values s t) where
  pub fixed_stays : (r : ℕ) → r < 5 → t.registers r ≡ s.registers r
  fixed_stays r low = gives.registers r (grind (arith, nat_tests, low)) (λ k a goes near e. absurd (omega (arith, e, low)))

  frame_word : (o : ℕ) → bottom region ≤ s.registers 2 → loaded t.memory (t.registers 2 + o) 8 ≡ loaded s.memory (s.registers 2 + o) 8
  frame_word o low =
      ap (λ (a : ℕ). loaded t.memory (a + o) 8) (fixed_stays 2 (omega arith))
      ∙ loaded-within t.memory s.memory (s.registers 2 + o) 8
      (λ a above below. gives.memory a (λ k b goes far. inr (let within = slice_get_within values k b goes.found in omega (arith, within, few, far, above, low))))

  pub operand_stays : (f : Frame) (a : Operand) → is_operand f a ≡ true → (is_some (home a) ≡ true → (k : ℕ) (b : Operand) → Goes gone values k b → 8 ≤ k) → bottom region ≤ s.registers 2 →
      operand_at at a t ≡ operand_at at a s
  operand_stays f (Held (Place (Slot o))) is only low = frame_word o low
  operand_stays f (Held (Place (Saved r))) is only low =
      gives.registers r (saved_kept r (and_parts (is_callee_saves r) _ is).0) (λ k b goes near e. let far = only refl k b goes in absurd (omega (arith, far, near)))
  operand_stays f (Held (Place (Temp r))) is only low =
      gives.registers r (temporary_kept r is) (λ k b goes near e. let far = only refl k b goes in absurd (omega (arith, far, near)))
  operand_stays f (Held (Number n)) is only low = refl
  operand_stays f (Held (Address o)) is only low = ap (λ (a : ℕ). a + o) (fixed_stays 2 (omega arith))
  operand_stays f (Symbol l plus) is only low = refl

-- ---- all of them

pub gives_all : (region : Region) (at : ℕ → ℕ) (values : List Operand) (s t : State) → GivesThose region at (λ k a. true) values s t → Gives region at values s t
gives_all region at values s t gives = record {
  arrive = λ k a found. gives.arrive k a record { found = found; goes = refl };
  registers = λ r away.
      gives.registers r (scratch_away r (min (length values) 8) away)
      (λ k a goes low e. beside r k (length values) away (slice_get_within values k a goes.found) low e);
  waits = gives.waits;
  memory = λ a away.
      gives.memory a (λ k b goes far. let within = slice_get_within values k b goes.found in
      elim away [ inl below ↦ inl (omega (arith, below)) | inr above ↦ inr (omega (arith, above, within, far)) ]);
}
  where
    scratch_away : (r m : ℕ) → ((nat_le 10 r && nat_lt r (10 + m)) || is_scratch r) ≡ false → is_scratch r ≡ false
    scratch_away r m g = grind (arith, nat_tests, g)

    beside : (r k n : ℕ) → ((nat_le 10 r && nat_lt r (10 + min n 8)) || is_scratch r) ≡ false → k < n → k < 8 → r ≢ 10 + k
    beside r k n away within low e = by (min n 8) away (omega (arith, within, low))
      where
        by : (m : ℕ) → ((nat_le 10 r && nat_lt r (10 + m)) || is_scratch r) ≡ false → k < m → ⊥
        by m h g = grind (arith, nat_tests, h, g, e)
