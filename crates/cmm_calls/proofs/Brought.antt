-- Values go out to where they travel.
use Rattle.std.proofs.Common.{◌≡◌, ◌≢◌, inl, inr, ℕ, zero, suc, ◌+◌, ◌-◌, ◌*◌, ◌%◌, ◌<◌, ◌≤◌, ◌^◌, Bool, true, false, List, length, refl, sym, ◌∙◌, ap, subst, arith, pos}
use Rattle.std.specs.Prelude.{◌==◌, ◌||◌, nat_le, IsTrue}
use Rattle.std.proofs.lemmas.Bool.{cases_lt, or_parts}
use Rattle.std.proofs.lemmas.Bool.Decides.{nat_tests}
use Rattle.cmm_abi.specs.Regions.{InMemory, InRegister, LiesIn, Place as WordPlace, value_place, with_word, word_at}
use Rattle.cmm_abi.specs.Registers.{is_scratch}
use Rattle.cmm_chain.specs.declared.frame.Frame.{Frame}
use Rattle.cmm_chain.specs.declared.frame.Location.{Location}
use Rattle.rv_asm.proofs.Shared.{reaches_then, reaches_weaker, single_does}
use Rattle.rv_asm.specs.Appending.{Then}
use Rattle.rv_asm.specs.Parts.{Code}
use Rattle.rv_asm.specs.declared.part.Label.{Label}
use Rattle.rv_table.proofs.Shared.{loaded-same, with_register-other, with_register-same}
use Rattle.rv_table.specs.Machine.{MemoryMap, Region, State, bottom, is_accessible, loaded, stored, top}
use Rattle.rv_table.specs.Registers.{with_register}
use Rattle.rv_table.specs.Words.{modulo, sum}
use Rattle.rv_table.specs.declared.instruction.Instr.TheVariants.{Addi, Sd}
use Rattle.cmm_effects.proofs.Shared.{leads_set, leads_sound, leads_store, leads_then, leads_turns, leads_weaker, reaches_more, reaches_sound, runs_of, turns_weaker}
use Rattle.cmm_effects.specs.Changes.{CanReach, Keeps, PutsRegister, Sets, Writes, read_at}
use Rattle.cmm_effects.specs.Pieces.{Always, BeginsQuietly, Leads}
use Rattle.cmm_effects.specs.Ways.{Turns}
use Rattle.cmm_select.specs.Operands.{Brings, BringsOperand, CanBringOperand, most_for, operand_at}
use Rattle.cmm_select.specs.Sources.{CanBring}
use Rattle.cmm_select.specs.declared.operand.Operand.{Operand}
use Rattle.cmm_select.specs.declared.operand.Operand.TheVariants.{Held, Symbol}
use Rattle.cmm_select.specs.declared.source.Source.{Source}
use Rattle.cmm_select.specs.declared.source.Source.TheVariants.{Place, Number, Address}
use Rattle.cmm_calls.proofs.Leaving.{left_further}
use Rattle.cmm_select.proofs.Shared.{One, plus_none}
use Rattle.cmm_calls.proofs.Standing.{frame_stays, place_reached}
use Rattle.cmm_calls.proofs.Taken.{area_address, area_below, area_reached, far_place, near_place, no_scratch_value, value_in_area, value_in_register}
use Rattle.cmm_calls.specs.Frames.{CanBeMade, CanReturn, HasFrame, Leaves, LeavesFrame, LetsWait, Returns, leave_cost, return_address}
use Rattle.cmm_calls.specs.Values.{Gives, GivesIn, HasRegion, JumpsTo, Passes, ReturnsValues, is_operand, is_source}
use Rattle.cmm_calls.specs.inside.Giving.{CanGive, GivesValue}

-- ---- one value

away_brought : (r : ℕ) → is_scratch r ≡ false → ((r == 5) || (r == 6)) ≡ false
away_brought r h = grind (arith, nat_tests, h)

waits_beside : (k : ℕ) → (7 == 10 + k) ≡ false
waits_beside k = grind (arith, nat_tests)

-- a register that is put has its number, and all but scratch registers are as if nothing else were changed
register_given : (k n : ℕ) (s t : State) → PutsRegister (10 + k) n s t → Keeps (with_word (InRegister (10 + k)) n s) t
register_given k n s t puts = record { registers = λ r h. by r (r == 10 + k) refl h; memory = puts.2 }
  where
    by : (r : ℕ) (test : Bool) → (r == 10 + k) ≡ test → is_scratch r ≡ false → t.registers r ≡ with_register s.registers (10 + k) n r
    by r true is h =
        let same : r ≡ 10 + k = grind (arith, nat_tests, is) in
        subst (λ (i : ℕ). t.registers i ≡ with_register s.registers (10 + k) n i) (sym same) (puts.0 ∙ sym (with_register-same s.registers (10 + k) n (omega arith)))
    by r false is h =
        let other : r ≢ 10 + k = grind (arith, nat_tests, is) in
        puts.1 r (grind (arith, nat_tests, is, h)) ∙ sym (with_register-other s.registers (10 + k) n r other)

module _ (x : Code) (a : Operand) (k from to : ℕ) (region : Region) where
  -- a place has it, from which its register gets it
  pub gives_fetched : (p : Location) → a ≡ Held (Place p) → k < 8 → Leads 3 (CanReach p) (λ s t. Sets (10 + k) (read_at p s) s t) x from to →
      Leads 12 (CanGive region a) (λ s t. GivesValue region k (operand_at x.at a s) s t) x from to
  gives_fetched p is low first =
      leads_weaker (leads_sound first) (omega arith) (λ s sound can. subst (λ (o : Operand). CanBringOperand o x.map s) is can.brings)
      (λ s t sound can both. subst (λ (o : Operand). GivesValue region k (operand_at x.at o s) s t) (sym is)
      (all s t (read_at p s) both.0 (subst (λ (v : ℕ). v < 2 ^ 64) both.0.given (both.1.registers (10 + k)))))
    where
      all : (s t : State) (n : ℕ) → Sets (10 + k) n s t → n < 2 ^ 64 → GivesValue region k n s t
      all s t n sets fits = record {
        fits = fits;
        given = subst (λ (w : WordPlace). Keeps (with_word w n s) t) (sym (near_place region k low))
            (register_given k n s t (sets.given, (λ r h. sets.others r (or_parts (r == 10 + k) (is_scratch r) h).0), sets.memory));
        waits = sets.others 7 (waits_beside k);
      }

module _ (x : Code) (a : Operand) (k from to : ℕ) (short : most_for a ≤ 11) (region : Region) where
  -- it is brought into register 5, and has 64 bits
  comes : (mid : ℕ) → BringsOperand a 5 x from mid →
      Leads 11 (CanGive region a) (λ s t. Brings 5 (operand_at x.at a s) s t × (operand_at x.at a s < 2 ^ 64)) x from mid
  comes mid first =
      leads_weaker (leads_sound first) short (λ s sound can. can.brings)
      (λ s t sound can both. (both.0, subst (λ (v : ℕ). v < 2 ^ 64) both.0.given (both.1.registers 5)))

  pub gives_register : k < 8 → Then (BringsOperand a 5) (One (Addi (10 + k) 5 (pos 0))) x from to →
      Leads 12 (CanGive region a) (λ s t. GivesValue region k (operand_at x.at a s) s t) x from to
  gives_register low does =
      leads_weaker
      (leads_then {R = Always} (comes does.0 does.1) (runs_of (leads_set x (Addi (10 + k) 5 (pos 0)) does.0 to (10 + k) (λ g. sum (g 5) (modulo 64 (pos 0))) (omega arith) (λ g pc. refl) does.2))
      (λ s t sound also can brought. tt))
      (omega arith) (λ s sound can. can) (λ s u sound can passed. all s passed.0 u (operand_at x.at a s) passed.1.0 passed.1.1 passed.2)
    where
      all : (s t u : State) (n : ℕ) → Brings 5 n s t → n < 2 ^ 64 → Sets (10 + k) (sum (t.registers 5) (modulo 64 (pos 0))) t u → GivesValue region k n s u
      all s t u n first fits second = record {
        fits = fits;
        given = subst (λ (p : WordPlace). Keeps (with_word p n s) u) (sym (near_place region k low))
            (register_given k n s u (
              second.given ∙ ap (λ (v : ℕ). sum v (modulo 64 (pos 0))) first.given ∙ plus_none n fits,
              (λ r h. let parts = or_parts (r == 10 + k) (is_scratch r) h in second.others r parts.0 ∙ first.others r (away_brought r parts.1)),
              second.memory ∙ first.memory,
            ));
        waits = second.others 7 (waits_beside k) ∙ first.others 7 refl;
      }

  -- where it is stored, every register stays
  stored_there : (mid : ℕ) → One (Sd 4 5 (pos (8 * (k - 8)))) x mid to →
      Leads 1 (λ m s. IsTrue (is_accessible m (sum (s.registers 4) (modulo 64 (pos (8 * (k - 8))))) 8))
      (λ s t. Writes (sum (s.registers 4) (modulo 64 (pos (8 * (k - 8))))) 8 (s.registers 5) s t × LetsWait s t) x mid to
  stored_there mid does = record {
    quiet = (leads_store x (Sd 4 5 (pos (8 * (k - 8)))) mid to 8 (λ g. sum (g 4) (modulo 64 (pos (8 * (k - 8))))) (λ g. g 5) (λ g pc. refl) does).quiet;
    runs = record {
      go = λ s sound at p.
          reaches_more ((single_does x (Sd 4 5 (pos (8 * (k - 8)))) mid to s does at).store (sum (s.registers 4) (modulo 64 (pos (8 * (k - 8))))) 8 (s.registers 5) refl p)
          (λ t wrote. (
            wrote.pc,
            (record { registers = λ r h. ap (λ (y : ℕ → ℕ). y r) wrote.registers; memory = wrote.memory }, ap (λ (y : ℕ → ℕ). y 7) wrote.registers),
          ));
    };
  }

  pub gives_area : 8 ≤ k → k < 64 → Then (BringsOperand a 5) (One (Sd 4 5 (pos (8 * (k - 8))))) x from to →
      Leads 12 (CanGive region a) (λ s t. GivesValue region k (operand_at x.at a s) s t) x from to
  gives_area far few does =
      leads_weaker
      (leads_then (comes does.0 does.1) (runs_of (stored_there does.0 does.2))
      (λ s t sound also can brought. subst (λ (v : ℕ). IsTrue (is_accessible x.map v 8)) (sym (address t can.lies (brought.0.others 4 refl ∙ can.region))) (area_reached region x.map k can.lies far few)))
      (omega arith) (λ s sound can. can)
      (λ s u sound can passed. all s passed.0 u (operand_at x.at a s) can.lies (passed.1.0.others 4 refl ∙ can.region) passed.1.0 passed.1.1 passed.2.0 passed.2.1)
    where
      address : (t : State) → LiesIn region x.map → t.registers 4 ≡ region.address → sum (t.registers 4) (modulo 64 (pos (8 * (k - 8)))) ≡ region.address + 8 * (k - 8)
      address t lies is = ap (λ (n : ℕ). sum n (modulo 64 (pos (8 * (k - 8))))) is ∙ area_address region.address k (area_below region x.map lies) far few

      all : (s t u : State) (n : ℕ) → LiesIn region x.map → t.registers 4 ≡ region.address → Brings 5 n s t → n < 2 ^ 64 →
          Writes (sum (t.registers 4) (modulo 64 (pos (8 * (k - 8))))) 8 (t.registers 5) t u → LetsWait t u → GivesValue region k n s u
      all s t u n lies is first fits second waits = record {
        fits = fits;
        given = subst (λ (p : WordPlace). Keeps (with_word p n s) u) (sym (far_place region k far))
            (record {
              registers = λ r h. second.registers r h ∙ first.others r (away_brought r h);
              memory = second.memory
                  ∙ ap (λ (v : ℕ). stored t.memory v 8 (t.registers 5)) (address t lies is)
                  ∙ ap (λ (v : ℕ). stored t.memory (region.address + 8 * (k - 8)) 8 v) first.given
                  ∙ ap (λ (m : ℕ → ℕ). stored m (region.address + 8 * (k - 8)) 8 n) first.memory;
            });
        waits = waits ∙ first.others 7 refl;
      }

-- ---- what a source gives stays as it was

-- bytes from an address on that are the same are loaded as the same
pub loaded-agree : (m n : ℕ → ℕ) (from size : ℕ) → ((a : ℕ) → from ≤ a → m a ≡ n a) → loaded m from size ≡ loaded n from size
loaded-agree m n from zero same = refl
loaded-agree m n from (suc size) same =
    ap (λ (b : ℕ). b + 256 * loaded m (from + 1) size) (same from (omega arith))
    ∙ ap (λ (k : ℕ). n from + 256 * k) (loaded-agree m n (from + 1) size (λ a h. same a (omega (arith, h))))

source_brought : {region : Region} (f : Frame) (source : Source) (m : MemoryMap) (s : State) → is_source f source ≡ true → HasFrame region f.size m s → CanBring source m s
source_brought f (Place p) m s is has = place_reached f p m s is has
source_brought f (Number n) m s is has = tt
source_brought {region} f (Address o) m s is has = within f.size o (top region) is has.high has.lies.narrow
  where
    within : (size o end : ℕ) → nat_le o size ≡ true → s.registers 2 + size ≤ end → end < 2 ^ 64 → s.registers 2 + o < 2 ^ 64
    within size o end h g k = let e : o ≤ size = grind (arith, nat_tests, h) in omega (arith, e, g, k)

pub operand_brought : {region : Region} (f : Frame) (a : Operand) (m : MemoryMap) (s : State) → is_operand f a ≡ true → HasFrame region f.size m s → CanBringOperand a m s
operand_brought f (Held source) m s is has = source_brought f source m s is has
operand_brought f (Symbol l plus) m s is has = tt

-- a word of the frame
word_stays : (region : Region) (at : ℕ → ℕ) (o : ℕ) (given : List Operand) (s t : State) → length given ≤ 64 → bottom region ≤ s.registers 2 → Gives region at given s t →
    loaded t.memory (t.registers 2 + o) 8 ≡ loaded s.memory (s.registers 2 + o) 8
word_stays region at o given s t few low gives =
    ap (λ (a : ℕ). loaded t.memory (a + o) 8) (gives.registers 2 refl)
    ∙ loaded-agree t.memory s.memory (s.registers 2 + o) 8 (λ a h. gives.memory a (inr (omega (arith, h, low, few))))

-- ---- what one value changes

word_fits : (n : ℕ) → n < 2 ^ 64 → n % 2 ^ (8 * 8) ≡ n
word_fits n h = omega (arith, h)

-- where a value went into a register, or into the area
pub in_register : (region : Region) (k n : ℕ) (s t : State) → k < 8 → GivesValue region k n s t → Keeps (with_word (InRegister (10 + k)) n s) t
in_register region k n s t near gives = subst (λ (p : WordPlace). Keeps (with_word p n s) t) (near_place region k near) gives.given

pub in_area : (region : Region) (k n : ℕ) (s t : State) → 8 ≤ k → GivesValue region k n s t → Keeps (with_word (InMemory (region.address + 8 * (k - 8))) n s) t
in_area region k n s t far gives = subst (λ (p : WordPlace). Keeps (with_word p n s) t) (far_place region k far) gives.given

-- the value that goes out arrives
pub value_arrives : (region : Region) (k n : ℕ) (s t : State) → GivesValue region k n s t → word_at t (value_place region k) ≡ n
value_arrives region k n s t gives = elim (cases_lt k 8) [
  | inl near ↦ value_in_register region k t near ∙ (in_register region k n s t near gives).registers (10 + k) (no_scratch_value k)
      ∙ with_register-same s.registers (10 + k) n (omega arith)
  | inr far ↦ value_in_area region k t far ∙ ap (λ (m : ℕ → ℕ). loaded m (region.address + 8 * (k - 8)) 8) (in_area region k n s t far gives).memory
      ∙ loaded-same s.memory (region.address + 8 * (k - 8)) 8 n ∙ word_fits n gives.fits
]

-- registers that are neither scratch registers nor where the value travels stay
pub others_kept : (region : Region) (k n r : ℕ) (s t : State) → is_scratch r ≡ false → (k < 8 → r ≢ 10 + k) → GivesValue region k n s t → t.registers r ≡ s.registers r
others_kept region k n r s t away other gives = elim (cases_lt k 8) [
  | inl near ↦ (in_register region k n s t near gives).registers r away ∙ with_register-other s.registers (10 + k) n r (other near)
  | inr far ↦ (in_area region k n s t far gives).registers r away
]

-- ---- and then control leaves

module _ (x : Code) (f : Frame) (values : List Operand) (few : length values ≤ 64) (region : Region) where
  -- values, and then what goes some way
  pub parts_then : (from mid a b : ℕ) (P R : MemoryMap → State → Type 0) (there far : State → ℕ) (S : State → State → Type 0) → Passes a (HasRegion region f.size) (Gives region x.at values) x from mid →
      Turns b R there S x mid → ((m : MemoryMap) (s : State) → P m s → HasRegion region f.size m s) →
      ((s t : State) → P x.map s → Gives region x.at values s t → R x.map t) → ((s t : State) → P x.map s → Gives region x.at values s t → there t ≡ far s) →
      Turns (a + b) P far (λ s u. (t : State) × Gives region x.at values s t × S t u) x from
  parts_then from mid a b P R there far S first second less meets same = record {
    quiet = elim first.begins [ inl is ↦ subst (λ (n : ℕ). BeginsQuietly x n) (sym is) second.quiet | inr quiet ↦ quiet ];
    goes = record {
      go = λ s sound at p.
          reaches_weaker
          (reaches_then (reaches_sound (first.runs.go s sound at (less x.map s p)) sound)
          (λ t there'. reaches_more (second.goes.go t there'.1 there'.0.0 (meets s t p there'.0.1))
          (λ u arrived. (arrived.0 ∙ same s t p there'.0.1, (t, there'.0.1, arrived.1)))))
          (omega arith) (omega arith) (λ u arrived. arrived);
    };
  }

  address_stays : (s t : State) → bottom region ≤ s.registers 2 → Gives region x.at values s t → return_address f t ≡ return_address f s
  address_stays s t low gives = word_stays region x.at f.return_at values s t few low gives

module _ (x : Code) (f : Frame) (values : List Operand) (few : length values ≤ 64) where
  pub returns_values : (exit from mid : ℕ) → GivesIn (12 * length values) f.size values x from mid → Returns f exit x mid → ReturnsValues f values exit x from
  returns_values exit from mid first second region =
      turns_weaker
      (parts_then x f values few region from mid (12 * length values) (leave_cost f + 1) (λ m s. HasRegion region f.size m s × CanReturn region f exit m s) (CanReturn region f exit)
      (λ s. return_address f s + 4 * exit) (λ s. return_address f s + 4 * exit) (Leaves f) (first region) (second region) (λ m s can. can.0)
      (λ s t can gives.
      let same = address_stays x f values few region s t can.0.stack.low gives in
      record {
        frame = frame_stays f.size x.map s t (gives.registers 2 refl) can.0.stack;
        aligned = ap (λ (n : ℕ). n % 4) same ∙ can.1.aligned;
        fits = subst (λ (n : ℕ). n + 4 * exit < 2 ^ 64) (sym same) can.1.fits;
      })
      (λ s t can gives. ap (λ (n : ℕ). n + 4 * exit) (address_stays x f values few region s t can.0.stack.low gives)))
      (omega arith) (λ s sound can. can) (λ s u can passed. passed)

  pub jumps_to : (can : CanBeMade f) (to : Label) (from mid last : ℕ) → GivesIn (12 * length values) f.size values x from mid → LeavesFrame f x mid last →
      Turns 2 Always (λ s. x.at to.number) Keeps x last → JumpsTo f values to x from
  jumps_to can to from mid last first second third region =
      turns_weaker
      (parts_then x f values few region from mid (12 * length values) (leave_cost f + 2) (HasRegion region f.size) (HasFrame region f.size) (λ s. x.at to.number) (λ s. x.at to.number) (Leaves f)
      (first region)
      (turns_weaker
      (leads_turns (second region) third.goes (λ s t sound also has left. tt) (λ s. x.at to.number) (λ s t has left. refl))
      (omega arith) (λ s sound has. has) (λ s u has passed. left_further x f can s passed.0 u passed.1.0 passed.2))
      (λ m s has. has) (λ s t has gives. frame_stays f.size x.map s t (gives.registers 2 refl) has.stack) (λ s t has gives. refl))
      (omega arith) (λ s sound has. has) (λ s u has passed. passed)
