-- A number is put where something of a suspended activation stands: what is represented of all else stays.
use Rattle.std.proofs.Common.{◌≡◌, ℕ, ◌+◌, ◌<◌, ◌^◌, ◌==◌, Bool, true, false, List, refl, ◌∙◌, arith}
use Rattle.std.proofs.lemmas.Bool.Decides.{nat_tests}
use Rattle.rv_table.specs.Machine.{State, stored}
use Rattle.rv_table.specs.Registers.{with_register}
use Rattle.cmm_program.specs.State.{Setting, Store}
use Rattle.cmm_abi.specs.Registers.{is_callee_saves, is_temporary}
use Rattle.cmm_chain.specs.Contents.{Number}
use Rattle.cmm_chain.specs.Running.{Holdings}
use Rattle.cmm_chain.specs.Walks as chain
use Rattle.cmm_chain.specs.Walks.{Spot, content_at, put_at}
use Rattle.cmm_abi.specs.Regions.{with_word}
use Rattle.cmm_emit_laws.specs.Words.{Symbols, Represents, Sits, is_known}
use Rattle.cmm_emit_laws.specs.Represented.{IsRepresented, stack_region}
use Rattle.cmm_emit_laws.proofs.Shared.{below_stays, cells_stay, registers_same, rest_stays, shown_same, values_same, word_written}
use Rattle.cmm_client_laws.specs.Walked.{place_of}
use Rattle.cmm_client_laws.proofs.Showing.{IsSpot}

-- ---- another register is as it was

pub other_is : (f : ℕ → ℕ) (r x k : ℕ) → (k == r) ≡ false → with_register f r x k ≡ f k
other_is f r x k differs = grind (arith, nat_tests, differs)

pub same_is : (f : ℕ → ℕ) (r x k : ℕ) → (k == r) ≡ true → is_callee_saves r ≡ true → with_register f r x k ≡ x
same_is f r x k same saved = grind (arith, nat_tests, same, saved)

-- callee-saves registers are none of those that code uses otherwise
low_apart : (r k : ℕ) → is_callee_saves r ≡ true → k < 9 → (k == r) ≡ false
low_apart r k saved low = grind (arith, nat_tests, saved, low)

value_apart : (r i : ℕ) → is_callee_saves r ≡ true → i < 8 → (10 + i == r) ≡ false
value_apart r i saved low = grind (arith, nat_tests, saved, low)

temporary_apart : (r k : ℕ) → is_callee_saves r ≡ true → is_temporary k ≡ true → (k == r) ≡ false
temporary_apart r k saved temporary = grind (arith, nat_tests, saved, temporary)

module _ (y : Symbols) (rest : ℕ → ℕ) (s : Setting) (h : Holdings) (store : Store) (carried : List ℕ) (t : State) (is_shown : IsRepresented y rest s h store carried t) (x : ℕ) where
  in_stack : (a : ℕ) → x < 2 ^ 64 → is_known (h.contents a) ≡ true →
      IsRepresented y rest s (put_at (chain.InStack a) (Number x) h) store carried (record t { memory = stored t.memory a 8 x })
  in_stack a small known =
      let sits : Sits (stack_region s) store.memory a = is_shown.words.sits a known in record {
        holdings = record {
          zero = is_shown.holdings.zero;
          frame = is_shown.holdings.frame;
          region = is_shown.holdings.region;
          back = is_shown.holdings.back;
          kept = is_shown.holdings.kept;
          temps = is_shown.holdings.temps;
        };
        words = word_written y (stack_region s) store.memory a x sits h.contents t.memory (Number x) refl small is_shown.words;
        cells = cells_stay y (stack_region s) store.memory a x sits t.memory is_shown.cells;
        registers = registers_same (stack_region s) store.registers t.memory (stored t.memory a 8 x) (λ b less low. below_stays y (stack_region s) store.memory a x sits t.memory b less) is_shown.registers;
        elsewhere = rest_stays rest (stack_region s) store.memory.data_room t.memory a 8 x (omega (arith, sits.low)) sits.high is_shown.elsewhere;
        values = values_same (stack_region s) carried t (record t { memory = stored t.memory a 8 x }) (λ k less. refl)
            (λ b less low. below_stays y (stack_region s) store.memory a x sits t.memory b less) is_shown.values;
        stack = is_shown.stack;
        at = is_shown.at;
      }

  in_register : (r : ℕ) → is_callee_saves r ≡ true →
      IsRepresented y rest s (put_at (chain.InRegister r) (Number x) h) store carried (record t { registers = with_register t.registers r x })
  in_register r saved = record {
    holdings = record {
      zero = other_is t.registers r x 0 (low_apart r 0 saved (omega arith)) ∙ is_shown.holdings.zero;
      frame = other_is t.registers r x 2 (low_apart r 2 saved (omega arith)) ∙ is_shown.holdings.frame;
      region = other_is t.registers r x 4 (low_apart r 4 saved (omega arith)) ∙ is_shown.holdings.region;
      back = shown_same y h.point.back (t.registers 1) (with_register t.registers r x 1) (λ known. other_is t.registers r x 1 (low_apart r 1 saved (omega arith))) is_shown.holdings.back;
      kept = λ k is. kept_at k is (k == r) refl;
      temps = λ k is. shown_same y (h.temps k) (t.registers k) (with_register t.registers r x k) (λ known. other_is t.registers r x k (temporary_apart r k saved is))
          (is_shown.holdings.temps k is);
    };
    words = is_shown.words;
    cells = is_shown.cells;
    registers = is_shown.registers;
    elsewhere = is_shown.elsewhere;
    values = values_same (stack_region s) carried t (record t { registers = with_register t.registers r x }) (λ k less. other_is t.registers r x (10 + k) (value_apart r k saved less))
        (λ b less low. refl) is_shown.values;
    stack = is_shown.stack;
    at = is_shown.at;
  }
    where
      kept_at : (k : ℕ) → is_callee_saves k ≡ true → (test : Bool) → (k == r) ≡ test → Represents y (elim test [ true ↦ Number x | false ↦ h.point.kept k ]) (with_register t.registers r x k)
      kept_at k is true same = same_is t.registers r x k same saved
      kept_at k is false differs = shown_same y (h.point.kept k) (t.registers k) (with_register t.registers r x k) (λ known. other_is t.registers r x k differs) (is_shown.holdings.kept k is)

  -- a number is put where something that is known stands
  pub spot_shows : (spot : Spot) → IsSpot spot → x < 2 ^ 64 → is_known (content_at h spot) ≡ true → IsRepresented y rest s (put_at spot (Number x) h) store carried (with_word (place_of spot) x t)
  spot_shows (chain.InRegister r) is small known = in_register r is
  spot_shows (chain.InStack a) is small known = in_stack a small known
