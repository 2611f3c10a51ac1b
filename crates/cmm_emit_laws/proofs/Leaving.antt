-- What is shown as control leaves an activation: a frame goes, a call, a cut.
use Rattle.std.proofs.Common.{◌≡◌, ℕ, ◌+◌, ◌<◌, refl, ◌∙◌, ap, arith, true, false, List, ◌∷◌, drop, Option, Some, None}
use Rattle.std.specs.Prelude.{◌==◌, ◌||◌, is_some}
use Rattle.std.proofs.lemmas.Bool.Decides.{nat_tests}
use Rattle.std.proofs.lemmas.Bool.{or_from}
use Rattle.cmm_chain.proofs.Shared.{callee_saves_is_kept}
use Rattle.cmm_chain.specs.Chain.{behind}
use Rattle.cmm_abi.specs.Registers.{is_callee_saves, is_scratch}
use Rattle.cmm_chain.specs.Contents.{Unknown, ReturnTo}
use Rattle.cmm_chain.specs.Plans.{Plan, saved_at}
use Rattle.cmm_chain.specs.Running.{Holdings, none_known}
use Rattle.cmm_program.specs.Frames.{frame_address, frame_size, without}
use Rattle.cmm_program.specs.State.{Setting, Activation, Store}
use Rattle.cmm_machine_laws.proofs.Shared.{without_keeps}
use Rattle.rv_table.specs.Machine.{MemoryMap, State, loaded}
use Rattle.cmm_effects.specs.Changes.{KeepsBut}
use Rattle.cmm_calls.specs.Frames.{Leaves}
use Rattle.cmm_emit_laws.specs.Words.{Symbols, Represents}
use Rattle.cmm_emit_laws.specs.Represented.{IsFor, IsRepresented, RepresentsHoldings, stack_region}
use Rattle.cmm_emit_laws.proofs.WrittenWords.{shown_same}
use Rattle.cmm_emit_laws.proofs.Frames.{ends_at_next, rooms_go, show_fewer}
use Rattle.cmm_emit_laws.proofs.Carrying.{value_is_kept}
use Rattle.cmm_emit_laws.proofs.Showing.{values_same}

-- a register in which a value travels is no callee-saves register, and none of the first ten
value_not_saved : (i : ℕ) → i < 8 → is_callee_saves (10 + i) ≡ false
value_not_saved i less = grind (arith, nat_tests, less)

value_differs : (i k : ℕ) → k < 10 → (10 + i == k) ≡ false
value_differs i k low = grind (arith, nat_tests, low)

-- a callee-saves register is none of the first nine
saved_differs : (r k : ℕ) → is_callee_saves r ≡ true → k < 9 → (r == k) ≡ false
saved_differs r k is low = grind (arith, nat_tests, is, low)

module _ (y : Symbols) (rest : ℕ → ℕ) (s : Setting) (m : MemoryMap) (is_for : IsFor s m) where
  -- memory stays, and some of the youngest activations may go
  pub moved_shows : (h h' : Holdings) (store : Store) (carried : List ℕ) (younger : ℕ) (t t' : State) → IsRepresented y rest s h store carried t → t'.memory ≡ t.memory →
      h'.contents ≡ h.contents → RepresentsHoldings y (stack_region s) h' t'.registers → ((i : ℕ) → i < 8 → t'.registers (10 + i) ≡ t.registers (10 + i)) →
      h'.point.at ≡ frame_address s (drop younger store.activations) → IsRepresented y rest s h' (without younger store) carried t'
  moved_shows h h' store carried younger t t' shows same contents holdings values at = record {
    holdings = holdings;
    words = rw (same, contents) (rooms_go y (stack_region s) store.memory younger h.contents t.memory shows.words);
    cells = rw same ((shows.cells.0, show_fewer store.memory.rooms younger t.memory shows.cells.1));
    registers = rw same shows.registers;
    elsewhere = rw same shows.elsewhere;
    values = values_same (stack_region s) carried t t' values (λ b less low. rw same refl) shows.values;
    stack = (without_keeps s younger store).1 shows.stack;
    at = at;
  }

  -- ---- the frame goes, as a return and a tail call do

  module _ (plan : Plan) (q : ℕ) (h : Holdings) (store : Store) (carried : List ℕ) (a : Activation) (older : List Activation) (t t' : State)
      (youngest : store.activations ≡ a ∷ older) (size : (plan.frame q).size ≡ frame_size s a)
      (saves : (r offset : ℕ) → saved_at plan q r ≡ Some offset → is_callee_saves r ≡ true) (leaves : Leaves (plan.frame q) t t')
      (shows : IsRepresented y rest s h store carried t) where
    not_saved : (r : ℕ) → is_callee_saves r ≡ false → is_some (saved_at plan q r) ≡ false
    not_saved r never = by (saved_at plan q r) refl
      where
        by : (o : Option ℕ) → saved_at plan q r ≡ o → is_some o ≡ false
        by None is = refl
        by (Some offset) is = let saved : is_callee_saves r ≡ true = saves r offset is in absurd (cc)

    still : (r : ℕ) → (r == 1) ≡ false → (r == 2) ≡ false → is_scratch r ≡ false → is_some (saved_at plan q r) ≡ false → t'.registers r ≡ t.registers r
    still r one two scratch unsaved = leaves.others r
        (or_from (r == 1) ((r == 2) || (is_scratch r || is_some (saved_at plan q r))) one
        (or_from (r == 2) (is_scratch r || is_some (saved_at plan q r)) two (or_from (is_scratch r) (is_some (saved_at plan q r)) scratch unsaved)))

    word_there : (offset n : ℕ) → n ≡ loaded t.memory (t.registers 2 + offset) 8 → Represents y (h.contents (h.point.at + offset)) n
    word_there offset n is = shown_same y (h.contents (h.point.at + offset)) (loaded t.memory (h.point.at + offset) 8) n
        (λ known. is ∙ ap (λ (at : ℕ). loaded t.memory (at + offset) 8) shows.holdings.frame) (shows.words.shown (h.point.at + offset))

    kept_at : (r : ℕ) → is_callee_saves r ≡ true → (o : Option ℕ) → saved_at plan q r ≡ o →
        Represents y (elim o [ Some offset ↦ h.contents (h.point.at + offset) | None ↦ h.point.kept r ]) (t'.registers r)
    kept_at r is (Some offset) at = word_there offset (t'.registers r) (leaves.restored r offset at)
    kept_at r is None at = shown_same y (h.point.kept r) (t.registers r) (t'.registers r)
        (λ known. still r (saved_differs r 1 is (omega arith)) (saved_differs r 2 is (omega arith)) (callee_saves_is_kept r is) (ap is_some at)) (shows.holdings.kept r is)

    pub left_shows : IsRepresented y rest s (record { point = behind plan h.contents q h.point; temps = none_known; contents = h.contents }) (without 1 store) carried t'
    left_shows = moved_shows h _ store carried 1 t t' shows leaves.memory refl
        (record {
          zero = still 0 refl refl refl (not_saved 0 refl) ∙ shows.holdings.zero;
          frame = leaves.frame ∙ ap (λ (at : ℕ). at + (plan.frame q).size) shows.holdings.frame;
          region = still 4 refl refl refl (not_saved 4 refl) ∙ shows.holdings.region;
          back = word_there (plan.frame q).return_at (t'.registers 1) leaves.back;
          kept = λ r is. kept_at r is (saved_at plan q r) refl;
          temps = λ r is. tt;
        })
        (λ i less. still (10 + i) (value_differs i 1 (omega arith)) (value_differs i 2 (omega arith)) (value_is_kept i less) (not_saved (10 + i) (value_not_saved i less)))
        (let here : frame_address s (drop 1 store.activations) ≡ frame_address s older = ap (λ (as_ : List Activation). frame_address s (drop 1 as_)) youngest in
        omega (arith, ends_at_next s m is_for store a older shows.stack youngest, here, shows.at, size))

  -- ---- control leaves, with its values brought

  -- to a procedure that is called: register 1 has the return address of the site
  pub called_shows : (h : Holdings) (store : Store) (values : List ℕ) (t t' : State) (q site : ℕ) → t'.registers 1 ≡ y.return_to q site → t'.memory ≡ t.memory →
      KeepsBut (λ r. (r == 1) || is_scratch r) t t' → IsRepresented y rest s h store values t →
      IsRepresented y rest s (record { point = record h.point { back = ReturnTo q site }; temps = none_known; contents = h.contents }) store values t'
  called_shows h store values t t' q site link same others shows = moved_shows h _ store values 0 t t' shows same refl
      (record {
        zero = others 0 refl ∙ shows.holdings.zero;
        frame = others 2 refl ∙ shows.holdings.frame;
        region = others 4 refl ∙ shows.holdings.region;
        back = link;
        kept = λ r is. shown_same y (h.point.kept r) (t.registers r) (t'.registers r)
            (λ known. others r (or_from (r == 1) (is_scratch r) (grind (arith, nat_tests, is)) (callee_saves_is_kept r is))) (shows.holdings.kept r is);
        temps = λ r is. tt;
      })
      (λ i less. others (10 + i) (or_from (10 + i == 1) (is_scratch (10 + i)) (grind (arith, nat_tests)) (grind (arith, nat_tests))))
      shows.at

  -- by a cut: register 2 has the address of an older frame, and no register is restored
  pub cut_shows : (h : Holdings) (store : Store) (values : List ℕ) (t t' : State) (at younger : ℕ) → t'.registers 2 ≡ at → t'.memory ≡ t.memory →
      KeepsBut (λ r. (r == 1) || ((r == 2) || is_scratch r)) t t' → at ≡ frame_address s (drop younger store.activations) → IsRepresented y rest s h store values t →
      IsRepresented y rest s (record { point = record { at = at; back = Unknown; kept = h.point.kept }; temps = none_known; contents = h.contents }) (without younger store) values t'
  cut_shows h store values t t' at younger frame same others is shows = moved_shows h _ store values younger t t' shows same refl
      (record {
        zero = others 0 refl ∙ shows.holdings.zero;
        frame = frame;
        region = others 4 refl ∙ shows.holdings.region;
        back = tt;
        kept = λ r saved. shown_same y (h.point.kept r) (t.registers r) (t'.registers r) (λ known. others r (apart r saved)) (shows.holdings.kept r saved);
        temps = λ r temp. tt;
      })
      (λ i less. others (10 + i) (grind (arith, nat_tests)))
      is
    where
      apart : (r : ℕ) → is_callee_saves r ≡ true → ((r == 1) || ((r == 2) || is_scratch r)) ≡ false
      apart r saved = or_from (r == 1) ((r == 2) || is_scratch r) (grind (arith, nat_tests, saved)) (or_from (r == 2) (is_scratch r) (grind (arith, nat_tests, saved)) (callee_saves_is_kept r saved))
