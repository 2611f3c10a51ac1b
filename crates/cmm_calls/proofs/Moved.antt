-- Numbers go from registers to registers.
use Rattle.std.proofs.lemmas.Bool.{or_parts, and_parts, not-false}
use Rattle.std.proofs.Common.{◌≡◌, ◌≢◌, inl, inr, ℕ, zero, suc, ◌+◌, ◌*◌, ◌<◌, ◌≤◌, true, false, List, [], ◌∷◌, ◌++◌, length, take, get_or, refl, sym, ◌∙◌, ap, subst, arith, pos}
use Rattle.std.specs.Prelude.{◌==◌, ◌&&◌, not, Bool, if◌then◌else◌}
use Rattle.std.proofs.lemmas.Bool.Decides.{nat_tests}
use Rattle.std.proofs.lemmas.List.{take_more}
use Rattle.cmm_moves.specs.Moves.{at_once, given, in_order, is_outside, is_target}
use Rattle.cmm_moves.specs.declared.sequencing.Move.{Move}
use Rattle.rv_asm.specs.Parts.{Code}
use Rattle.rv_asm.specs.declared.part.Part.{Part}
use Rattle.rv_table.specs.Bounds.{IsSound}
use Rattle.rv_table.specs.Machine.{MemoryMap, State}
use Rattle.rv_table.specs.Words.{modulo, sum}
use Rattle.rv_table.specs.declared.instruction.Instr.TheVariants.{Addi}
use Rattle.cmm_effects.proofs.Shared.{adds_none, adds_then, adds_weaker, leads_set, leads_weaker, runs_none, runs_then, runs_weaker}
use Rattle.cmm_effects.specs.Changes.{Sets}
use Rattle.cmm_effects.specs.Pieces.{Adds, Always, BeginsQuietly, Leads}
use Rattle.cmm_select.proofs.Shared.{One, plus_none, set_as}
use Rattle.cmm_calls.proofs.Tests.{alike, itself}
use Rattle.cmm_calls.specs.Values.{Passes}
use Rattle.cmm_calls.specs.inside.Giving.{one_if}
use Rattle.cmm_calls.specs.inside.Moves.{MovesAtOnce, MovesInOrder, PassesBy, begins_moving, is_movable}

-- ---- pieces that may have no instruction

module _ {x : Code} {from mid to : ℕ} {P R : MemoryMap → State → Type 0} {Q S : State → State → Type 0} {l a b c : ℕ} where
  pub by_both : PassesBy l a P Q x from mid → PassesBy b c R S x mid to → ((s t : State) → IsSound s → IsSound t → P x.map s → Q s t → R x.map t) →
      PassesBy (l + b) (a + c) P (λ s u. (t : State) × Q s t × S t u) x from to
  by_both first second meets = record {
    begins = elim first.begins [
      | inl is ↦ elim second.begins [
        | inl same ↦ inl (is.0 ∙ same.0, omega (arith, is.1, same.1))
        | inr quiet ↦ inr (subst (λ (n : ℕ). BeginsQuietly x n) (sym is.0) quiet)
      ]
      | inr quiet ↦ inr quiet
    ];
    runs = runs_then {l = l} first.runs second.runs meets;
  }

module _ {x : Code} {from to : ℕ} {P R : MemoryMap → State → Type 0} {Q S : State → State → Type 0} {a b : ℕ} where
  pub by_weaker : {l k : ℕ} → PassesBy l a P Q x from to → k ≤ l → a ≤ b → ((s : State) → IsSound s → R x.map s → P x.map s) →
      ((s t : State) → IsSound s → R x.map s → Q s t → S s t) → PassesBy k b R S x from to
  by_weaker {l} {k} first least most less more = record {
    begins = elim first.begins [ inl is ↦ inl (is.0, omega (arith, is.1, least)) | inr quiet ↦ inr quiet ];
    runs = runs_weaker {l = l} {k = k} first.runs least most less more;
  }

  pub passes_weaker : Passes a P Q x from to → a ≤ b → ((s : State) → IsSound s → R x.map s → P x.map s) →
      ((s t : State) → IsSound s → R x.map s → Q s t → S s t) → Passes b R S x from to
  passes_weaker first most less more = record { begins = first.begins; runs = runs_weaker {l = 0} {k = 0} first.runs (omega arith) most less more }

module _ {x : Code} {from to : ℕ} {P : MemoryMap → State → Type 0} {Q : State → State → Type 0} {a : ℕ} where
  pub leads_by : {l : ℕ} → 1 ≤ l → PassesBy l a P Q x from to → Leads a P Q x from to
  leads_by {l} some first = record {
    quiet = elim first.begins [ inl is ↦ absurd (omega (arith, some, is.1)) | inr quiet ↦ quiet ];
    runs = runs_weaker {l = l} {k = 1} first.runs some (omega arith) (λ s sound has. has) (λ s t sound has is. is);
  }

  pub by_of : Leads a P Q x from to → PassesBy 1 a P Q x from to
  by_of leads = record { begins = inr leads.quiet; runs = leads.runs }

  pub by_passes : Passes a P Q x from to → PassesBy 0 a P Q x from to
  by_passes passes = record { begins = elim passes.begins [ inl is ↦ inl (is, refl) | inr quiet ↦ inr quiet ]; runs = passes.runs }

  pub passes_by : {l : ℕ} → PassesBy l a P Q x from to → Passes a P Q x from to
  passes_by {l} first = record {
    begins = elim first.begins [ inl is ↦ inl is.0 | inr quiet ↦ inr quiet ];
    runs = runs_weaker {l = l} {k = 0} first.runs (omega arith) (omega arith) (λ s sound has. has) (λ s t sound has is. is);
  }

module _ {x : Code} {from mid to : ℕ} {P R : MemoryMap → State → Type 0} {Q S : State → State → Type 0} {a b : ℕ} where
  pub passes_both : Passes a P Q x from mid → Passes b R S x mid to → ((s t : State) → IsSound s → IsSound t → P x.map s → Q s t → R x.map t) →
      Passes (a + b) P (λ s u. (t : State) × Q s t × S t u) x from to
  passes_both first second meets = passes_by (by_both (by_passes first) (by_passes second) meets)

-- ---- one move

pub movable : (r : ℕ) → is_movable r ≡ true → (r ≢ 0) × (r < 32)
movable r is = (grind (arith, nat_tests, is), grind (arith, nat_tests, is))

pub inside_at : (moves : List Move) (i : ℕ) (d : Move) → is_outside is_movable moves ≡ false → i < length moves →
    (is_movable (get_or moves i d).to ≡ true) × (is_movable (get_or moves i d).from ≡ true)
inside_at [] i d all within = absurd (omega (arith, within))
inside_at (m ∷ moves) zero d all within =
    (and_parts (is_movable m.to) (is_movable m.from) (not-false _ (or_parts (not (is_movable m.to && is_movable m.from)) (is_outside is_movable moves) all).0))
inside_at (m ∷ moves) (suc i) d all within =
    inside_at moves i d (or_parts (not (is_movable m.to && is_movable m.from)) (is_outside is_movable moves) all).1 (omega (arith, within))

pub moves_one : (x : Code) (r k from to : ℕ) → r ≢ 0 → One (Addi r k (pos 0)) x from to →
    Leads 1 Always (λ s t. Sets r (s.registers k) s t) x from to
moves_one x r k from to written does =
    leads_weaker (leads_set x (Addi r k (pos 0)) from to r (λ g. sum (g k) (modulo 64 (pos 0))) written (λ g pc. refl) does) (omega arith) (λ s sound p. tt)
    (λ s t sound p sets. set_as r (sum (s.registers k) (modulo 64 (pos 0))) (s.registers k) s t (plus_none (s.registers k) (sound.registers k)) sets)

-- ---- one after the other

in_order_then : (xs : List Move) (m : Move) (has : ℕ → ℕ) (r : ℕ) → in_order (xs ++ m ∷ []) has r ≡ given (in_order xs has) m.to (in_order xs has m.from) r
in_order_then [] m has r = refl
in_order_then (y ∷ xs) m has r = in_order_then xs m (given has y.to (has y.from)) r

moves_then : (xs : List Move) (m : Move) (s t u : State) → MovesInOrder xs s t → Sets m.to (t.registers m.from) t u → MovesInOrder (xs ++ m ∷ []) s u
moves_then xs m s t u first second = record {
  registers = λ r. by r (r == m.to) refl ∙ sym (in_order_then xs m s.registers r);
  memory = second.memory ∙ first.memory;
}
  where
    by : (r : ℕ) (b : Bool) → (r == m.to) ≡ b → u.registers r ≡ given (in_order xs s.registers) m.to (in_order xs s.registers m.from) r
    by r true is =
        ap u.registers (alike r m.to is) ∙ second.given ∙ first.registers m.from
        ∙ sym (ap (λ (c : Bool). if c then in_order xs s.registers m.from else in_order xs s.registers r) is)
    by r false is =
        second.others r is ∙ first.registers r ∙ sym (ap (λ (c : Bool). if c then in_order xs s.registers m.from else in_order xs s.registers r) is)

pub moves_none : (old : List Part) → Adds 0 old old (PassesBy 0 0 Always (MovesInOrder []))
moves_none old =
    adds_weaker (adds_none old) (omega arith)
    (λ x from to is. record { begins = inl (is, refl); runs = runs_none is (λ s sound has. record { registers = λ r. refl; memory = refl }) })

pub moves_more : (old mid new : List Part) (moves : List Move) (i : ℕ) (d : Move) → i < length moves → (get_or moves i d).to ≢ 0 →
    Adds i old mid (PassesBy i i Always (MovesInOrder (take i moves))) →
    Adds 1 mid new (λ x from to. One (Addi (get_or moves i d).to (get_or moves i d).from (pos 0)) x from to) →
    Adds (i + 1) old new (PassesBy (i + 1) (i + 1) Always (MovesInOrder (take (i + 1) moves)))
moves_more old mid new moves i d within written so_far more =
    let m = get_or moves i d in
    rw (take_more moves i d within)
    (adds_weaker (adds_then so_far more) (omega arith)
    (λ x from to does.
    by_weaker {l = i + 1} {k = i + 1}
    (by_both does.1 (by_of (moves_one x m.to m.from does.0 to written does.2)) (λ s t sound also p q. tt))
    (omega arith) (omega arith) (λ s sound p. tt)
    (λ s u sound p passed. moves_then (take i moves) m s passed.0 u passed.1 passed.2)))

-- ---- all at once

-- a first move to another register takes an instruction
least_moves : (moves done : List Move) → is_target 5 moves ≡ false → ((has : ℕ → ℕ) (r : ℕ) → r ≢ 5 → in_order done has r ≡ at_once moves has r) →
    one_if (begins_moving moves) ≤ length done
least_moves [] done clear same = omega arith
least_moves (m ∷ ms) (one ∷ done) clear same = few (not (m.to == m.from)) (length done)
  where
    few : (b : Bool) (n : ℕ) → one_if b ≤ suc n
    few true n = omega arith
    few false n = omega arith
least_moves (m ∷ ms) [] clear same = by (m.to == m.from) refl
  where
    apart : m.to ≢ 5
    apart e = let off = (or_parts (5 == m.to) (is_target 5 ms) clear).0 in grind (arith, nat_tests, off, e)

    there : m.to ≡ m.from
    there = same (λ n. n) m.to apart ∙ ap (λ (b : Bool). if b then m.from else at_once ms (λ n. n) m.to) (itself m.to)

    by : (b : Bool) → (m.to == m.from) ≡ b → one_if (not b) ≤ 0
    by true is = omega arith
    by false is = absurd (let yes : (m.to == m.from) ≡ true = ap (λ (n : ℕ). m.to == n) (sym there) ∙ itself m.to in cc (yes, is))

pub moves_all : (old new : List Part) (moves done : List Move) → is_target 5 moves ≡ false →
    ((has : ℕ → ℕ) (r : ℕ) → r ≢ 5 → in_order done has r ≡ at_once moves has r) → length done ≤ 2 * length moves →
    Adds (length done) old new (PassesBy (length done) (length done) Always (MovesInOrder done)) →
    Adds (2 * length moves) old new (PassesBy (one_if (begins_moving moves)) (2 * length moves) Always (MovesAtOnce moves))
moves_all old new moves done clear same few adds =
    adds_weaker adds few
    (λ x from to does.
    by_weaker {l = length done} {k = one_if (begins_moving moves)} does (least_moves moves done clear same) few (λ s sound p. tt)
    (λ s t sound p moved. record { registers = λ r other. moved.registers r ∙ same s.registers r other; memory = moved.memory }))
