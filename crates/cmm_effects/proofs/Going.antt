-- Pieces behind which control goes one way or another.
use Rattle.std.proofs.Common.{◌≡◌, ℕ, ◌+◌, ◌≤◌, refl, sym, ◌∙◌, ap, arith}
use Rattle.std.specs.Prelude.{Bool, true, false}
use Rattle.rv_asm.proofs.Shared.{reaches_then, reaches_weaker}
use Rattle.rv_asm.specs.Parts.{Code, way}
use Rattle.rv_asm.specs.Reaching.{Reaches}
use Rattle.rv_table.specs.Bounds.{IsSound}
use Rattle.rv_table.specs.Machine.{MemoryMap, State}
use Rattle.cmm_effects.proofs.Following.{reaches_more, reaches_sound}
use Rattle.cmm_effects.specs.Pieces.{Always, Leads}
use Rattle.cmm_effects.specs.Ways.{Goes, Turns}

-- a piece, and then one that goes some way
pub leads_turns : {x : Code} {from mid a b l : ℕ} {P R : MemoryMap → State → Type 0} {Q S : State → State → Type 0} {there : State → ℕ} → Leads a P Q x from mid →
    Goes l b R there S x mid → ((s t : State) → IsSound s → IsSound t → P x.map s → Q s t → R x.map t) → (far : State → ℕ) →
    ((s t : State) → P x.map s → Q s t → there t ≡ far s) → Turns (a + b) P far (λ s u. (t : State) × Q s t × S t u) x from
leads_turns {x = x} {S = S} first second meets far same = record {
  quiet = first.quiet;
  goes = record {
    go = λ s sound at p.
        reaches_weaker
        (reaches_then (reaches_sound (first.runs.go s sound at p) sound)
        (λ t there. reaches_more (second.go t there.1 there.0.0 (meets s t sound there.1 p there.0.1))
        (λ u arrived. (arrived.0 ∙ same s t p there.0.1, (t, there.0.1, arrived.1)))))
        (omega arith) (omega arith) (λ u arrived. arrived);
  };
}

pub turns_weaker : {x : Code} {from a b : ℕ} {P R : MemoryMap → State → Type 0} {Q S : State → State → Type 0} {there : State → ℕ} → Turns a P there Q x from → a ≤ b →
    ((s : State) → IsSound s → R x.map s → P x.map s) → ((s t : State) → R x.map s → Q s t → S s t) → Turns b R there S x from
turns_weaker first most less more = record {
  quiet = first.quiet;
  goes = record {
    go = λ s sound at r. reaches_weaker (first.goes.go s sound at (less s sound r)) (omega arith) most (λ t arrived. (arrived.0, more s t r arrived.1));
  };
}

-- no instruction at all
pub goes_none : {x : Code} {from to most : ℕ} {Q : State → State → Type 0} → from ≡ to → ((s : State) → Q s s) → Goes 0 most Always (λ s. to) Q x from
goes_none is same = record {
  go = λ s sound at p. record {
    count = 0;
    to = s;
    enough = omega arith;
    few = omega arith;
    runs = refl;
    arrives = (at ∙ is, same s);
  };
}

-- as many instructions or more, to an address that is the same
pub goes_weaker : {x : Code} {from l a k b : ℕ} {P : MemoryMap → State → Type 0} {Q S : State → State → Type 0} {there : State → ℕ} → Goes l a P there Q x from → k ≤ l → a ≤ b →
    (far : State → ℕ) → ((s : State) → IsSound s → there s ≡ far s) → ((s t : State) → Q s t → S s t) → Goes k b P far S x from
goes_weaker first few most far same more = record {
  go = λ s sound at p. reaches_weaker (first.go s sound at p) few most (λ t arrived. (arrived.0 ∙ same s sound, more s t arrived.1));
}

-- a piece goes to one address where a test passes, and on otherwise, where another goes to the second address, which what the first leaves as
-- it is tells
pub goes_choice : {x : Code} {from a b : ℕ} {Q : State → State → Type 0} (mid : ℕ) (p : State → Bool) (f g : State → ℕ) → ((s t u : State) → Q s t → Q t u → Q s u) →
    ((s t : State) → Q s t → g t ≡ g s) → Goes 0 a Always (λ s. way (p s) (f s) mid) Q x from → Goes 0 b Always g Q x mid →
    Goes 0 (a + b) Always (λ s. way (p s) (f s) (g s)) Q x from
goes_choice {x = x} {a = a} {b = b} {Q = Q} mid p f g join same first second = record { go = λ s sound at always. by s sound (p s) refl (first.go s sound at always) }
  where
    by : (s : State) → IsSound s → (test : Bool) → p s ≡ test → Reaches x.map 0 a s (λ t. (t.pc ≡ way (p s) (f s) mid) × Q s t) →
        Reaches x.map 0 (a + b) s (λ t. (t.pc ≡ way (p s) (f s) (g s)) × Q s t)
    by s sound true is reaches =
        reaches_weaker reaches (omega arith) (omega arith)
        (λ t arrived. (arrived.0 ∙ ap (λ (h : Bool). way h (f s) mid) is ∙ sym (ap (λ (h : Bool). way h (f s) (g s)) is), arrived.1))
    by s sound false is reaches =
        reaches_weaker
        (reaches_then (reaches_sound reaches sound)
        (λ t arrived. reaches_more (second.go t arrived.1 (arrived.0.0 ∙ ap (λ (h : Bool). way h (f s) mid) is) tt)
        (λ u last. (
          last.0 ∙ same s t arrived.0.1 ∙ sym (ap (λ (h : Bool). way h (f s) (g s)) is),
          join s t u arrived.0.1 last.1,
        ))))
        (omega arith) (omega arith) (λ u arrived. arrived)
