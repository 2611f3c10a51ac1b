-- The pieces with which a run begins.
use Rattle.std.proofs.Common.{◌≡◌, ℕ, ◌+◌, sym, ◌∙◌, ap, subst, append-nil, true, false, List, [], ◌∷◌, ◌++◌, length, set}
use Rattle.std.specs.Prelude.{◌==◌, ◌||◌}
use Rattle.rv_asm.specs.Appending.{Appends}
use Rattle.rv_asm.specs.Parts.{Code, Does}
use Rattle.rv_asm.specs.declared.part.Label.{Label}
use Rattle.rv_asm.specs.declared.part.Meaning.{Meaning}
use Rattle.rv_asm.specs.declared.part.Meaning.TheVariants.{Inner, Outer}
use Rattle.rv_asm.specs.declared.part.Part.{Part}
use Rattle.rv_asm.specs.declared.part.Part.TheVariants.{Call, Place, Single}
use Rattle.rv_asm.proofs.Shared.{appends_one}
use Rattle.rv_table.specs.declared.instruction.Instr.TheVariants.{Ebreak}
use Rattle.cmm_effects.proofs.Shared.{reaches_more}
use Rattle.cmm_abi.specs.Registers.{is_scratch}
use Rattle.cmm_emit.specs.Starts.{BeginsBy, CallsMain, last_label, main_label, start_labels}

other_than : (r : ℕ) → ((r == 1) || is_scratch r) ≡ false → r ≡ 1 → ⊥
other_than r is same = let e : true ≡ false = subst (λ (k : ℕ). ((k == 1) || is_scratch k) ≡ false) same is in absurd (cc)

-- a call behind which a label has its place
pub calls_main : (x : Code) (main last : Label) (from mid to : ℕ) → Does x (Call main) from mid → Does x (Place last) mid to → CallsMain main last x from
calls_main x main last from mid to call place = record {
  go = λ s sound at p.
      reaches_more (call s at)
      (λ t gives. (gives.pc, (gives.given ∙ sym place.1, (λ r is. gives.registers r (other_than r is)), gives.memory)));
}

-- a word behind
pub closing : (old new : List Part) → new ≡ old ++ Single Ebreak ∷ [] → Appends old new (λ x from to. Does x (Single Ebreak) from to)
closing old new is = subst (λ (ps : List Part). Appends old ps (λ x from to. Does x (Single Ebreak) from to)) (sym is) (appends_one old (Single Ebreak))

-- ---- the code with which a run begins

-- its labels: that of `main`, and then that behind the call, which has its place
module _ (none one two new : List Meaning) (main last : Label) (is_none : none ≡ []) (is_one : one ≡ none ++ Outer 0 true ∷ []) (is_two : two ≡ one ++ Inner false ∷ [])
    (is_main : main.number ≡ length none) (is_last : last.number ≡ length one) where
  with_main : one ≡ Outer 0 true ∷ []
  with_main = is_one ∙ ap (λ (ms : List Meaning). ms ++ Outer 0 true ∷ []) is_none

  with_last : two ≡ Outer 0 true ∷ (Inner false ∷ [])
  with_last = is_two ∙ ap (λ (ms : List Meaning). ms ++ Inner false ∷ []) with_main

  pub main_is : main ≡ main_label
  main_is = ap (λ (n : ℕ). record { number = n }) (is_main ∙ ap (λ (ms : List Meaning). length ms) is_none)

  pub last_is : last ≡ last_label
  last_is = ap (λ (n : ℕ). record { number = n }) (is_last ∙ ap (λ (ms : List Meaning). length ms) with_main)

  pub labels_are : new ≡ set two last.number (Inner true) → new ≡ start_labels
  labels_are is_new =
      is_new ∙ (ap (λ (l : Label). set two l.number (Inner true)) last_is ∙ ap (λ (ms : List Meaning). set ms 1 (Inner true)) with_last)

-- it begins with the call
pub begins : (main last : Label) (old new : List Part) → old ≡ [] → main ≡ main_label → last ≡ last_label → Appends old new (λ x from to. CallsMain main last x from) →
    BeginsBy main_label last_label new
begins main last old new none is_main is_last calls =
    subst (λ (l : Label). BeginsBy main_label l new) is_last (subst (λ (l : Label). BeginsBy l last new) is_main (record {
      piece = calls.parts;
      rest = [];
      is = calls.added ∙ (ap (λ (ps : List Part). ps ++ calls.parts) none ∙ sym (append-nil calls.parts));
      calls = calls.so;
    }))
