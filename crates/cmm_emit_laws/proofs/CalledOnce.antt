-- The code of the program with a call, by its pieces.
use Rattle.std.proofs.Common.{◌≡◌, ℕ, sym, ◌∙◌, subst, [], ◌∷◌}
use Rattle.cmm_chain.specs.declared.frame.Frame.{Frame}
use Rattle.rv_asm.specs.Appending.{Then}
use Rattle.rv_asm.specs.Parts.{Code, Does}
use Rattle.rv_asm.specs.declared.part.Label.{Label}
use Rattle.rv_asm.specs.declared.part.Part.TheVariants.{Jump, Place}
use Rattle.rv_table.specs.declared.request.Request.TheVariants.{StackLimit}
use Rattle.cmm_effects.proofs.Shared.{turns_jump}
use Rattle.cmm_select.specs.declared.operand.Operand.TheVariants.{Held}
use Rattle.cmm_select.specs.declared.source.Source.TheVariants.{Number}
use Rattle.cmm_calls.specs.Calls.{Calls, HasExits}
use Rattle.cmm_calls.specs.Values.{Begins, ReturnsValues}
use Rattle.cmm_emit_laws.proofs.ReturnedSeven.{at_label}
use Rattle.cmm_emit_laws.specs.Examples.{CallsOnce}
use Rattle.cmm_effects.specs.Requests.{AsksFor}
use Rattle.cmm_emit_laws.specs.Starting.{BeginsRun}

-- where a label is placed, control goes on
pub placed_at : (x : Code) (l : Label) (from to : ℕ) → Does x (Place l) from to → to ≡ x.at l.number
placed_at x l from to place = place.0 ∙ sym place.1

pub calls_once : (f : Frame) (main callee site behind limit : Label) (x : Code) (from to : ℕ) →
    Then (λ x from to. BeginsRun main x from) (Then (λ x from to. Does x (Place main) from to)
    (Then (Begins f [] [] [] limit) (Then (Calls f [] callee site) (Then (HasExits []) (Then (λ x from to. Does x (Jump behind) from to)
    (Then (λ x from to. Does x (Place behind) from to) (Then (λ x from to. ReturnsValues f (Held (Number 7) ∷ []) 0 x from)
    (Then (λ x from to. Does x (Place callee) from to) (Then (Begins f [] [] [] limit) (Then (λ x from to. ReturnsValues f [] 0 x from)
    (Then (λ x from to. Does x (Place limit) from to) (λ x from to. AsksFor 1 (λ t. StackLimit) x from)))))))))))) x from to →
    CallsOnce f main callee site behind limit x from to
calls_once f main callee site behind limit x from to (
  a,
  starts,
  (
    b,
    main_place,
    (
      entered,
      begins,
      (
        called,
        calls,
        (
          landing,
          table,
          (
            c,
            jump,
            (
              d,
              behind_place,
              (
                e,
                returns,
                (
                  g,
                  callee_place,
                  (
                    inside,
                    enters,
                    (
                      h,
                      goes_back,
                      (i, limit_place, asks),
                    ),
                  ),
                ),
              ),
            ),
          ),
        ),
      ),
    ),
  ),
) = record {
  starts = starts;
  entered = entered;
  begins = subst (λ (n : ℕ). Begins f [] [] [] limit x n entered) (placed_at x main a b main_place) begins;
  called = called;
  calls = calls;
  landing = landing;
  table = table;
  copies = turns_jump x landing c behind jump;
  returns = subst (ReturnsValues f (Held (Number 7) ∷ []) 0 x) (placed_at x behind c d behind_place) returns;
  inside = inside;
  enters = subst (λ (n : ℕ). Begins f [] [] [] limit x n inside) (placed_at x callee e g callee_place) enters;
  goes_back = goes_back;
  limits = at_label x limit h i (λ t. StackLimit) limit_place asks;
}
