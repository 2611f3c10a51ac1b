-- The code of the program that yields, by its pieces.
use Rattle.std.proofs.Common.{◌≡◌, ℕ, sym, ◌∙◌, subst, [], ◌∷◌}
use Rattle.cmm_chain.specs.declared.frame.Frame.{Frame}
use Rattle.rv_asm.specs.Appending.{Then}
use Rattle.rv_asm.specs.Parts.{Code, Does}
use Rattle.rv_asm.specs.declared.part.Label.{Label}
use Rattle.rv_asm.specs.declared.part.Part.TheVariants.{Jump, Place}
use Rattle.rv_table.specs.declared.request.Request.TheVariants.{StackLimit, Yield}
use Rattle.cmm_effects.proofs.Shared.{turns_jump}
use Rattle.cmm_effects.specs.Requests.{AsksFor}
use Rattle.cmm_select.specs.declared.operand.Operand.TheVariants.{Held}
use Rattle.cmm_select.specs.declared.source.Source.TheVariants.{Number}
use Rattle.cmm_calls.specs.Calls.{Calls, HasExits}
use Rattle.cmm_calls.specs.Values.{Begins, ReturnsValues}
use Rattle.cmm_emit_laws.proofs.Shared.{at_label, placed_at}
use Rattle.cmm_emit_laws.specs.Starting.{BeginsRun}
use Rattle.cmm_yield_laws.specs.Examples.{YieldsOnce}

pub yields_once : (f : Frame) (main client site behind limit : Label) (x : Code) (from to : ℕ) →
    Then (λ x from to. BeginsRun main x from) (Then (λ x from to. Does x (Place main) from to)
    (Then (Begins f [] [] [] limit) (Then (Calls f (Held (Number 7) ∷ []) client site) (Then (HasExits []) (Then (λ x from to. Does x (Jump behind) from to)
    (Then (λ x from to. Does x (Place behind) from to) (Then (λ x from to. ReturnsValues f (Held (Number 7) ∷ []) 0 x from)
    (Then (λ x from to. Does x (Place client) from to) (Then (λ x from to. AsksFor 1 (λ t. Yield) x from)
    (Then (λ x from to. Does x (Place limit) from to) (λ x from to. AsksFor 1 (λ t. StackLimit) x from))))))))))) x from to →
    YieldsOnce f main client site behind limit x from to
yields_once f main client site behind limit x from to (
  a,
  starts,
  (
    b,
    main_place,
    (
      entered,
      begins,
      (
        called,
        calls,
        (
          landing,
          table,
          (
            c,
            jump,
            (
              d,
              behind_place,
              (
                e,
                returns,
                (
                  g,
                  client_place,
                  (
                    h,
                    asks,
                    (i, limit_place, limits),
                  ),
                ),
              ),
            ),
          ),
        ),
      ),
    ),
  ),
) = record {
  starts = starts;
  entered = entered;
  begins = subst (λ (n : ℕ). Begins f [] [] [] limit x n entered) (placed_at x main a b main_place) begins;
  called = called;
  calls = calls;
  landing = landing;
  table = table;
  copies = turns_jump x landing c behind jump;
  returns = subst (ReturnsValues f (Held (Number 7) ∷ []) 0 x) (placed_at x behind c d behind_place) returns;
  limits = at_label x limit h i (λ t. StackLimit) limit_place limits;
  asks = subst (AsksFor 1 (λ t. Yield) x) (placed_at x client e g client_place) asks;
}
