-- The code of the small program, by its pieces.
use Rattle.std.proofs.Common.{◌≡◌, ℕ, subst, [], ◌∷◌}
use Rattle.cmm_chain.specs.declared.frame.Frame.{Frame}
use Rattle.rv_asm.specs.Appending.{Then}
use Rattle.rv_asm.specs.Parts.{Code, Does}
use Rattle.rv_asm.specs.declared.part.Label.{Label}
use Rattle.rv_asm.specs.declared.part.Part.TheVariants.{Place}
use Rattle.rv_table.specs.Machine.{State}
use Rattle.rv_table.specs.declared.request.Request.{Request}
use Rattle.rv_table.specs.declared.request.Request.TheVariants.{StackLimit}
use Rattle.cmm_select.specs.declared.operand.Operand.TheVariants.{Held}
use Rattle.cmm_select.specs.declared.source.Source.TheVariants.{Number}
use Rattle.cmm_calls.specs.Values.{Begins, ReturnsValues}
use Rattle.cmm_emit_laws.specs.Examples.{ReturnsSeven}
use Rattle.cmm_effects.specs.Requests.{AsksFor}
use Rattle.cmm_emit_laws.specs.Starting.{BeginsRun}

-- what is requested at a label is requested where it is placed
pub at_label : (x : Code) (l : Label) (from to : ℕ) (asked : State → Request) → Does x (Place l) from to → AsksFor 1 asked x to → AsksFor 1 asked x (x.at l.number)
at_label x l from to asked place asks =
    let e : to ≡ from = place.0 in
    let g : x.at l.number ≡ from = place.1 in
    subst (AsksFor 1 asked x) (cc) asks

pub returns_seven : (f : Frame) (main limit : Label) (x : Code) (from to : ℕ) →
    Then (λ x from to. BeginsRun main x from) (Then (λ x from to. Does x (Place main) from to)
    (Then (Begins f [] [] [] limit) (Then (λ x from to. ReturnsValues f (Held (Number 7) ∷ []) 0 x from)
    (Then (λ x from to. Does x (Place limit) from to) (λ x from to. AsksFor 1 (λ t. StackLimit) x from))))) x from to →
    ReturnsSeven f main limit x from to
returns_seven f main limit x from to (a, starts, (b, main_place, (mid, begins, (d, returns, (e, limit_place, limit_asks))))) = record {
  starts = starts;
  mid = mid;
  begins =
      let here : b ≡ a = main_place.0 in
      let there : x.at main.number ≡ a = main_place.1 in
      subst (λ (n : ℕ). Begins f [] [] [] limit x n mid) (cc) begins;
  returns = returns;
  limits = at_label x limit d e (λ t. StackLimit) limit_place limit_asks;
}
