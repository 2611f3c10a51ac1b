-- Landings as equations on the store.
use Rattle.std.proofs.Common.{◌≡◌, ℕ, List, [], ◌∷◌, None, slice_set, refl, ap, ◌∙◌, arith}
use Rattle.cmm_program.specs.declared.procedure.Target.{Target}
use Rattle.cmm_program.specs.declared.procedure.Target.TheVariants.{Variable, Register}
use Rattle.cmm_program.specs.Frames.{with_site}
use Rattle.cmm_program.specs.State.{Activation, Store}
use Rattle.cmm_program.specs.Writes.{all_assigned}
use Rattle.cmm_machine_laws.specs.Landings.{EnteringLands, ResumingLands, ReturningLands, TargetsTake, registers_after, variables_after}

pub entering_lands : EnteringLands
entering_lands s store n p values is = (λ site. grind (arith, is), grind (arith, is))

pub returning_lands : ReturningLands
returning_lands s store a values is = grind (arith, is)

pub resuming_lands : ResumingLands
resuming_lands s store a older p k c values are is has = grind (arith, are, is, has)

-- targets of the youngest activation take values from left to right
taken : (ts : List Target) (vs : List ℕ) (store : Store) (a : Activation) (older : List Activation) →
    all_assigned ts vs (record store { activations = a ∷ older }) ≡ record store {
      activations = record a { variables = variables_after ts vs a.variables } ∷ older;
      registers = registers_after ts vs store.registers;
    }
taken [] vs store a older = refl
taken (t ∷ ts) [] store a older = refl
taken (Variable n width ∷ ts) (v ∷ vs) store a older = taken ts vs store (record a { variables = slice_set a.variables n v }) older
taken (Register n width ∷ ts) (v ∷ vs) store a older = taken ts vs (record store { registers = slice_set store.registers n v }) a older

pub targets_take : TargetsTake
targets_take ts vs store a older are =
    let whole : store ≡ record store { activations = a ∷ older } = ap (λ as_. record store { activations = as_ }) are in
    ap (λ (after : Store). record after { activations = with_site None after.activations }) (ap (all_assigned ts vs) whole ∙ taken ts vs store a older)

pub ruleset laws = (entering_lands, returning_lands, resuming_lands, targets_take)
