use Rattle.std.proofs.Common.{List, ℕ, [], ◌∷◌, ◌∙◌, refl, subst}
use Rattle.std.specs.Prelude.{codes}
use Rattle.cmm_compile.specs.Refusing.{IsRefused}
use Rattle.cmm_front.specs.Refusing.{IsFaultOf}
use Rattle.cmm_generated.specs.Generated.{generated}
use Rattle.cmm_top.proofs.Refusing.{is_refused}
use Rattle.cmm_top.proofs.generating.compiled.Goals as goal

pub returns-clause-err : goal.returns-clause-err
returns-clause-err c = λ o.
    is_refused (codes "generated" ∷ []) (IsFaultOf (generated c.args.number ∷ [])) o o c.in-Err-compile_program.fault c.refusal.result refl c.refusal.ensures
    (subst (λ (unit : List ℕ). IsRefused (IsFaultOf (unit ∷ [])) c.in-Err-compile_program.fault) (c.from_vec-unit.ensures ∙ c.in-Ok.ensures) c.in-Err-compile_program.ensures.err)
