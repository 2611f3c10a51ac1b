-- The numbers that statements have, where calls of the host and returns have none.
use Rattle.std.proofs.Common.{◌≡◌, ℕ, List, [], ◌∷◌, Option, Some, None}
use Rattle.std.specs.Prelude.{flat_map}
use Rattle.cmm_ast.specs.declared.statement.Exit.{Exit}
use Rattle.cmm_ast.specs.declared.statement.Kinded.{Kinded}
use Rattle.cmm_program.specs.declared.expression.Expression.{Expression}
use Rattle.cmm_program.specs.declared.procedure.Target.{Target}
use Rattle.cmm_program.specs.declared.statement.Form.{Form}
use Rattle.cmm_program.specs.declared.statement.Form.TheVariants as forms
use Rattle.cmm_program.specs.declared.statement.Statement.{Statement}
use Rattle.cmm_static_semantics.specs.declared.sense.Host.{Host}
use Rattle.cmm_static_semantics.specs.declared.sense.Host.TheVariants.{Yield, PutByte, GetByte}
use Rattle.cmm_static_semantics.specs.Scopes.{Scope}
use Rattle.cmm_elaboration.specs.Bodies.{host_form, return_form}

-- the numbers of some statements
abbrev pub numbers_in : (Form → List ℕ) → List Statement → List ℕ
numbers_in number ss = flat_map (λ st. number st.form) ss

module _ (number : Form → List ℕ) where
  pub host_number : ((x : Expression) → number (forms.PutByte x) ≡ []) → ((t : Target) → number (forms.GetByte t) ≡ []) → number forms.Empty ≡ [] →
      (s : Scope) (h : Option Host) (results : List Kinded) (values : List Expression) → number (host_form s h results values) ≡ []
  host_number put get empty s (Some PutByte) results [] = put _
  host_number put get empty s (Some PutByte) results (v ∷ vs) = put _
  host_number put get empty s (Some GetByte) [] values = empty
  host_number put get empty s (Some GetByte) (k ∷ ks) values = get _
  host_number put get empty s (Some Yield) results values = empty
  host_number put get empty s None results values = empty

  pub return_number : ((x n : ℕ) (es : List Expression) → number (forms.Return x n es) ≡ []) →
      (s : Scope) (exit : Option Exit) (values : List Expression) → number (return_form s exit values) ≡ []
  return_number none s None values = none _ _ _
  return_number none s (Some x) values = none _ _ _
