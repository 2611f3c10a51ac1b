-- What names mean in a procedure that declares them as variables or continuations.
use Rattle.std.proofs.Common.{◌≡◌, refl, ap, ◌∙◌, subst, ℕ, suc, Bool, false, List, [], ◌∷◌, ◌++◌, map, Option, Some, None, arith}
use Rattle.std.specs.Prelude.{IsTrue, flat_map, IfOk, Result}
use Rattle.std.specs.List.{All}
use Rattle.cmm_ast.specs.declared.statement.Kinded.{Kinded}
use Rattle.cmm_ast.specs.declared.statement.Part.{Part}
use Rattle.cmm_ast.specs.declared.statement.Part.TheVariants as parts
use Rattle.cmm_ast.specs.declared.statement.StmtForm.{StmtForm}
use Rattle.cmm_ast.specs.declared.statement.StmtForm.TheVariants as stmts
use Rattle.cmm_program.specs.declared.procedure.Cont.{Cont}
use Rattle.cmm_static_semantics.specs.declared.sense.Sense.{Sense}
use Rattle.cmm_static_semantics.specs.Declarations.{Local, Variable, Room, Label, Continuation, found, is_declared, is_continuation, is_variable, number_in}
use Rattle.cmm_static_semantics.specs.Scopes.{Scope, local_sense, senses}
use Rattle.cmm_elaboration.specs.Procedures as meaning
use Rattle.cmm_lower_parts.specs.Owned.{AreVariables, FormTakesVariables, TakesVariables}
use Rattle.cmm_lower_parts.specs.inside.Numbers.{form_conts, numbered, part_conts}

module _ (s : Scope) where
  pub variable_numbered : (name : List ℕ) → IsTrue (is_declared is_variable name s.own) → numbered (senses s name) ≡ number_in is_variable name s.own
  variable_numbered name = by (found name s.own)
    where
      by : (o : Option Local) → IsTrue (elim o as (λ _. Bool) [ Some a ↦ is_variable a | None ↦ false ]) →
          numbered (elim o as (λ _. Option Sense) [ Some l ↦ Some (local_sense s name l) | None ↦ s.outer name ]) ≡ number_in is_variable name s.own
      by (Some (Variable t)) yes_ = refl
      by (Some Room) yes_ = cc
      by (Some Label) yes_ = cc
      by (Some Continuation) yes_ = cc
      by None yes_ = cc

  pub continuation_numbered : (name : List ℕ) → IsTrue (is_declared is_continuation name s.own) → numbered (senses s name) ≡ number_in is_continuation name s.own
  continuation_numbered name = by (found name s.own)
    where
      by : (o : Option Local) → IsTrue (elim o as (λ _. Bool) [ Some a ↦ is_continuation a | None ↦ false ]) →
          numbered (elim o as (λ _. Option Sense) [ Some l ↦ Some (local_sense s name l) | None ↦ s.outer name ]) ≡ number_in is_continuation name s.own
      by (Some Continuation) yes_ = refl
      by (Some Room) yes_ = cc
      by (Some Label) yes_ = cc
      by (Some (Variable t)) yes_ = cc
      by None yes_ = cc

  -- ---- continuations

  parameters_same : (parameters : List Kinded) → AreVariables s parameters → map (λ k. numbered (senses s k.name.name)) parameters ≡ map (meaning.parameter_of s) parameters
  parameters_same [] all = refl
  parameters_same (k ∷ ks) all =
      ap (λ n. n ∷ map (λ j. numbered (senses s j.name.name)) ks) (variable_numbered k.name.name (all 0 k (omega arith)))
      ∙ ap (λ ns. meaning.parameter_of s k ∷ ns) (parameters_same ks (λ i d inside. all (suc i) d (omega (arith, inside))))

  form_same : (form : StmtForm) → FormTakesVariables s form → form_conts (senses s) form ≡ meaning.form_conts s form
  form_same (stmts.Continuation name parameters) takes = ap (λ (ns : List ℕ). record { params = ns } ∷ []) (parameters_same parameters takes)
  form_same stmts.Empty takes = refl
  form_same (stmts.If' condition _ body otherwise) takes = refl
  form_same (stmts.Switch' range value _ arms) takes = refl
  form_same (stmts.Span' key value _ body) takes = refl
  form_same (stmts.Assign to values) takes = refl
  form_same (stmts.Checked result operator left right flows) takes = refl
  form_same (stmts.Call results convention callee actuals flows) takes = refl
  form_same (stmts.Jump callee actuals) takes = refl
  form_same (stmts.Return exit values) takes = refl
  form_same (stmts.Label name) takes = refl
  form_same (stmts.Goto name) takes = refl
  form_same (stmts.Cut callee actuals flows) takes = refl

  part_same : (p : Part) → TakesVariables s p → part_conts (senses s) p ≡ meaning.part_conts s p
  part_same (parts.Local l) takes = refl
  part_same (parts.Stmt' first past form) takes = form_same form takes

  pub conts_same : (ps : List Part) → All (TakesVariables s) ps → flat_map (part_conts (senses s)) ps ≡ flat_map (meaning.part_conts s) ps
  conts_same [] all = refl
  conts_same (p ∷ ps) all =
      ap (λ (cs : List Cont). cs ++ flat_map (part_conts (senses s)) ps) (part_same p (all 0 p (omega arith)))
      ∙ ap (λ (cs : List Cont). meaning.part_conts s p ++ cs) (conts_same ps (λ i d inside. all (suc i) d (omega (arith, inside))))

-- what is answered is something else that is the same
pub if_same : {A E : Type 0} {x y : A} (r : Result A E) → IfOk r (λ a. a ≡ x) → x ≡ y → IfOk r (λ a. a ≡ y)
if_same r given same = subst (λ z. IfOk r (λ a. a ≡ z)) same given
