-- Statements that lack a mark, one behind the other.
use Rattle.std.proofs.Common.{◌≡◌, Bool, true, false, Option, Some, None, List, [], ◌∷◌, ◌++◌, ap, ◌∙◌}
use Rattle.cmm_program.specs.declared.expression.Condition.{Condition}
use Rattle.cmm_program.specs.declared.expression.Expression.{Expression}
use Rattle.cmm_program.specs.declared.statement.Arm.{Arm, Arm', out-Arm}
use Rattle.cmm_program.specs.declared.statement.Form.{Form}
use Rattle.cmm_program.specs.declared.statement.Form.TheVariants as form
use Rattle.cmm_program.specs.declared.statement.Statement.{Statement}
use Rattle.cmm_program.specs.Bodies.{Mark, after_in, after_inside, first_of_two, is_mark, outward}
use Rattle.cmm_flow.specs.inside.Marks.{after_arms, after_list}
use Rattle.cmm_flow.proofs.Blocks.{after_arm, after_if, after_span, after_switch, no_mark_if, no_mark_span, no_mark_switch}

module _ (mark : Mark) where
  pub lacked_more : (xs : List Statement) (x : Statement) → after_list mark xs ≡ None → is_mark mark x.form ≡ false → after_inside mark x.form ≡ None →
      after_list mark (xs ++ x ∷ []) ≡ None
  lacked_more [] x none other inside =
      ap (λ b. elim b as (λ _. Option (List Statement)) [ true ↦ Some [] | false ↦ first_of_two (outward (after_inside mark x.form) []) None ]) other
      ∙ ap (λ o. first_of_two (outward o []) None) inside
  lacked_more (y ∷ ys) x none other inside =
      by (λ none. lacked_more ys x none other inside) (is_mark mark y.form) (after_inside mark y.form) none
    where
      by : (after_list mark ys ≡ None → after_list mark (ys ++ x ∷ []) ≡ None) → (b : Bool) (o : Option (List Statement)) →
          elim b as (λ _. Option (List Statement)) [ true ↦ Some ys | false ↦ first_of_two (outward o ys) (after_list mark ys) ] ≡ None →
          elim b as (λ _. Option (List Statement)) [
            | true ↦ Some (ys ++ x ∷ [])
            | false ↦ first_of_two (outward o (ys ++ x ∷ [])) (after_list mark (ys ++ x ∷ []))
          ] ≡ None
      by later true o none = absurd (cc)
      by later false (Some inner) none = absurd (cc)
      by later false None none = later none

  pub lacked_arms_more : (arms : List Arm) (a : Arm) → after_arms mark arms ≡ None → after_list mark (out-Arm a).body ≡ None →
      after_arms mark (arms ++ a ∷ []) ≡ None
  lacked_arms_more [] a none body = after_arm mark a [] ∙ ap (λ o. first_of_two o None) body
  lacked_arms_more (Arm' case x body_ ∷ arms) a none body = by (λ none. lacked_arms_more arms a none body) (after_in mark body_) none
    where
      by : (after_arms mark arms ≡ None → after_arms mark (arms ++ a ∷ []) ≡ None) → (o : Option (List Statement)) → first_of_two o (after_arms mark arms) ≡ None → first_of_two o (after_arms mark (arms ++ a ∷ [])) ≡ None
      by later (Some inner) none = absurd (cc)
      by later None none = later none

  -- ---- statements with blocks

  abbrev pub Lacks : Form → Type 0
  Lacks form = (is_mark mark form ≡ false) × (after_inside mark form ≡ None)

  pub lacks_if : (condition : Condition) (then_ otherwise : List Statement) → after_list mark then_ ≡ None → after_list mark otherwise ≡ None →
      Lacks (form.If condition then_ otherwise)
  lacks_if condition then_ otherwise first second = (
    no_mark_if mark condition then_ otherwise,
    after_if mark condition then_ otherwise ∙ ap (λ o. first_of_two o (after_list mark otherwise)) first ∙ second,
  )

  pub lacks_switch : (value : Expression) (arms : List Arm) → after_arms mark arms ≡ None → Lacks (form.Switch value arms)
  lacks_switch value arms none = (no_mark_switch mark value arms, after_switch mark value arms ∙ none)

  pub lacks_span : (body : List Statement) → after_list mark body ≡ None → Lacks (form.Span body)
  lacks_span body none = (no_mark_span mark body, after_span mark body ∙ none)
