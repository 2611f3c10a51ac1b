-- Checked operators that break no rule: a division, of two operands of one width, whose result has a place of it.
use Rattle.std.proofs.Common.{◌≡◌, ℕ, refl, sym, ap, ◌∙◌, subst, Bool, true, false, List, [], Option, Some, None, Ok}
use Rattle.std.specs.Prelude.{option_map, ◌==◌}
use Rattle.cmm_words.specs.declared.width.Width.{Width}
use Rattle.cmm_words.specs.declared.operators.Op2.{Op2}
use Rattle.cmm_words.specs.Widths.{bits}
use Rattle.cmm_words.specs.Words.{is_division}
use Rattle.cmm_ast.specs.declared.token.Ident.{Ident}
use Rattle.cmm_ast.specs.declared.expression.Expr.{Expr}
use Rattle.cmm_program.specs.declared.procedure.Proc.{Proc}
use Rattle.cmm_program.specs.declared.program.Program.{Program}
use Rattle.cmm_program.specs.Orders.{target_width as resolved_width}
use Rattle.cmm_program.specs.Typing.{same_width, has_width}
use Rattle.cmm_rules.specs.declared.rule.Rule.TheVariants.{WidthsDiffer, UnknownOperator}
use Rattle.cmm_static_semantics.specs.declared.spot.Spot.{Spot}
use Rattle.cmm_static_semantics.specs.declared.operator.Operator.{Operator}
use Rattle.cmm_static_semantics.specs.declared.operator.Operator.TheVariants as operators
use Rattle.cmm_static_semantics.specs.declared.judged.Bits.{Bits}
use Rattle.cmm_static_semantics.specs.declared.judged.Typed.TheVariants as typed
use Rattle.cmm_static_semantics.specs.declared.judged.Operands.TheVariants as operands
use Rattle.cmm_static_semantics.specs.declared.known.Known.{Known}
use Rattle.cmm_static_semantics.specs.Spots.{at}
use Rattle.cmm_static_semantics.specs.Senses.{Senses, target_width}
use Rattle.cmm_static_semantics.specs.Operators.{operator_named, if_division, checked_named}
use Rattle.cmm_static_semantics.specs.Algebras.{knowns}
use Rattle.cmm_static_semantics.specs.Calls.{ident_spots}
use Rattle.cmm_static_semantics.specs.Judging.{with_ok, as_bits, as_wanted, of_width, spots, if_ok}
use Rattle.cmm_static_semantics.specs.Mentions.{values_alone, expr_names}
use Rattle.cmm_static_semantics.specs.Typing.{expr_type, operand_at, binary, applied, wanted, with_values}
use Rattle.cmm_static_semantics.specs.Expressions.{inner_spots}
use Rattle.cmm_static_semantics.specs.Scopes.{Scope, senses}
use Rattle.cmm_static_semantics.specs.Statements.{checked_type, result_fits, checked_spots}
use Rattle.cmm_elaboration.specs.Fitting.{NamesFit}
use Rattle.cmm_elaboration.specs.Resolving.{value_of, target_of}
use Rattle.cmm_elaboration.specs.Bodies.{value_width, width_or, division}
use Rattle.cmm_elaboration.proofs.Nothing.{no_left, no_right, no_unless}
use Rattle.cmm_elaboration.proofs.Judged.{same_bits}
use Rattle.cmm_elaboration.proofs.Widths.{own_width}
use Rattle.cmm_elaboration.proofs.Wide.{IsWide}
use Rattle.cmm_elaboration.proofs.Whole.{Whole, IsUnbroken, whole_both, TypedWhole, OperandWhole, operand_at_whole, applied_whole, expression_whole}
use Rattle.cmm_elaboration.proofs.Settled.{whole_ok}
use Rattle.cmm_elaboration.proofs.Datums.{all_unbroken}
use Rattle.cmm_elaboration.proofs.Values.{was_ok, ok_is, bits_from, wide_value}
use Rattle.cmm_elaboration.proofs.Assigning.{both_ok, operand_was, ident_place}

-- ---- the operator

record IsDivision (o : Option Operator) : Type 0 where
  pub op : Op2
  pub is : o ≡ Some (operators.Binary op)
  pub divides : is_division op ≡ true

by_division : (op : Op2) (b : Bool) → is_division op ≡ b →
    ◌≡◌ {A = List Spot} (elim (elim b as (λ x. Option Operator) [ true ↦ Some (operators.Binary op) | false ↦ None ]) as (λ x. List Spot) [ Some o ↦ [] | None ↦ at UnknownOperator 0 ]) [] →
    IsDivision (elim b as (λ x. Option Operator) [ true ↦ Some (operators.Binary op) | false ↦ None ])
by_division op true is free = record { op = op; is = refl; divides = is }
by_division op false is free = cc

-- at whatever token
no_token : (o : Option Operator) (token : ℕ) → ◌≡◌ {A = List Spot} (elim o as (λ x. List Spot) [ Some p ↦ [] | None ↦ at UnknownOperator token ]) [] →
    ◌≡◌ {A = List Spot} (elim o as (λ x. List Spot) [ Some p ↦ [] | None ↦ at UnknownOperator 0 ]) []
no_token (Some p) token free = refl
no_token None token free = cc

division_by : (o : Option Operator) → ◌≡◌ {A = List Spot} (elim (if_division o) as (λ x. List Spot) [ Some p ↦ [] | None ↦ at UnknownOperator 0 ]) [] → IsDivision (if_division o)
division_by (Some (operators.Binary op)) free = by_division op (is_division op) refl free
division_by (Some (operators.Unary op)) free = cc
division_by (Some (operators.Compare c)) free = cc
division_by (Some operators.Not) free = cc
division_by (Some operators.Conjoin) free = cc
division_by (Some operators.Disjoin) free = cc
division_by (Some (operators.SignExtend to)) free = cc
division_by (Some (operators.ZeroExtend to)) free = cc
division_by (Some (operators.LowBits to)) free = cc
division_by None free = cc

-- ---- its operands and its result

module _ (p : Program) (q : Proc) (s : Scope) (fit : NamesFit p q (senses s)) (wide : (name : List ℕ) → IsWide (senses s name)) (unbroken : (name : List ℕ) → IsUnbroken (senses s name)) where
  abbrev names : Senses
  names = senses s

  pub record IsChecked (result operator : Ident) (left right : Expr) : Type 0 where
    pub width : Width
    pub width_is : width_or (value_width s left) ≡ width
    pub divides : is_division (division (checked_named operator.name)) ≡ true
    pub left_has : has_width p q width (value_of names left) ≡ true
    pub right_has : has_width p q width (value_of names right) ≡ true
    pub result_has : same_width (resolved_width (target_of names result)) width ≡ true

  fits_result : (token : ℕ) (o : Option Width) (w v : Width) (x : Bits Known) → o ≡ Some w → x.width ≡ v → result_fits o (Ok (typed.Bits x)) ≡ true → same_width w v ≡ true
  fits_result token o w v x is same fits =
      let here : (bits x.width == bits w) ≡ true = subst (λ t. result_fits t (Ok (typed.Bits x)) ≡ true) is fits in
      subst (λ u. same_width w u ≡ true) (sym (same_bits x.width w here) ∙ same) (own_width w)

  pub checked_there : (result operator : Ident) (left right : Expr) → checked_spots s result operator left right ≡ [] → IsChecked result operator left right
  checked_there result operator left right free =
      let t = checked_type names operator left right in
      let fits = no_unless (result_fits (target_width (names result.name)) t) WidthsDiffer operator.token (no_right _ _ free) in
      let a = no_left _ _ free in let inner_right = no_right _ (inner_spots names right) a in
      let b = no_left _ (inner_spots names right) a in let inner_left = no_right _ (inner_spots names left) b in
      let c = no_left _ (inner_spots names left) b in let own = no_right _ (spots t) c in
      let d = no_left _ (spots t) c in
      let o = division_by (operator_named operator.name) (no_token (checked_named operator.name) operator.token (no_right (ident_spots s result) _ d)) in
      let place = ident_place p q s fit wide unbroken result (no_left (ident_spots s result) _ d) in
      let whole_of : (e : Expr) → Whole (OperandWhole knowns) (operand_at knowns e.token (expr_type knowns names e)) =
      λ e. operand_at_whole knowns e.token (expr_type knowns names e) (expression_whole knowns names wide e (all_unbroken names wide unbroken (expr_names values_alone e))) in
      let y = whole_ok (TypedWhole knowns) t
      (whole_both (OperandWhole knowns) (OperandWhole knowns) (TypedWhole knowns) (operand_at knowns left.token (expr_type knowns names left)) (operand_at knowns right.token (expr_type knowns names right))
      (λ l r. applied knowns operator.token (checked_named operator.name) (operands.Two l r)) (whole_of left) (whole_of right)
      (λ l r h k. applied_whole knowns operator.token (checked_named operator.name) (operands.Two l r) (h, k))) own in
      let both = both_ok (operand_at knowns left.token (expr_type knowns names left)) (operand_at knowns right.token (expr_type knowns names right))
      (λ l r. applied knowns operator.token (checked_named operator.name) (operands.Two l r)) y.0 y.1 in
      let l = operand_was left.token (expr_type knowns names left) both.first both.first_is in
      let r = operand_was right.token (expr_type knowns names right) both.second both.second_is in
      let given : applied knowns operator.token (Some (operators.Binary o.op)) (operands.Two record { token = left.token; typed = l.0 } record { token = right.token; typed = r.0 }) ≡ Ok y.0 =
      ap (λ x. applied knowns operator.token (Some (operators.Binary o.op)) (operands.Two x record { token = right.token; typed = r.0 })) l.1.1
      ∙ ap (λ x. applied knowns operator.token (Some (operators.Binary o.op)) (operands.Two both.first x)) r.1.1
      ∙ ap (λ x. applied knowns operator.token x (operands.Two both.first both.second)) (sym o.is) ∙ both.then_ in
      let two = both_ok (as_bits left.token l.0) (as_bits right.token r.0) (λ v w. with_ok (of_width v.width right.token w) (λ u. Ok (binary knowns o.op v u))) y.0 given in
      let v = two.first in
      let u = was_ok (of_width v.width right.token two.second) (λ x. Ok (binary knowns o.op v x)) y.0 two.then_ in
      let left_judged : wanted knowns names None left ≡ Ok v = ap (λ j. with_ok j (as_wanted None left.token)) l.1.0 ∙ two.first_is in
      let right_judged : wanted knowns names (Some v.width) right ≡ Ok u.value =
      ap (λ j. with_ok j (as_wanted (Some v.width) right.token)) r.1.0 ∙ ap (λ j. with_ok j (of_width v.width right.token)) two.second_is ∙ u.is in
      let left_bits = bits_from p q names fit wide unbroken None left v left_judged inner_left in
      let left_is : left_bits.known ≡ v = ok_is (wanted knowns names None left) left_bits.known v left_bits.judged left_judged in
      let right_bits = bits_from p q names fit wide unbroken (Some v.width) right u.value right_judged inner_right in
      let made : Ok (binary knowns o.op v u.value) ≡ t = u.then_ ∙ sym y.1 in
      record {
        width = v.width;
        width_is = ap (λ j. width_or (option_map (λ x. x.width) (if_ok j))) left_judged;
        divides = ap (λ x. is_division (division x)) o.is ∙ o.divides;
        left_has = subst (λ y. has_width p q y.width (value_of names left) ≡ true) left_is (wide_value p q names fit wide unbroken None left left_bits);
        right_has = subst (λ w. has_width p q w (value_of names right) ≡ true) right_bits.wanted_is (wide_value p q names fit wide unbroken (Some v.width) right right_bits);
        result_has = ap (λ w. same_width w v.width) place.1.1
            ∙ fits_result operator.token (target_width (names result.name)) place.0 v.width record { width = v.width; value = with_values v.value u.value.value (knowns.binary o.op v.width) } place.1.0 refl
            (subst (λ j. result_fits (target_width (names result.name)) j ≡ true) (sym made) fits);
      }
