-- The places and values of assignments that break no rule, and the operands of checked operators: each value has the width of its place.
use mathlib.Core.Former.{one_more}
use Rattle.std.proofs.Common.{◌≡◌, ℕ, refl, sym, ap, ◌∙◌, subst, true, List, [], ◌∷◌, ◌++◌, Option, Some, None, Ok, Err, arith, length}
use Rattle.std.specs.Prelude.{map, flat_map, option_map, unwrap_or, ◌==◌}
use Rattle.std.proofs.lemmas.Bool.{eqb-true, and_from}
use Rattle.std.proofs.lemmas.Grind.{flat_map-append}
use Rattle.cmm_words.specs.declared.width.Width.{Width}
use Rattle.cmm_words.specs.declared.width.Width.TheVariants.{W64}
use Rattle.cmm_ast.specs.declared.token.Ident.{Ident}
use Rattle.cmm_ast.specs.declared.token.Int.{Int as IntTree}
use Rattle.cmm_ast.specs.declared.expression.Expr.{Expr}
use Rattle.cmm_ast.specs.declared.expression.ExprForm.{Row_of-Expr, more_of-Expr}
use Rattle.cmm_ast.specs.declared.expression.Memory.{Memory, Memory'}
use Rattle.cmm_ast.specs.declared.expression.TypeName.{TypeName}
use Rattle.cmm_ast.specs.declared.statement.Lvalue.{Lvalue as LvalueTree}
use Rattle.cmm_ast.specs.declared.statement.Lvalue.TheVariants as trees
use Rattle.cmm_program.specs.declared.expression.Expression.{Expression}
use Rattle.cmm_program.specs.declared.expression.Condition.{Condition}
use Rattle.cmm_program.specs.declared.procedure.Proc.{Proc}
use Rattle.cmm_program.specs.declared.program.Program.{Program}
use Rattle.cmm_program.specs.InRange.{is_lvalue, are_assigned, lvalue_width}
use Rattle.cmm_program.specs.Orders.{target_width as resolved_width}
use Rattle.cmm_program.specs.Typing.{is_alignment, has_width}
use Rattle.cmm_static_semantics.specs.declared.judged.Typed.{Typed}
use Rattle.cmm_static_semantics.specs.declared.judged.Typed.TheVariants as typed
use Rattle.cmm_static_semantics.specs.declared.judged.Operand.{Operand}
use Rattle.cmm_static_semantics.specs.declared.known.Known.{Known}
use Rattle.cmm_static_semantics.specs.declared.sense.Sense.{Sense}
use Rattle.cmm_static_semantics.specs.declared.sense.Sense.TheVariants as meanings
use Rattle.cmm_static_semantics.specs.Senses.{Senses, target_width}
use Rattle.cmm_static_semantics.specs.Algebras.{knowns, expressions}
use Rattle.cmm_static_semantics.specs.Calls.{target_spots}
use Rattle.cmm_static_semantics.specs.Judging.{Judged, with_ok, with_both, as_wanted, spots, if_ok}
use Rattle.cmm_static_semantics.specs.Mentions.{values_alone, form_names, row_names, form_alignments, row_alignments, listed}
use Rattle.cmm_static_semantics.specs.Typing.{type_width, alignment, load, operand_at, operand, form_type, wanted}
use Rattle.cmm_static_semantics.specs.Expressions.{host_spots, alignment_spots, inner_spots, bits_spots}
use Rattle.cmm_static_semantics.specs.Scopes.{Scope, senses}
use Rattle.cmm_static_semantics.specs.Statements.{memory_expr, lvalue_spots, lvalue_width as wanted_width, sides}
use Rattle.cmm_elaboration.specs.Fitting.{NamesFit}
use Rattle.cmm_elaboration.specs.Resolving.{value_in, value_of, width_at, target_in, operand_in, place_of}
use Rattle.cmm_elaboration.proofs.Nothing.{no_left, no_right}
use Rattle.cmm_elaboration.proofs.Judged.{alignment_is}
use Rattle.cmm_elaboration.proofs.SiteParts.{target_there}
use Rattle.cmm_elaboration.proofs.Wide.{IsWide}
use Rattle.cmm_elaboration.proofs.Whole.{IsUnbroken}
use Rattle.cmm_elaboration.proofs.Values.{was_ok, bits_from, bits_are_there, wide_value, has_wanted}

pub record BothOk {A B C : Type 0} (i : Judged A) (j : Judged B) (next : A → B → Judged C) (c : C) : Type 0 where
  pub first : A
  pub second : B
  pub first_is : i ≡ Ok first
  pub second_is : j ≡ Ok second
  pub then_ : next first second ≡ Ok c

pub both_ok : {A B C : Type 0} (i : Judged A) (j : Judged B) (next : A → B → Judged C) (c : C) → with_both i j next ≡ Ok c → BothOk i j next c
both_ok (Ok a) (Ok b) next c is = record { first = a; second = b; first_is = refl; second_is = refl; then_ = is }
both_ok (Ok a) (Err y) next c is = cc
both_ok (Err x) (Ok b) next c is = cc
both_ok (Err x) (Err y) next c is = cc

operand_value : (token : ℕ) (j : Judged (Typed Expression Condition)) → operand_in (operand_at expressions token j) ≡ value_in j
operand_value token (Ok t) = refl
operand_value token (Err x) = refl

-- what an operand was judged as
pub operand_was : (token : ℕ) (j : Judged (Typed Known (Unit {0}))) (o : Operand Known (Unit {0})) → operand_at knowns token j ≡ Ok o → (t : Typed Known (Unit {0})) × ((j ≡ Ok t) × (record { token = token; typed = t } ≡ o))
operand_was token (Ok t) o is = (t, (refl, (let e : Ok record { token = token; typed = t } ≡ Ok o = is in cc)))
operand_was token (Err x) o is = cc

module _ (p : Program) (q : Proc) (s : Scope) (fit : NamesFit p q (senses s)) (wide : (name : List ℕ) → IsWide (senses s name)) (unbroken : (name : List ℕ) → IsUnbroken (senses s name)) where
  abbrev names : Senses
  names = senses s

  -- ---- a word in memory

  record IsMemory {n : _} (t : TypeName) (row : Row_of-Expr (one_more n)) (aligned : Option IntTree) : Type 0 where
    pub width : Width
    pub type_is : type_width names t ≡ Ok width
    pub alignment : (w : Width) → is_alignment (alignment w aligned) ≡ true
    pub address : has_width p q W64 (operand_in (operand expressions names row)) ≡ true

  memory_by : {n : _} (t : TypeName) (row : Row_of-Expr (one_more n)) (aligned : Option IntTree) (x : Typed Known (Unit {0})) →
      with_both (type_width names t) (operand knowns names row) (load knowns aligned) ≡ Ok x → flat_map (host_spots names) (row_names values_alone row) ≡ [] →
      flat_map alignment_spots (row_alignments row ++ listed aligned) ≡ [] → IsMemory t row aligned
  memory_by t (more_of-Expr first form rest) aligned x is hosts aligns =
      let both = both_ok (type_width names t) (operand_at knowns first (form_type knowns names first form)) (load knowns aligned) x is in
      let was = operand_was first (form_type knowns names first form) both.second both.second_is in
      let loaded : load knowns aligned both.first record { token = first; typed = was.0 } ≡ Ok x = ap (load knowns aligned both.first) was.1.1 ∙ both.then_ in
      let a = was_ok (as_wanted (Some W64) first was.0) (λ b. Ok (typed.Bits record { width = both.first; value = option_map (knowns.load both.first (alignment both.first aligned)) b.value })) x loaded in
      let e : Expr = record { token = first; form = form } in
      let judged : wanted knowns names (Some W64) e ≡ Ok a.value = ap (λ j. with_ok j (as_wanted (Some W64) first)) was.1.0 ∙ a.is in
      let split : flat_map alignment_spots (form_alignments form ++ row_alignments rest) ≡ [] =
      no_left _ (flat_map alignment_spots (listed aligned)) (sym (flat_map-append alignment_spots (form_alignments form ++ row_alignments rest) (listed aligned)) ∙ aligns) in
      let own_hosts : flat_map (host_spots names) (form_names values_alone first form) ≡ [] =
      no_left _ (flat_map (host_spots names) (row_names values_alone rest)) (sym (flat_map-append (host_spots names) (form_names values_alone first form) (row_names values_alone rest)) ∙ hosts) in
      let own_aligns : flat_map alignment_spots (form_alignments form) ≡ [] =
      no_left _ (flat_map alignment_spots (row_alignments rest)) (sym (flat_map-append alignment_spots (form_alignments form) (row_alignments rest)) ∙ split) in
      let inner : inner_spots names e ≡ [] = ap (λ xs. xs ++ flat_map alignment_spots (form_alignments form)) own_hosts ∙ own_aligns in
      let b = bits_from p q names fit wide unbroken (Some W64) e a.value judged inner in
      record {
        width = both.first;
        type_is = both.first_is;
        alignment = λ w. alignment_is w aligned (no_right (flat_map alignment_spots (form_alignments form ++ row_alignments rest)) _
            (sym (flat_map-append alignment_spots (form_alignments form ++ row_alignments rest) (listed aligned)) ∙ aligns));
        address = ap (has_width p q W64) (operand_value first (form_type expressions names first form))
            ∙ subst (λ w. has_width p q w (value_of names e) ≡ true) b.wanted_is (wide_value p q names fit wide unbroken (Some W64) e b);
      }

  -- ---- places

  record IsPlace (l : LvalueTree) : Type 0 where
    pub is : is_lvalue p q (place_of names l) ≡ true
    pub width : Width
    pub wanted_is : wanted_width s l ≡ Some width
    pub resolved : lvalue_width p q (place_of names l) ≡ width

  target_place : (token : ℕ) (sense : Option Sense) → target_spots token sense ≡ [] → IsWide sense → (w : Width) × ((target_width sense ≡ Some w) × (resolved_width (target_in sense) ≡ w))
  target_place token (Some (meanings.Variable n (Some w))) none h = (w, (refl, refl))
  target_place token (Some (meanings.Variable n None)) none h = absurd h
  target_place token (Some (meanings.Register n (Some w))) none h = (w, (refl, refl))
  target_place token (Some (meanings.Register n None)) none h = absurd h
  target_place token (Some (meanings.Value c)) none h = cc
  target_place token (Some (meanings.Broken w)) none h = cc
  target_place token (Some (meanings.Stackdata n)) none h = cc
  target_place token (Some (meanings.Continuation n)) none h = cc
  target_place token (Some (meanings.Typedef w)) none h = cc
  target_place token (Some meanings.CodeLabel) none h = cc
  target_place token (Some (meanings.Host x)) none h = cc
  target_place token None none h = cc

  pub ident_place : (i : Ident) → target_spots i.token (names i.name) ≡ [] → (w : Width) × ((target_width (names i.name) ≡ Some w) × (resolved_width (target_in (names i.name)) ≡ w))
  ident_place i none = target_place i.token (names i.name) none (wide i.name)

  memory_is : (m : Memory) → bits_spots names None (memory_expr m) ≡ [] → IsPlace (trees.Memory m)
  memory_is (Memory' t _ row aligned) free =
      let e = memory_expr (Memory' t _ row aligned) in
      let b = bits_are_there p q names fit wide unbroken None e free in
      let inner = no_right (spots (wanted knowns names None e)) (inner_spots names e) free in
      let m = memory_by t row aligned (typed.Bits b.known) b.typed_as (no_left (flat_map (host_spots names) (row_names values_alone row)) _ inner) (no_right (flat_map (host_spots names) (row_names values_alone row)) _ inner) in
      record {
        is = and_from _ _ (m.alignment (width_at names t)) m.address;
        width = m.width;
        wanted_is = ap if_ok m.type_is;
        resolved = ap (λ j. unwrap_or (if_ok j) W64) m.type_is;
      }

  place_is : (l : LvalueTree) → lvalue_spots s l ≡ [] → IsPlace l
  place_is (trees.Name i) free = let w = ident_place i free in
      record { is = target_there p q i.token (names i.name) free (fit i.name) (wide i.name); width = w.0; wanted_is = w.1.0; resolved = w.1.1 }
  place_is (trees.Memory m) free = memory_is m free

  -- ---- as many values as places, each of its width

  assigned_by : (to : List LvalueTree) (values : List Expr) → length to ≡ length values → flat_map (lvalue_spots s) to ≡ [] → sides s to values ≡ [] →
      are_assigned p q (map (place_of names) to) (map (value_of names) values) ≡ true
  assigned_by [] [] many places free = refl
  assigned_by [] (e ∷ es) many places free = absurd (omega arith)
  assigned_by (l ∷ ls) [] many places free = absurd (omega arith)
  assigned_by (l ∷ ls) (e ∷ es) many places free =
      let place = place_is l (no_left (lvalue_spots s l) (flat_map (lvalue_spots s) ls) places) in
      let own : bits_spots names (Some place.width) e ≡ [] =
      subst (λ o. bits_spots names o e ≡ []) place.wanted_is (no_left (bits_spots names (wanted_width s l) e) (sides s ls es) free) in
      let value : has_width p q (lvalue_width p q (place_of names l)) (value_of names e) ≡ true =
      subst (λ w. has_width p q w (value_of names e) ≡ true) (sym place.resolved) (has_wanted p q names fit wide unbroken place.width e own) in
      and_from _ _ (and_from (is_lvalue p q (place_of names l)) _ place.is value)
      (assigned_by ls es (omega arith) (no_right (lvalue_spots s l) (flat_map (lvalue_spots s) ls) places) (no_right (bits_spots names (wanted_width s l) e) (sides s ls es) free))

  pub assigned_there : (to : List LvalueTree) (values : List Expr) → (length to == length values) ≡ true → flat_map (lvalue_spots s) to ≡ [] → sides s to values ≡ [] →
      are_assigned p q (map (place_of names) to) (map (value_of names) values) ≡ true
  assigned_there to values many places free = assigned_by to values (eqb-true (length to) (length values) many) places free
