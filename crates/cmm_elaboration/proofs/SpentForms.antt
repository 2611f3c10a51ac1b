-- A statement that takes some tokens counts, beside those of the blocks inside it, at least the tokens of its shortest text.
use Rattle.std.proofs.Common.{◌≡◌, ℕ, zero, suc, ◌+◌, ◌≤◌, refl, ap, ◌∙◌, Bool, true, false, List, [], ◌∷◌, ◌++◌, Option, Some, None, arith, length, length-append}
use Rattle.std.specs.Prelude.{map, flat_map, ◌||◌, sum_by}
use Rattle.std.specs.List.{list_any}
use Rattle.std.proofs.lemmas.List.{map-append}
use Rattle.std.proofs.lemmas.List.Sums.{sum_by-cons}
use Rattle.cmm_lexer.specs.declared.keyword.Keyword.{Keyword}
use Rattle.cmm_lexer.specs.declared.keyword.Keyword.TheVariants as word
use Rattle.cmm_lexer.specs.declared.symbol.Symbol.TheVariants as sign
use Rattle.cmm_ast.specs.declared.token.Ident.{Ident}
use Rattle.cmm_ast.specs.declared.token.Text.{Text}
use Rattle.cmm_ast.specs.declared.statement.Actual.{Actual}
use Rattle.cmm_ast.specs.declared.statement.Callee.{Callee}
use Rattle.cmm_ast.specs.declared.statement.CalleeForm.{CalleeForm}
use Rattle.cmm_ast.specs.declared.statement.CalleeForm.TheVariants as callees
use Rattle.cmm_ast.specs.declared.statement.Exit.{Exit}
use Rattle.cmm_ast.specs.declared.statement.Flow.{Flow}
use Rattle.cmm_ast.specs.declared.statement.FlowForm.{FlowForm}
use Rattle.cmm_ast.specs.declared.statement.FlowForm.TheVariants as flows
use Rattle.cmm_ast.specs.declared.statement.Kinded.{Kinded}
use Rattle.cmm_ast.specs.declared.statement.Lvalue.{Lvalue as LvalueTree}
use Rattle.cmm_ast.specs.declared.statement.Lvalue.TheVariants as lvalues
use Rattle.cmm_grammar.specs.Taking.{Reading, Takes, ◌⨾◌, token, is_name, is_text, is_word, is_sign, keyword, symbol, here, optional, commas, listed, may_list, may_comma}
use Rattle.cmm_grammar.specs.ExpressionGrammar.{ident, text, whole, whole_prim}
use Rattle.cmm_grammar.specs.StatementGrammar.{kinded, actual, arguments, lvalue, callee_form, callee, names_to, flow_form, annotated, exit, results}
use Rattle.cmm_program.specs.ExpressionTokens.{alone, callee as callee_level, expression_tokens}
use Rattle.cmm_program.specs.Tokens.{with_commas, names as name_tokens, bracketed, lvalue_tokens, annotation, when, result_tokens}
use Rattle.cmm_static_semantics.specs.Senses.{Senses}
use Rattle.cmm_static_semantics.specs.Algebras.{expressions}
use Rattle.cmm_static_semantics.specs.Typing.{name_type, memory_type}
use Rattle.cmm_static_semantics.specs.Calls.{return_names}
use Rattle.cmm_static_semantics.specs.Scopes.{Scope, senses}
use Rattle.cmm_elaboration.specs.Resolving.{value_of, values_of, callee_of, target_of, place_of}
use Rattle.cmm_elaboration.specs.Sites.{SpanValue, unwind_names, cut_names, is_aborts, is_never, continuation_of, continuations_by, site_with}
use Rattle.cmm_elaboration.proofs.Derived.{middle}
use Rattle.cmm_elaboration.proofs.Steady.{next_token, steady_text, steady_comma, steady_optional}
use Rattle.cmm_elaboration.proofs.Weighing.{taken_of}
use Rattle.cmm_elaboration.proofs.Spent.{IsShort, enclosed_of, bound, here_taken, name_costs, value_costs, value_in_costs, memory_costs, memory_strict, prim_strict, place_costs}

-- ---- names and lists

pub ident_token : (i : Ident) (r s : Reading) → ident i r ≡ Some s → s.taken ≡ suc r.taken
ident_token i r s is = let m = middle (here i.token r) (token (is_name i.name)) s is in next_token (is_name i.name) m.at_ s m.next ∙ ap suc (here_taken i.token r m.at_ m.first)

pub text_token : (t : Text) (r s : Reading) → text t r ≡ Some s → s.taken ≡ suc r.taken
text_token t r s is = let m = middle (here t.token r) (token (is_text t.bytes)) s is in next_token (is_text t.bytes) m.at_ s m.next ∙ ap suc (here_taken t.token r m.at_ m.first)

pub kinded_tokens : (k : Kinded) (r s : Reading) → kinded k r ≡ Some s → suc r.taken ≤ s.taken
kinded_tokens k r s is =
    let m = middle (optional text k.kind r) (ident k.name) s is in
    let a : r.taken ≤ m.at_.taken = (steady_optional text steady_text k.kind r m.at_ m.first).grows in
    let b : s.taken ≡ suc m.at_.taken = ident_token k.name m.at_ s m.next in omega arith

module _ {A B : Type 0} (p : A → Takes) (f : A → B) (size : B → ℕ) (each : (a : A) (r s : Reading) → p a r ≡ Some s → r.taken + size (f a) ≤ s.taken) where
  pub commas_cost : (as_ : List A) (r s : Reading) → commas p as_ r ≡ Some s → r.taken + with_commas size (map f as_) ≤ s.taken
  commas_cost [] r s is = let bad : None ≡ Some s = is in cc
  commas_cost (a ∷ []) r s is =
      let h : r.taken + size (f a) ≤ s.taken = each a r s is in let e : sum_by size (f a ∷ []) ≡ size (f a) + 0 = sum_by-cons size (f a) [] in omega arith
  commas_cost (a ∷ b ∷ rest) r s is =
      let m = middle (p a r) (symbol sign.Comma ⨾ commas p (b ∷ rest)) s is in
      let n = middle (symbol sign.Comma m.at_) (commas p (b ∷ rest)) s m.next in
      let h : r.taken + size (f a) ≤ m.at_.taken = each a r m.at_ m.first in
      let one : n.at_.taken ≡ suc m.at_.taken = next_token (is_sign sign.Comma) m.at_ n.at_ n.first in
      let k : n.at_.taken + (sum_by size (f b ∷ map f rest) + length (map f rest)) ≤ s.taken = commas_cost (b ∷ rest) n.at_ s n.next in
      let e : sum_by size (f a ∷ f b ∷ map f rest) ≡ size (f a) + sum_by size (f b ∷ map f rest) = sum_by-cons size (f a) (f b ∷ map f rest) in
      let goal : r.taken + (sum_by size (f a ∷ f b ∷ map f rest) + suc (length (map f rest))) ≤ s.taken = omega arith in goal

  pub listed_cost : (as_ : List A) (r s : Reading) → listed p as_ r ≡ Some s → r.taken + with_commas size (map f as_) ≤ s.taken
  listed_cost as_ r s is =
      let m = middle (commas p as_ r) may_comma s is in let h : r.taken + with_commas size (map f as_) ≤ m.at_.taken = commas_cost as_ r m.at_ m.first in
      let k : m.at_.taken ≤ s.taken = (steady_comma m.at_ s m.next).grows in omega arith

  pub list_cost : (as_ : List A) (r s : Reading) → may_list p as_ r ≡ Some s → r.taken + with_commas size (map f as_) ≤ s.taken
  list_cost [] r s is = let e : r.taken ≡ s.taken = ap taken_of is in omega arith
  list_cost (a ∷ as_) r s is = listed_cost (a ∷ as_) r s is

pub ones : {A : Type 0} (xs : List A) → sum_by (λ (z : A). 1) xs ≡ length xs
ones [] = refl
ones {A = A} (y ∷ xs) =
    let e : sum_by (λ (z : A). 1) (y ∷ xs) ≡ 1 + sum_by (λ (z : A). 1) xs = sum_by-cons (λ (z : A). 1) y xs in let k : sum_by (λ (z : A). 1) xs ≡ length xs = ones xs in
    let goal : sum_by (λ (z : A). 1) (y ∷ xs) ≡ suc (length xs) = omega arith in goal

-- ---- annotations

abbrev spelled : ℕ → ℕ
spelled zero = 0
spelled (suc n) = 4 + n + n

spelled_two : (m n : ℕ) → spelled (m + n) ≤ spelled m + spelled n
spelled_two zero n = let e : spelled (0 + n) ≡ spelled n = ap spelled (let e : 0 + n ≡ n = omega arith in e) in omega arith
spelled_two (suc m) zero = let e : spelled (suc m + 0) ≡ spelled (suc m) = ap spelled (let e : suc m + 0 ≡ suc m = omega arith in e) in omega arith
spelled_two (suc m) (suc n) = let e : spelled (suc m + suc n) ≡ spelled (suc (suc (m + n))) = ap spelled (let e : suc m + suc n ≡ suc (suc (m + n)) = omega arith in e) in omega arith

annotation_is : (ns : List ℕ) → annotation ns ≡ spelled (length ns)
annotation_is [] = refl
annotation_is (n ∷ ns) = let e : sum_by (λ _. 1) (n ∷ ns) ≡ suc (length ns) = ones (n ∷ ns) in omega arith

annotation_two : (xs ys : List ℕ) → annotation (xs ++ ys) ≤ annotation xs + annotation ys
annotation_two xs ys =
    let a : annotation (xs ++ ys) ≡ spelled (length xs + length ys) = annotation_is (xs ++ ys) ∙ ap spelled (length-append xs ys) in
    omega (arith, spelled_two (length xs) (length ys), annotation_is xs, annotation_is ys)

annotation_few : (ns : List ℕ) → annotation ns ≤ 3 + name_tokens ns
annotation_few [] = omega arith
annotation_few (n ∷ ns) = omega arith

when_two : (a b : Bool) → when (a || b) 2 ≤ when a 2 + when b 2
when_two true b = omega arith
when_two false b = omega arith

module _ (s : Scope) where
  abbrev joined : (Flow → List Ident) → List Flow → ℕ
  joined which fs = annotation (continuations_by s which fs)

  abbrev own : (Flow → List Ident) → Flow → ℕ
  own which f = annotation (map (continuation_of s) (which f))

  joined_more : (which : Flow → List Ident) (f : Flow) (fs : List Flow) → joined which (f ∷ fs) ≤ own which f + joined which fs
  joined_more which f fs =
      let e : joined which (f ∷ fs) ≡ annotation (map (continuation_of s) (which f) ++ map (continuation_of s) (flat_map which fs)) = ap annotation (map-append (continuation_of s) (which f) (flat_map which fs)) in
      omega (arith, annotation_two (map (continuation_of s) (which f)) (map (continuation_of s) (flat_map which fs)))

  -- what a site's annotations count
  abbrev pub flow_tokens : List Flow → ℕ
  flow_tokens fs = joined return_names fs + joined unwind_names fs + joined cut_names fs + when (list_any is_aborts fs) 2 + when (list_any is_never fs) 2

  names_cost : (verb : Keyword) (is : List Ident) (r t : Reading) → names_to verb is r ≡ Some t → r.taken + annotation (map (continuation_of s) is) ≤ t.taken
  names_cost verb is r t taken =
      let a = middle (keyword word.Also r) (keyword verb ⨾ keyword word.To ⨾ commas ident is) t taken in
      let b = middle (keyword verb a.at_) (keyword word.To ⨾ commas ident is) t a.next in
      let d = middle (keyword word.To b.at_) (commas ident is) t b.next in
      let x : a.at_.taken ≡ suc r.taken = next_token (is_word word.Also) r a.at_ a.first in
      let y : b.at_.taken ≡ suc a.at_.taken = next_token (is_word verb) a.at_ b.at_ b.first in
      let z : d.at_.taken ≡ suc b.at_.taken = next_token (is_word word.To) b.at_ d.at_ d.first in
      let h : d.at_.taken + name_tokens (map (continuation_of s) is) ≤ t.taken =
      commas_cost ident (continuation_of s) (λ _. 1) (λ i m n e. let q : n.taken ≡ suc m.taken = ident_token i m n e in omega arith) is d.at_ t d.next in
      omega (arith, annotation_few (map (continuation_of s) is))

  two_words : (k l : Keyword) (r t : Reading) → (keyword k ⨾ keyword l) r ≡ Some t → r.taken + 2 ≤ t.taken
  two_words k l r t is =
      let a = middle (keyword k r) (keyword l) t is in let x : a.at_.taken ≡ suc r.taken = next_token (is_word k) r a.at_ a.first in
      let y : t.taken ≡ suc a.at_.taken = next_token (is_word l) a.at_ t a.next in omega arith

  flow_cost : (place : ℕ) (form : FlowForm) (r t : Reading) → flow_form form r ≡ Some t → let f : Flow = record { token = place; form = form } in
      r.taken + (own return_names f + own unwind_names f + own cut_names f + when (is_aborts f) 2 + when (is_never f) 2) ≤ t.taken
  flow_cost place (flows.CutsTo is) r t taken = let h : r.taken + annotation (map (continuation_of s) is) ≤ t.taken = names_cost word.Cuts is r t taken in omega arith
  flow_cost place (flows.UnwindsTo is) r t taken = let h : r.taken + annotation (map (continuation_of s) is) ≤ t.taken = names_cost word.Unwinds is r t taken in omega arith
  flow_cost place (flows.ReturnsTo is) r t taken = let h : r.taken + annotation (map (continuation_of s) is) ≤ t.taken = names_cost word.Returns is r t taken in omega arith
  flow_cost place flows.Aborts r t taken = let h : r.taken + 2 ≤ t.taken = two_words word.Also word.Aborts r t taken in omega arith
  flow_cost place flows.NeverReturns r t taken = let h : r.taken + 2 ≤ t.taken = two_words word.Never word.Returns r t taken in omega arith

  pub flows_cost : (fs : List Flow) (r t : Reading) → annotated fs r ≡ Some t → r.taken + flow_tokens fs ≤ t.taken
  flows_cost [] r t is = let e : r.taken ≡ t.taken = ap taken_of is in omega arith
  flows_cost (f ∷ fs) r t is =
      let m = middle ((here f.token ⨾ flow_form f.form ⨾ may_comma) r) (annotated fs) t is in
      let a = middle (here f.token r) (flow_form f.form ⨾ may_comma) m.at_ m.first in
      let b = middle (flow_form f.form a.at_) may_comma m.at_ a.next in
      let x : a.at_.taken ≡ r.taken = here_taken f.token r a.at_ a.first in
      let y : b.at_.taken ≤ m.at_.taken = (steady_comma b.at_ m.at_ b.next).grows in
      let h : a.at_.taken + (own return_names f + own unwind_names f + own cut_names f + when (is_aborts f) 2 + when (is_never f) 2) ≤ b.at_.taken = flow_cost f.token f.form a.at_ b.at_ b.first in
      let k : m.at_.taken + (joined return_names fs + joined unwind_names fs + joined cut_names fs + when (list_any is_aborts fs) 2 + when (list_any is_never fs) 2) ≤ t.taken = flows_cost fs m.at_ t m.next in
      let rs : joined return_names (f ∷ fs) ≤ own return_names f + joined return_names fs = joined_more return_names f fs in
      let us : joined unwind_names (f ∷ fs) ≤ own unwind_names f + joined unwind_names fs = joined_more unwind_names f fs in
      let cs : joined cut_names (f ∷ fs) ≤ own cut_names f + joined cut_names fs = joined_more cut_names f fs in
      let as_ : when (is_aborts f || list_any is_aborts fs) 2 ≤ when (is_aborts f) 2 + when (list_any is_aborts fs) 2 = when_two (is_aborts f) (list_any is_aborts fs) in
      let ns : when (is_never f || list_any is_never fs) 2 ≤ when (is_never f) 2 + when (list_any is_never fs) 2 = when_two (is_never f) (list_any is_never fs) in
      let goal : r.taken + (joined return_names (f ∷ fs) + joined unwind_names (f ∷ fs) + joined cut_names (f ∷ fs) + when (is_aborts f || list_any is_aborts fs) 2 + when (is_never f || list_any is_never fs) 2) ≤ t.taken = omega arith in goal

  pub results_cost : (ks : List Kinded) (yielded : Option ℕ) (fs : List Flow) (spans : List SpanValue) (r t : Reading) → results ks r ≡ Some t →
      r.taken + result_tokens (site_with s (map (λ k. target_of (senses s) k.name) ks) yielded fs spans) ≤ t.taken
  results_cost [] yielded fs spans r t is = let e : r.taken ≡ t.taken = ap taken_of is in omega arith
  results_cost (k ∷ ks) yielded fs spans r t is =
      let m = middle (commas kinded (k ∷ ks) r) (symbol sign.Assign) t is in
      let h : r.taken + name_tokens (map (λ k. target_of (senses s) k.name) (k ∷ ks)) ≤ m.at_.taken =
      commas_cost kinded (λ k. target_of (senses s) k.name) (λ _. 1) (λ a x y e. let q : suc x.taken ≤ y.taken = kinded_tokens a x y e in omega arith) (k ∷ ks) r m.at_ m.first in
      let one : t.taken ≡ suc m.at_.taken = next_token (is_sign sign.Assign) m.at_ t m.next in omega arith

-- ---- values

module _ (names : Senses) (short : (name : List ℕ) → IsShort (names name)) where
  actual_cost : (a : Actual) (r s : Reading) → actual a r ≡ Some s → r.taken + expression_tokens alone (value_of names a.value) ≤ s.taken
  actual_cost a r s is =
      let m = middle (optional text a.kind r) (whole a.value) s is in
      let x : r.taken ≤ m.at_.taken = (steady_optional text steady_text a.kind r m.at_ m.first).grows in
      let y : m.at_.taken + expression_tokens alone (value_of names a.value) ≤ s.taken = value_costs names short a.value m.at_ s m.next in omega arith

  pub arguments_cost : (as_ : List Actual) (r s : Reading) → arguments as_ r ≡ Some s → r.taken + bracketed (values_of names as_) ≤ s.taken
  arguments_cost as_ r s is =
      let e = enclosed_of sign.Open (may_list actual as_) sign.Close record r { operators = 0 } s is in
      let low : e.from.taken ≡ suc r.taken = e.low in let high : s.taken ≡ suc e.to.taken = e.high in
      let h : e.from.taken + with_commas (expression_tokens alone) (values_of names as_) ≤ e.to.taken =
      list_cost actual (λ a. value_of names a.value) (expression_tokens alone) actual_cost as_ e.from e.to e.is in omega arith

  callee_form_cost : (token : ℕ) (form : CalleeForm) (r s : Reading) → callee_form form r ≡ Some s → (r.taken + expression_tokens callee_level (callee_of names record { token = token; form = form }) ≤ s.taken) × (suc r.taken ≤ s.taken)
  callee_form_cost token (callees.Name i) r s is =
      let one : s.taken ≡ suc r.taken = ident_token i r s is in let few : suc r.taken ≤ s.taken = omega arith in
      (value_in_costs names short 8 r.taken s.taken (name_type expressions token (names i.name)) few (name_costs token (names i.name) 8 r.taken s.taken (short i.name) few), few)
  callee_form_cost token (callees.Memory m) r s is =
      let few : suc r.taken ≤ s.taken = memory_strict names short m record r { operators = 0 } s is in
      (value_in_costs names short 8 r.taken s.taken (memory_type expressions names m) few (memory_costs names short m 8 record r { operators = 0 } s is), few)
  callee_form_cost token (callees.Bracketed e) r s is =
      let i = enclosed_of sign.Open (whole e) sign.Close r s is in
      let low : i.from.taken ≡ suc r.taken = i.low in let high : s.taken ≡ suc i.to.taken = i.high in
      let h : i.from.taken + expression_tokens 0 (value_of names e) ≤ i.to.taken = value_costs names short e i.from i.to i.is in
      (omega (arith, bound (value_of names e) 8), omega arith)

  pub callee_cost : (c : Callee) (r s : Reading) → callee c r ≡ Some s → (r.taken + expression_tokens callee_level (callee_of names c) ≤ s.taken) × (suc r.taken ≤ s.taken)
  callee_cost c r s is =
      let m = middle (here c.token r) (callee_form c.form) s is in let x : m.at_.taken ≡ r.taken = here_taken c.token r m.at_ m.first in
      let both = callee_form_cost c.token c.form m.at_ s m.next in
      let a : m.at_.taken + expression_tokens callee_level (callee_of names c) ≤ s.taken = both.0 in let b : suc m.at_.taken ≤ s.taken = both.1 in
      (omega arith, omega arith)

  pub lvalue_cost : (l : LvalueTree) (r s : Reading) → lvalue l r ≡ Some s → r.taken + lvalue_tokens (place_of names l) ≤ s.taken
  lvalue_cost (lvalues.Name i) r s is = let one : s.taken ≡ suc r.taken = ident_token i r s is in omega arith
  lvalue_cost (lvalues.Memory m) r s is = place_costs names short m r s is

  pub exit_cost : (e : Exit) (r s : Reading) → exit e r ≡ Some s → r.taken + 5 ≤ s.taken
  exit_cost x r s is =
      let a = middle (here x.token r) (symbol sign.Less ⨾ whole_prim x.index ⨾ symbol sign.Slash ⨾ whole_prim x.count ⨾ symbol sign.Greater) s is in
      let b = middle (symbol sign.Less a.at_) (whole_prim x.index ⨾ symbol sign.Slash ⨾ whole_prim x.count ⨾ symbol sign.Greater) s a.next in
      let d = middle (whole_prim x.index b.at_) (symbol sign.Slash ⨾ whole_prim x.count ⨾ symbol sign.Greater) s b.next in
      let e = middle (symbol sign.Slash d.at_) (whole_prim x.count ⨾ symbol sign.Greater) s d.next in
      let f = middle (whole_prim x.count e.at_) (symbol sign.Greater) s e.next in
      let i : a.at_.taken ≡ r.taken = here_taken x.token r a.at_ a.first in
      let j : b.at_.taken ≡ suc a.at_.taken = next_token (is_sign sign.Less) a.at_ b.at_ b.first in
      let k : suc b.at_.taken ≤ d.at_.taken = prim_strict names short x.index b.at_ d.at_ d.first in
      let l : e.at_.taken ≡ suc d.at_.taken = next_token (is_sign sign.Slash) d.at_ e.at_ e.first in
      let m : suc e.at_.taken ≤ f.at_.taken = prim_strict names short x.count e.at_ f.at_ f.first in
      let n : s.taken ≡ suc f.at_.taken = next_token (is_sign sign.Greater) f.at_ s f.next in omega arith
