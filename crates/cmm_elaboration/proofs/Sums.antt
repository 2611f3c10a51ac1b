-- Sums over all call sites of accepted units: of their procedures' variables, and of the tokens that have a span there.
use Rattle.cmm_program.proofs.Shared.{or_left_comm}
use Rattle.std.proofs.Common.{◌≡◌, ℕ, suc, ◌+◌, ◌*◌, ◌<◌, ◌≤◌, refl, sym, ap, ◌∙◌, subst, Bool, true, false, List, [], ◌∷◌, ◌++◌, arith, length, Some, None, inl, inr, ◌⊎◌}
use Rattle.std.specs.Prelude.{map, flat_map, sum_by, nat_lt, ◌==◌, ◌||◌}
use Rattle.std.proofs.lemmas.List.{map-append}
use Rattle.std.proofs.lemmas.List.Sums.{sum_by-append}
use Rattle.std.proofs.lemmas.Bool.{or_cases, ltb-true, ltb-false, eqb-true, eqb-false}
use Rattle.cmm_ast.specs.declared.procedure.Proc.{Proc as ProcTree}
use Rattle.cmm_ast.specs.declared.statement.Part.{Part}
use Rattle.cmm_ast.specs.declared.statement.Part.TheVariants as parts
use Rattle.cmm_ast.specs.declared.statement.StmtForm.TheVariants as stmts
use Rattle.cmm_ast.specs.declared.unit.Item.{Item}
use Rattle.cmm_ast.specs.declared.unit.Item.TheVariants as items
use Rattle.cmm_program.specs.declared.procedure.Proc.{Proc}
use Rattle.cmm_static_semantics.specs.Senses.{Senses}
use Rattle.cmm_static_semantics.specs.Typing.{of_primary}
use Rattle.cmm_static_semantics.specs.Items.{SpanTree, Within, parts_in, parts_of}
use Rattle.cmm_static_semantics.specs.Declarations.{NamedUnit}
use Rattle.cmm_static_semantics.specs.Linking.{Program as Linked}
use Rattle.cmm_static_semantics.specs.Scopes.{Scope, senses, unit_senses}
use Rattle.cmm_static_semantics.specs.Statements.{scope_of}
use Rattle.cmm_static_semantics.specs.Limits.{variables, site_count, sites_of, is_in, different, number_or_zero, tokens_of, site_tokens, over_procs, over_units, site_variables, site_spans}
use Rattle.cmm_elaboration.specs.Sites.{SpanValue, span_value, with_span, innermost, part_sites, sites_among}
use Rattle.cmm_elaboration.specs.Procedures.{procedure_of}
use Rattle.cmm_elaboration.specs.Meaning.{item_procedures, unit_procedures, procedures_from}
use Rattle.cmm_elaboration.proofs.SiteNumbers.{length_is}
use Rattle.cmm_elaboration.proofs.Keeping.{variables_length}

-- ---- a sum over procedures is one over their trees

module _ (size : Proc → ℕ) (count : Senses → List SpanTree → ProcTree → ℕ)
    (same : (names : Senses) (unit : ℕ) (around : List SpanTree) (p : ProcTree) → size (procedure_of names unit around p) ≡ count names around p) where
  item_sum : (names : Senses) (unit : ℕ) (around : List SpanTree) (what : Item) (is : List (Within Item)) →
      sum_by size (item_procedures names unit record { spans = around; what = what }) + over_procs (count names) is ≡ over_procs (count names) (record { spans = around; what = what } ∷ is)
  item_sum names unit around (items.Proc p) is =
      ap (λ n. n + over_procs (count names) is) ((let e : 0 + size (procedure_of names unit around p) ≡ size (procedure_of names unit around p) = omega arith in e) ∙ same names unit around p)
  item_sum names unit around (items.Decl d) is = refl
  item_sum names unit around (items.Datum d) is = refl
  item_sum names unit around (items.Span' first key value n inside) is = refl

  items_sum : (names : Senses) (unit : ℕ) (is : List (Within Item)) → sum_by size (flat_map (item_procedures names unit) is) ≡ over_procs (count names) is
  items_sum names unit [] = refl
  items_sum names unit (i ∷ is) =
      sum_by-append size (item_procedures names unit i) (flat_map (item_procedures names unit) is)
      ∙ ap (λ n. sum_by size (item_procedures names unit i) + n) (items_sum names unit is) ∙ item_sum names unit i.spans i.what is

  pub units_sum : (program : Linked) (unit : ℕ) (us : List NamedUnit) → sum_by size (procedures_from program unit us) ≡ over_units program (λ names u. over_procs (count names) u.items) us
  units_sum program unit [] = refl
  units_sum program unit (u ∷ us) =
      sum_by-append size (unit_procedures program unit u) (procedures_from program (suc unit) us)
      ∙ rw (items_sum (unit_senses program u.entries) unit u.items, units_sum program (suc unit) us) refl

-- ---- variables

pub variables_sum : (program : Linked) (us : List NamedUnit) → sum_by (λ q. length q.sites * length q.vars) (procedures_from program 0 us) ≡ over_units program site_variables us
variables_sum program us = units_sum (λ q. length q.sites * length q.vars) (λ names around p. site_count (parts_of p.body) * length (variables p))
    (λ names unit around p. let s = scope_of names p in
    ap (λ n. n * length (procedure_of names unit around p).vars) (length_is s (map (span_value names) around) (parts_in [] p.body))
    ∙ ap (λ n. site_count (parts_of p.body) * n) (variables_length s p)) program 0 us

-- ---- spans: as many as there are different tokens

abbrev tokens : List SpanValue → List ℕ
tokens xs = map (λ x. x.0) xs

-- a number below all in a list is not in it
abbrev Ascends : List SpanValue → Type 0
Ascends [] = Unit {0}
Ascends (x ∷ xs) = ((y : ℕ) → is_in y (tokens xs) ≡ true → x.0 < y) × Ascends xs

or_same : (a b c : Bool) → b ≡ c → (a || b) ≡ (a || c)
or_same a b c e = ap (λ x. a || x) e

same_in : (n a b : ℕ) (c : Bool) → a ≡ b → ((n == b) || c) ≡ ((n == a) || ((n == b) || c))
same_in n a b c e = subst (λ m. ((n == b) || c) ≡ ((n == m) || ((n == b) || c))) (sym e) (twice (n == b) c)
  where
    twice : (x c : Bool) → (x || c) ≡ (x || (x || c))
    twice true c = refl
    twice false c = refl

in_by : (n : ℕ) (x y : SpanValue) (ys more : List SpanValue) (less same : Bool) → (x.0 == y.0) ≡ same → is_in n (tokens more) ≡ ((n == x.0) || is_in n (tokens ys)) →
    is_in n (tokens (elim less as (λ b. List SpanValue) [ true ↦ x ∷ y ∷ ys | false ↦ elim same as (λ b. List SpanValue) [ true ↦ x ∷ ys | false ↦ y ∷ more ] ])) ≡ ((n == x.0) || ((n == y.0) || is_in n (tokens ys)))
in_by n x y ys more true same e later = refl
in_by n x y ys more false true e later = ap (λ m. (n == m) || is_in n (tokens ys)) (eqb-true x.0 y.0 e) ∙ same_in n x.0 y.0 (is_in n (tokens ys)) (eqb-true x.0 y.0 e)
in_by n x y ys more false false e later = or_same (n == y.0) _ _ later ∙ or_left_comm (n == y.0) (n == x.0) (is_in n (tokens ys))

in_with : (n : ℕ) (x : SpanValue) (ys : List SpanValue) → is_in n (tokens (with_span x ys)) ≡ ((n == x.0) || is_in n (tokens ys))
in_with n x [] = refl
in_with n x (y ∷ ys) = in_by n x y ys (with_span x ys) (nat_lt x.0 y.0) (x.0 == y.0) refl (in_with n x ys)

in_innermost : (n : ℕ) (xs : List SpanValue) → is_in n (tokens (innermost xs)) ≡ is_in n (tokens xs)
in_innermost n [] = refl
in_innermost n (x ∷ xs) = in_with n x (innermost xs) ∙ or_same (n == x.0) _ _ (in_innermost n xs)

-- ---- with one more span there is one more, unless its token is there

abbrev one_unless : Bool → ℕ → ℕ
one_unless there n = elim there [ true ↦ n | false ↦ suc n ]

length_by : (x y : SpanValue) (ys more : List SpanValue) (less same inside : Bool) → nat_lt x.0 y.0 ≡ less → (x.0 == y.0) ≡ same → is_in x.0 (tokens ys) ≡ inside → Ascends (y ∷ ys) →
    length more ≡ one_unless inside (length ys) →
    length (elim less as (λ b. List SpanValue) [ true ↦ x ∷ y ∷ ys | false ↦ elim same as (λ b. List SpanValue) [ true ↦ x ∷ ys | false ↦ y ∷ more ] ])
    ≡ one_unless (same || inside) (suc (length ys))
length_by x y ys more true true inside l e i up later = let a : x.0 < y.0 = ltb-true x.0 y.0 l in let b : x.0 ≡ y.0 = eqb-true x.0 y.0 e in absurd (omega arith)
length_by x y ys more true false true l e i up later = let a : x.0 < y.0 = ltb-true x.0 y.0 l in let b : y.0 < x.0 = up.0 x.0 i in absurd (omega arith)
length_by x y ys more true false false l e i up later = refl
length_by x y ys more false true inside l e i up later = refl
length_by x y ys more false false true l e i up later = ap suc later
length_by x y ys more false false false l e i up later = ap suc later

with_length : (x : SpanValue) (ys : List SpanValue) → Ascends ys → length (with_span x ys) ≡ one_unless (is_in x.0 (tokens ys)) (length ys)
with_length x [] up = refl
with_length x (y ∷ ys) up =
    length_by x y ys (with_span x ys) (nat_lt x.0 y.0) (x.0 == y.0) (is_in x.0 (tokens ys)) refl refl refl up (with_length x ys up.1)

in_either : (n a : ℕ) (c : Bool) → ((n == a) || c) ≡ true → (n ≡ a) ⊎ (c ≡ true)
in_either n a c e = elim (or_cases (n == a) c e) [ inl here ↦ inl (eqb-true n a here) | inr later ↦ inr later ]

ascends_by : (x y : SpanValue) (ys : List SpanValue) (less same : Bool) → nat_lt x.0 y.0 ≡ less → (x.0 == y.0) ≡ same → Ascends (y ∷ ys) → Ascends (with_span x ys) →
    Ascends (elim less as (λ b. List SpanValue) [ true ↦ x ∷ y ∷ ys | false ↦ elim same as (λ b. List SpanValue) [ true ↦ x ∷ ys | false ↦ y ∷ with_span x ys ] ])
ascends_by x y ys true same l e up more = let a : x.0 < y.0 = ltb-true x.0 y.0 l in
    ((λ z is. elim (in_either z y.0 (is_in z (tokens ys)) is) [ inl here ↦ (omega arith) | inr later ↦ (let b : y.0 < z = up.0 z later in omega arith) ]), up)
ascends_by x y ys false true l e up more = let a : x.0 ≡ y.0 = eqb-true x.0 y.0 e in
    ((λ z is. let b : y.0 < z = up.0 z is in omega arith), up.1)
ascends_by x y ys false false l e up more =
    let a : y.0 ≤ x.0 = ltb-false x.0 y.0 l in let b : x.0 ≡ y.0 → ⊥ = eqb-false x.0 y.0 e in let c : y.0 < x.0 = omega arith in
    ((λ z is. elim (in_either z x.0 (is_in z (tokens ys)) (sym (in_with z x ys) ∙ is)) [ inl here ↦ (omega arith) | inr later ↦ up.0 z later ]), more)

with_ascends : (x : SpanValue) (ys : List SpanValue) → Ascends ys → Ascends (with_span x ys)
with_ascends x [] up = ((λ z is. let bad : false ≡ true = is in cc), tt)
with_ascends x (y ∷ ys) up = ascends_by x y ys (nat_lt x.0 y.0) (x.0 == y.0) refl refl up (with_ascends x ys up.1)

ascends : (xs : List SpanValue) → Ascends (innermost xs)
ascends [] = tt
ascends (x ∷ xs) = with_ascends x (innermost xs) (ascends xs)

innermost_length : (xs : List SpanValue) → length (innermost xs) ≡ different (tokens xs)
innermost_length [] = refl
innermost_length (x ∷ xs) =
    with_length x (innermost xs) (ascends xs) ∙ ap (λ b. one_unless b (length (innermost xs))) (in_innermost x.0 xs) ∙ ap (one_unless (is_in x.0 (tokens xs))) (innermost_length xs)

-- ---- over the sites of a procedure

values_tokens : (names : Senses) (ts : List SpanTree) → tokens (map (span_value names) ts) ≡ tokens_of names ts
values_tokens names [] = refl
values_tokens names (t ∷ ts) = ap (λ ns. number_or_zero names (of_primary t.key) ∷ ns) (values_tokens names ts)

part_sum : (s : Scope) (spans : List SpanValue) (n : ℕ) (p : Part) → length spans ≡ n → sum_by (λ site. length site.spans) (part_sites s spans p) ≡ sites_of p * n
part_sum s spans n (parts.Local l) e = omega arith
part_sum s spans n (parts.Stmt' first past (stmts.Call results None callee actuals flows)) e = omega arith
part_sum s spans n (parts.Stmt' first past (stmts.Call results (Some convention) callee actuals flows)) e = omega arith
part_sum s spans n (parts.Stmt' first past (stmts.Checked result operator left right flows)) e = omega arith
part_sum s spans n (parts.Stmt' first past f) e = omega arith

sites_sum : (s : Scope) (around : List SpanValue) (ps : List (Within Part)) →
    sum_by (λ site. length site.spans) (sites_among s around ps) ≡ site_tokens s (tokens around) ps
sites_sum s around [] = refl
sites_sum s around (p ∷ ps) =
    let xs = map (span_value (senses s)) p.spans ++ around in let spans = innermost xs in
    let many : length spans ≡ different (tokens_of (senses s) p.spans ++ tokens around) =
    innermost_length xs ∙ ap different (map-append (λ x. x.0) (map (span_value (senses s)) p.spans) around ∙ ap (λ ns. ns ++ tokens around) (values_tokens (senses s) p.spans)) in
    sum_by-append (λ site. length site.spans) (part_sites s spans p.what) (sites_among s around ps)
    ∙ rw (part_sum s spans (different (tokens_of (senses s) p.spans ++ tokens around)) p.what many, sites_sum s around ps) refl

pub spans_sum : (program : Linked) (us : List NamedUnit) → sum_by (λ q. sum_by (λ site. length site.spans) q.sites) (procedures_from program 0 us) ≡ over_units program site_spans us
spans_sum program us =
    units_sum (λ q. sum_by (λ site. length site.spans) q.sites) (λ names around p. site_tokens (scope_of names p) (tokens_of names around) (parts_in [] p.body))
    (λ names unit around p. sites_sum (scope_of names p) (map (span_value names) around) (parts_in [] p.body)
    ∙ ap (λ ns. site_tokens (scope_of names p) ns (parts_in [] p.body)) (values_tokens names around)) program 0 us
