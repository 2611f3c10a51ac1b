-- The call sites of accepted units keep the rules: what takes results is there with its width, exits are continuations of the procedure, and spans
-- ascend and have constants that are there.
use Rattle.std.proofs.Common.{◌≡◌, ℕ, ◌<◌, ◌≤◌, refl, sym, ap, ◌∙◌, subst, Bool, true, false, List, [], ◌∷◌, ◌++◌, Option, Some, None, arith, length, IsTrue}
use Rattle.std.specs.Prelude.{map, flat_map, nat_lt, ◌==◌}
use Rattle.std.specs.List.{list_all}
use Rattle.std.specs.Option.{is_some}
use Rattle.std.proofs.lemmas.List.{length-map}
use Rattle.std.proofs.lemmas.Bool.{le-leb, lt-ltb, ltb-false, eqb-true, eqb-false, and_parts, and_from}
use Rattle.std.proofs.lemmas.List.Folds.{list_all-append}
use Rattle.std.proofs.lemmas.Grind.{flat_map-append}
use Rattle.cmm_ast.specs.declared.token.Ident.{Ident}
use Rattle.cmm_ast.specs.declared.procedure.Proc.{Proc as ProcTree}
use Rattle.cmm_ast.specs.declared.statement.Flow.{Flow}
use Rattle.cmm_ast.specs.declared.statement.FlowForm.{FlowForm}
use Rattle.cmm_ast.specs.declared.statement.FlowForm.TheVariants as flows
use Rattle.cmm_ast.specs.declared.statement.Kinded.{Kinded}
use Rattle.cmm_ast.specs.declared.statement.Part.{Part}
use Rattle.cmm_ast.specs.declared.statement.Part.TheVariants as parts
use Rattle.cmm_ast.specs.declared.statement.StmtForm.{StmtForm}
use Rattle.cmm_ast.specs.declared.statement.StmtForm.TheVariants as stmts
use Rattle.cmm_program.specs.declared.procedure.Proc.{Proc}
use Rattle.cmm_program.specs.declared.procedure.Target.{Target}
use Rattle.cmm_program.specs.declared.program.Program.{Program}
use Rattle.cmm_program.specs.InRange.{at_most_64, below, are_spans, is_site}
use Rattle.cmm_program.specs.Typing.{constant_width, is_target}
use Rattle.cmm_rules.specs.declared.rule.Rule.TheVariants.{NoSuchLabel, TooManyValues, Limit}
use Rattle.cmm_static_semantics.specs.declared.sense.Sense.{Sense}
use Rattle.cmm_static_semantics.specs.declared.sense.Sense.TheVariants as meanings
use Rattle.cmm_static_semantics.specs.Senses.{Senses}
use Rattle.cmm_static_semantics.specs.Items.{SpanTree, Within, parts_in, parts_of}
use Rattle.cmm_static_semantics.specs.Declarations.{Local, named_units, found, is_declared, is_continuation}
use Rattle.cmm_static_semantics.specs.Calls.{target_spots, ident_spots, exit_spots, flow_names, return_names, flows_spots, site_flows_spots, too_many_names, results_spots, callee_spots, actuals_spots, first_token}
use Rattle.cmm_static_semantics.specs.Expressions.{past_limit}
use Rattle.cmm_static_semantics.specs.Limits.{proc_limits}
use Rattle.cmm_static_semantics.specs.Linking.{program_of}
use Rattle.cmm_static_semantics.specs.Scopes.{Scope, senses, unit_senses}
use Rattle.cmm_static_semantics.specs.Statements.{scope_of, stmt_spots, part_spots, proc_spots, checked_spots}
use Rattle.cmm_elaboration.specs.Resolving.{target_in, target_of}
use Rattle.cmm_elaboration.specs.Sites.{SpanValue, unwind_names, cut_names, continuation_of, continuations_by, span_value, with_span, innermost, site_with, yielded_by, form_sites, part_sites, sites_among}
use Rattle.cmm_elaboration.specs.Procedures.{part_conts, procedure_of}
use Rattle.cmm_elaboration.specs.Meaning.{meaning_of}
use Rattle.cmm_elaboration.specs.Fitting.{sense_fits, NamesFit}
use Rattle.cmm_elaboration.specs.Laws.{SitesAreThere}
use Rattle.cmm_elaboration.proofs.Nothing.{no_left, no_right, no_unless}
use Rattle.cmm_elaboration.proofs.Everywhere.{all_accepted}
use Rattle.cmm_elaboration.proofs.Flat.{whats}
use Rattle.cmm_elaboration.proofs.Knowing.{constant_there}
use Rattle.cmm_elaboration.proofs.Keeping.{within}
use Rattle.cmm_elaboration.proofs.Naming.{how_many}
use Rattle.cmm_elaboration.proofs.Scoping.{number_below, continuations_are, scopes_fit}
use Rattle.cmm_elaboration.proofs.UnitNames.{names_of, declared_there}
use Rattle.cmm_elaboration.proofs.Wide.{IsWide, unit_wide, scope_wide}

-- ---- spans

module _ (p : Program) (q : Proc) where
  -- the first of some spans has a greater token
  abbrev Above : ℕ → List SpanValue → Bool
  Above n [] = true
  Above n (y ∷ ys) = nat_lt n y.0

  spans_cons : (x : SpanValue) (ys : List SpanValue) → is_some (constant_width p x.1) ≡ true → Above x.0 ys ≡ true → are_spans p q ys ≡ true → are_spans p q (x ∷ ys) ≡ true
  spans_cons x [] there above are = there
  spans_cons x (y ∷ ys) there above are = and_from _ (are_spans p q (y ∷ ys)) (and_from (is_some (constant_width p x.1)) (nat_lt x.0 y.0) there above) are

  spans_head : (x : SpanValue) (ys : List SpanValue) → are_spans p q (x ∷ ys) ≡ true → is_some (constant_width p x.1) ≡ true
  spans_head x [] are = are
  spans_head x (y ∷ ys) are = (and_parts _ _ (and_parts _ _ are).0).0

  spans_above : (x : SpanValue) (ys : List SpanValue) → are_spans p q (x ∷ ys) ≡ true → Above x.0 ys ≡ true
  spans_above x [] are = refl
  spans_above x (y ∷ ys) are = (and_parts _ _ (and_parts _ _ are).0).1

  spans_tail : (x : SpanValue) (ys : List SpanValue) → are_spans p q (x ∷ ys) ≡ true → are_spans p q ys ≡ true
  spans_tail x [] are = refl
  spans_tail x (y ∷ ys) are = (and_parts _ _ are).1

  above_by : (n : ℕ) (x y : SpanValue) (ys more : List SpanValue) (less same : Bool) → nat_lt n x.0 ≡ true → nat_lt n y.0 ≡ true →
      Above n (elim less as (λ b. List SpanValue) [ true ↦ x ∷ y ∷ ys | false ↦ elim same as (λ b. List SpanValue) [ true ↦ x ∷ ys | false ↦ y ∷ more ] ]) ≡ true
  above_by n x y ys more true same hx hy = hx
  above_by n x y ys more false true hx hy = hx
  above_by n x y ys more false false hx hy = hy

  above_with : (n : ℕ) (x : SpanValue) (ys : List SpanValue) → nat_lt n x.0 ≡ true → Above n ys ≡ true → Above n (with_span x ys) ≡ true
  above_with n x [] hx hy = hx
  above_with n x (y ∷ ys) hx hy = above_by n x y ys (with_span x ys) (nat_lt x.0 y.0) (x.0 == y.0) hx hy

  spans_by : (x y : SpanValue) (ys : List SpanValue) (less same : Bool) → nat_lt x.0 y.0 ≡ less → (x.0 == y.0) ≡ same → is_some (constant_width p x.1) ≡ true → are_spans p q (y ∷ ys) ≡ true →
      (are_spans p q ys ≡ true → are_spans p q (with_span x ys) ≡ true) →
      are_spans p q (elim less as (λ b. List SpanValue) [ true ↦ x ∷ y ∷ ys | false ↦ elim same as (λ b. List SpanValue) [ true ↦ x ∷ ys | false ↦ y ∷ with_span x ys ] ]) ≡ true
  spans_by x y ys true same l e there are later = spans_cons x (y ∷ ys) there l are
  spans_by x y ys false true l e there are later =
      spans_cons x ys there (subst (λ n. Above n ys ≡ true) (sym (eqb-true x.0 y.0 e)) (spans_above y ys are)) (spans_tail y ys are)
  spans_by x y ys false false l e there are later =
      let more : y.0 < x.0 = let a : y.0 ≤ x.0 = ltb-false x.0 y.0 l in let b : x.0 ≡ y.0 → ⊥ = eqb-false x.0 y.0 e in omega arith in
      spans_cons y (with_span x ys) (spans_head y ys are) (above_with y.0 x ys (lt-ltb y.0 x.0 more) (spans_above y ys are)) (later (spans_tail y ys are))

  with_are : (x : SpanValue) (ys : List SpanValue) → is_some (constant_width p x.1) ≡ true → are_spans p q ys ≡ true → are_spans p q (with_span x ys) ≡ true
  with_are x [] there are = there
  with_are x (y ∷ ys) there are = spans_by x y ys (nat_lt x.0 y.0) (x.0 == y.0) refl refl there are (with_are x ys there)

  abbrev AreThere : List SpanValue → Type 0
  AreThere [] = Unit {0}
  AreThere (x ∷ xs) = (is_some (constant_width p x.1) ≡ true) × AreThere xs

  innermost_are : (xs : List SpanValue) → AreThere xs → are_spans p q (innermost xs) ≡ true
  innermost_are [] there = refl
  innermost_are (x ∷ xs) there = with_are x (innermost xs) there.0 (innermost_are xs there.1)

  there_append : (xs ys : List SpanValue) → AreThere xs → AreThere ys → AreThere (xs ++ ys)
  there_append [] ys h k = k
  there_append (x ∷ xs) ys h k = (h.0, there_append xs ys h.1 k)

  values_there : (names : Senses) → NamesFit p q names → (ts : List SpanTree) → AreThere (map (span_value names) ts)
  values_there names fit [] = tt
  values_there names fit (t ∷ ts) = (constant_there p q names fit t.value, values_there names fit ts)

-- ---- targets

pub target_there : (p : Program) (q : Proc) (token : ℕ) (sense : Option Sense) → target_spots token sense ≡ [] → sense_fits p q sense ≡ true → IsWide sense → is_target p q (target_in sense) ≡ true
target_there p q token (Some (meanings.Variable n (Some w))) none fit wide = fit
target_there p q token (Some (meanings.Variable n None)) none fit wide = absurd wide
target_there p q token (Some (meanings.Register n (Some w))) none fit wide = fit
target_there p q token (Some (meanings.Register n None)) none fit wide = absurd wide
target_there p q token (Some (meanings.Value c)) none fit wide = cc
target_there p q token (Some (meanings.Broken w)) none fit wide = cc
target_there p q token (Some (meanings.Stackdata n)) none fit wide = cc
target_there p q token (Some (meanings.Continuation n)) none fit wide = cc
target_there p q token (Some (meanings.Typedef w)) none fit wide = cc
target_there p q token (Some meanings.CodeLabel) none fit wide = cc
target_there p q token (Some (meanings.Host h)) none fit wide = cc
target_there p q token None none fit wide = cc

-- ---- exits

declared_one : (o : Option Local) → ◌≡◌ {A = Bool} (elim o [ Some a ↦ is_continuation a | None ↦ false ]) true → (l : Local) × ((o ≡ Some l) × (is_continuation l ≡ true))
declared_one (Some l) e = (l, (refl, e))
declared_one None e = let bad : false ≡ true = e in cc

module _ (outer : Senses) (tree : ProcTree) where
  abbrev s : Scope
  s = scope_of outer tree

  abbrev count : ℕ
  count = length (flat_map (part_conts s) (parts_of tree.body))

  exit_below : (i : Ident) → exit_spots s i ≡ [] → below count (continuation_of s i) ≡ true
  exit_below i none =
      let known = declared_one (found i.name s.own) (no_unless (is_declared is_continuation i.name s.own) NoSuchLabel i.token none) in
      let under : continuation_of s i < how_many is_continuation s.own = number_below is_continuation i.name known.0 s.own known.1.0 known.1.1 in
      lt-ltb (continuation_of s i) count (subst (λ n. continuation_of s i < n) (sym (continuations_are s tree)) under)

  pub exits_below : (is : List Ident) → flat_map (exit_spots s) is ≡ [] → list_all (below count) (map (continuation_of s) is) ≡ true
  exits_below [] none = refl
  exits_below (i ∷ is) none = and_from (below count (continuation_of s i)) _ (exit_below i (no_left (exit_spots s i) (flat_map (exit_spots s) is) none))
      (exits_below is (no_right (exit_spots s i) (flat_map (exit_spots s) is) none))

  -- an annotation names some of its names, as one kind
  abbrev pub NamesSome : (Flow → List Ident) → Type 0
  NamesSome names = (form : FlowForm) (token : ℕ) → flat_map (exit_spots s) (flow_names record { token = token; form = form }) ≡ [] → flat_map (exit_spots s) (names record { token = token; form = form }) ≡ []

  pub flows_below : (names : Flow → List Ident) → NamesSome names → (fs : List Flow) → flows_spots s fs ≡ [] → flat_map (exit_spots s) (flat_map names fs) ≡ []
  flows_below names some [] none = refl
  flows_below names some (f ∷ fs) none =
      flat_map-append (exit_spots s) (names f) (flat_map names fs)
      ∙ ap (λ t. t ++ flat_map (exit_spots s) (flat_map names fs)) (some f.form f.token (no_left (flat_map (exit_spots s) (flow_names f)) (flows_spots s fs) none))
      ∙ flows_below names some fs (no_right (flat_map (exit_spots s) (flow_names f)) (flows_spots s fs) none)

  by_returns : NamesSome return_names
  by_returns (flows.ReturnsTo is) token none = none
  by_returns (flows.UnwindsTo is) token none = refl
  by_returns (flows.CutsTo is) token none = refl
  by_returns flows.Aborts token none = refl
  by_returns flows.NeverReturns token none = refl

  by_unwinds : NamesSome unwind_names
  by_unwinds (flows.ReturnsTo is) token none = refl
  by_unwinds (flows.UnwindsTo is) token none = none
  by_unwinds (flows.CutsTo is) token none = refl
  by_unwinds flows.Aborts token none = refl
  by_unwinds flows.NeverReturns token none = refl

  pub by_cuts : NamesSome cut_names
  by_cuts (flows.ReturnsTo is) token none = refl
  by_cuts (flows.UnwindsTo is) token none = refl
  by_cuts (flows.CutsTo is) token none = none
  by_cuts flows.Aborts token none = refl
  by_cuts flows.NeverReturns token none = refl

  -- ---- a site

  module _ (p : Program) (q : Proc) (conts : length q.conts ≡ count) (fit : NamesFit p q (senses s)) (wide : (name : List ℕ) → IsWide (senses s name)) where
    continuations_below : (names : Flow → List Ident) → NamesSome names → (fs : List Flow) → flows_spots s fs ≡ [] → list_all (below (length q.conts)) (continuations_by s names fs) ≡ true
    continuations_below names some fs none =
        ap (λ n. list_all (below n) (continuations_by s names fs)) conts ∙ exits_below (flat_map names fs) (flows_below names some fs none)

    ident_there : (i : Ident) → ident_spots s i ≡ [] → is_target p q (target_of (senses s) i) ≡ true
    ident_there i none = target_there p q i.token (senses s i.name) none (fit i.name) (wide i.name)

    results_there : (ks : List Kinded) → flat_map (λ k. ident_spots s k.name) ks ≡ [] → list_all (is_target p q) (map (λ k. target_of (senses s) k.name) ks) ≡ true
    results_there [] none = refl
    results_there (k ∷ ks) none = and_from (is_target p q (target_of (senses s) k.name)) _ (ident_there k.name (no_left (ident_spots s k.name) (flat_map (λ j. ident_spots s j.name) ks) none))
        (results_there ks (no_right (ident_spots s k.name) (flat_map (λ j. ident_spots s j.name) ks) none))

    site_there : (results : List Target) (yielded : Option ℕ) (fs : List Flow) (spans : List SpanValue) → at_most_64 results ≡ true → list_all (is_target p q) results ≡ true →
        site_flows_spots s fs ≡ [] → are_spans p q spans ≡ true → is_site p q (site_with s results yielded fs spans) ≡ true
    site_there results yielded fs spans few there none are =
        let exits = no_left (flows_spots s fs) (past_limit Limit 64 (λ i. i.token) (flat_map return_names fs)) none in
        let alternates : length (flat_map return_names fs) ≤ 64 =
        within Limit 64 (λ i. i.token) (flat_map return_names fs) (no_right (flows_spots s fs) (past_limit Limit 64 (λ i. i.token) (flat_map return_names fs)) none) in
        let returns : at_most_64 (continuations_by s return_names fs) ≡ true =
        le-leb (length (continuations_by s return_names fs)) 64 (subst (λ n. n ≤ 64) (sym (length-map (flat_map return_names fs) (continuation_of s))) alternates) in
        and_from _ _ (and_from _ _ (and_from _ _ (and_from _ _ (and_from _ _ (and_from _ _ few there) returns)
        (continuations_below return_names by_returns fs exits)) (continuations_below unwind_names by_unwinds fs exits)) (continuations_below cut_names by_cuts fs exits)) are

    form_there : (first : ℕ) (form : StmtForm) (spans : List SpanValue) → stmt_spots s first form ≡ [] → are_spans p q spans ≡ true → list_all (is_site p q) (form_sites s spans form) ≡ true
    form_there first (stmts.Call results None callee actuals fs) spans none are =
        let before = no_left _ (site_flows_spots s fs) none in
        let names = no_left (results_spots s results) (callee_spots s true callee) (no_left _ (actuals_spots s actuals) before) in
        let few : length (map (λ k. target_of (senses s) k.name) results) ≤ 64 =
        subst (λ n. n ≤ 64) (sym (length-map results (λ k. target_of (senses s) k.name)))
        (within TooManyValues 64 (λ k. first_token k.kind k.name.token) results (no_left (too_many_names results) (flat_map (λ k. ident_spots s k.name) results) names)) in
        and_from _ true (site_there (map (λ k. target_of (senses s) k.name) results) (yielded_by s callee actuals) fs spans
        (le-leb (length (map (λ k. target_of (senses s) k.name) results)) 64 few)
        (results_there results (no_right (too_many_names results) (flat_map (λ k. ident_spots s k.name) results) names))
        (no_right _ (site_flows_spots s fs) none) are) refl
    form_there first (stmts.Checked result operator left right fs) spans none are =
        let checked = no_left (checked_spots s result operator left right) (site_flows_spots s fs) none in
        and_from _ true (site_there (target_of (senses s) result ∷ []) (Some 1) fs spans refl
        (and_from _ true (ident_there result (no_left (ident_spots s result) _ (no_left _ _ (no_left _ _ (no_left _ _ (no_left _ _ checked)))))) refl)
        (no_right (checked_spots s result operator left right) (site_flows_spots s fs) none) are) refl
    form_there first (stmts.Call results (Some convention) callee actuals fs) spans none are = refl
    form_there first (stmts.If' c _ body otherwise) spans none are = refl
    form_there first (stmts.Switch' range value _ arms) spans none are = refl
    form_there first (stmts.Span' key value _ body) spans none are = refl
    form_there first (stmts.Assign to values) spans none are = refl
    form_there first (stmts.Jump callee actuals) spans none are = refl
    form_there first (stmts.Return exit values) spans none are = refl
    form_there first (stmts.Label name) spans none are = refl
    form_there first (stmts.Continuation name parameters) spans none are = refl
    form_there first (stmts.Goto name) spans none are = refl
    form_there first (stmts.Cut callee actuals fs) spans none are = refl
    form_there first stmts.Empty spans none are = refl

    part_there : (x : Part) (spans : List SpanValue) → part_spots s x ≡ [] → are_spans p q spans ≡ true → list_all (is_site p q) (part_sites s spans x) ≡ true
    part_there (parts.Local l) spans none are = refl
    part_there (parts.Stmt' first past form) spans none are = form_there first form spans none are

    all_there : (around : List SpanValue) → AreThere p q around → (ps : List (Within Part)) → flat_map (part_spots s) (whats ps) ≡ [] → list_all (is_site p q) (sites_among s around ps) ≡ true
    all_there around there [] none = refl
    all_there around there (x ∷ ps) none =
        let spans = innermost (map (span_value (senses s)) x.spans ++ around) in
        list_all-append (is_site p q) (part_sites s spans x.what) (sites_among s around ps)
        ∙ and_from (list_all (is_site p q) (part_sites s spans x.what)) _
        (part_there x.what spans (no_left (part_spots s x.what) (flat_map (part_spots s) (whats ps)) none)
        (innermost_are p q (map (span_value (senses s)) x.spans ++ around) (there_append p q (map (span_value (senses s)) x.spans) around (values_there p q (senses s) fit x.spans) there)))
        (all_there around there ps (no_right (part_spots s x.what) (flat_map (part_spots s) (whats ps)) none))

pub sites_are_there : SitesAreThere
sites_are_there us accepted = all_accepted (λ q. IsTrue (list_all (is_site (meaning_of us) q) q.sites)) us accepted (λ earlier u number place around tree none.
    let outer = unit_senses (program_of (named_units us)) u.entries in let p = meaning_of us in let q = procedure_of outer number around tree in
    let rules = no_left (proc_spots outer tree) (proc_limits outer tree) none in
    let unit : NamesFit p q outer = names_of us accepted earlier place.later u place.units q in
    let own : NamesFit p q (senses (scope_of outer tree)) = scopes_fit p outer number around tree unit in
    let wide = scope_wide outer (unit_wide (program_of (named_units us)) u.entries (declared_there us accepted earlier place.later u place.units)) tree rules in
    all_there outer tree p q refl own wide (map (span_value outer) around) (values_there p q outer unit around) (parts_in [] tree.body)
    (no_right _ (flat_map (part_spots (scope_of outer tree)) (parts_of tree.body)) rules))
