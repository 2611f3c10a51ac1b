-- Each list of targets before an `=`, and what follows it, is read.
use Rattle.std.proofs.Common.{◌≡◌, ℕ, suc, ◌≤◌, inl, inr, Bool, List, [], ◌∷◌, ◌++◌, Option, Some, None, refl, sym, ap, ◌∙◌, arith, append_assoc, append-nil, subst, le_refl}
use Rattle.std.proofs.lemmas.List.{map-append}
use Rattle.cmm_lexer.specs.declared.piece.Lexeme.TheVariants as l
use Rattle.cmm_lexer.specs.declared.piece.Lexeme.{Lexeme}
use Rattle.cmm_ast.specs.declared.token.Ident.{Ident}
use Rattle.cmm_ast.specs.declared.token.Text.{Text}
use Rattle.cmm_lexer.specs.declared.keyword.Keyword.TheVariants.{Foreign}
use Rattle.cmm_lexer.specs.declared.symbol.Symbol.TheVariants as sign
use Rattle.cmm_ast.specs.declared.expression.Expr.{Expr}
use Rattle.cmm_ast.specs.declared.expression.ExprForm.TheVariants.{Memory as InMemory, Prim}
use Rattle.cmm_ast.specs.declared.expression.ExprForm.{ExprForm}
use Rattle.cmm_ast.specs.declared.expression.PrimForm.TheVariants.{Bracketed, Name as NameOf}
use Rattle.cmm_ast.specs.declared.statement.Actual.{Actual}
use Rattle.cmm_ast.specs.declared.statement.Callee.{Callee}
use Rattle.cmm_ast.specs.declared.statement.CalleeForm.TheVariants as callees
use Rattle.cmm_ast.specs.declared.statement.CalleeForm.{CalleeForm}
use Rattle.cmm_ast.specs.declared.statement.Flow.{Flow}
use Rattle.cmm_ast.specs.declared.statement.Kinded.{Kinded}
use Rattle.cmm_ast.specs.declared.statement.Lvalue.TheVariants as lvalues
use Rattle.cmm_ast.specs.declared.statement.Lvalue.{Lvalue}
use Rattle.cmm_ast.specs.declared.statement.StmtForm.TheVariants as stmts
use Rattle.cmm_ast.specs.declared.statement.StmtForm.{StmtForm}
use Rattle.cmm_lexer.specs.Spellings.{symbol_number, keyword_number}
use Rattle.cmm_grammar.specs.Taking.{Takes, ◌⨾◌, nothing, symbol as symbol_is, optional as optional_is, Reading, here as here_is, is_name, is_sign, listed as listed_is, may_comma as may_comma_is, may_list as may_list_is, outermost as outermost_is, round as round_is, token, is_checked, is_word, keyword as keyword_is}
use Rattle.cmm_grammar.specs.ExpressionGrammar as grammar
use Rattle.cmm_grammar.specs.StatementGrammar as bodies
use Rattle.cmm_grammar.specs.Reading.{is_comma, symbol, Reads, if_next, more_listed, next, checked_in, ◌>>=◌}
use Rattle.cmm_grammar.specs.inside.Duties.{Complete}
use Rattle.cmm_grammar.specs.ExpressionReading.{begins_expression, whole}
use Rattle.cmm_grammar.specs.PartReading.{is_any_text, kinded}
use Rattle.cmm_grammar.specs.TargetReading.{Targets, Names, Lvalues, Results, lvalues_of, results_of, with_lvalue, next_target, more_targets, assign, called, callee_of_form, values, after_names, assigned, assignment, checked_operator, is_checked_operator, two_values}
use Rattle.cmm_grammar.proofs.Takings.{rest_to, takes_assoc, commas_to}
use Rattle.cmm_grammar.proofs.ExpressionForms.{opened}
use Rattle.cmm_grammar.proofs.StatementForms.{called_form}
use Rattle.cmm_grammar.proofs.Completes.{Next, Anything, fewer_complete, follow_complete, less_complete, after_complete, give_complete, last_complete, holds_complete, fails_complete, skip_complete, token_strict, both, Only, here_complete, token_taken, number_taken, never_complete, then_complete, same_complete, by_taken}
use Rattle.cmm_grammar.proofs.Tokens.{only_symbol, ident_complete, text_complete, symbol_complete, only_checked, only_keyword, pick_complete}
use Rattle.cmm_grammar.proofs.Lists.{After, Parts, each_of, more_listed_complete, listed_complete, by_turns}
use Rattle.cmm_grammar.proofs.CompleteRepeats.{either_not, some_complete, parts_before, Passes, Not, other_word}
use Rattle.cmm_grammar.proofs.CompleteExpressions.{Begins, Ends, whole_complete, in_brackets_complete, ends_before, ends_after}
use Rattle.cmm_grammar.proofs.CompleteParts.{begins_lvalue, kinded_complete, lvalue_complete}
use Rattle.cmm_grammar.proofs.CompleteCalls.{call_complete, call_after_complete}
use Rattle.cmm_grammar.proofs.CompleteFlows.{NoFlow, annotations_complete}

-- a list, and then what goes on
pub rest_then : {A : Type 0} (p : A → Takes) (as_ : List A) (k : Takes) → (rest_to p as_ nothing ⨾ k) ≡ rest_to p as_ k
rest_then p [] k = refl
rest_then p (a ∷ as_) k =
    takes_assoc (symbol_is sign.Comma) (p a ⨾ rest_to p as_ nothing) k
    ∙ ap (λ t. symbol_is sign.Comma ⨾ t) (takes_assoc (p a) (rest_to p as_ nothing) k)
    ∙ ap (λ t. symbol_is sign.Comma ⨾ p a ⨾ t) (rest_then p as_ k)

-- ---- what statements take after their first parts

-- a call after its callee
abbrev pub CallRest : List Actual → List Flow → Takes
CallRest actuals fs = bodies.arguments actuals ⨾ bodies.annotated fs ⨾ symbol_is sign.Semicolon

-- a call after its results
abbrev pub CallAfter : Option Text → Callee → List Actual → List Flow → Takes
CallAfter by what actuals fs = optional_is (λ t. keyword_is Foreign ⨾ grammar.text t) by ⨾ bodies.callee what ⨾ CallRest actuals fs

-- an assignment after its `=`
abbrev pub ValuesAfter : List Expr → Takes
ValuesAfter vs = listed_is grammar.whole vs ⨾ symbol_is sign.Semicolon

-- a checked operation after its `=`
abbrev pub CheckedAfter : Ident → Expr → Expr → List Flow → Takes
CheckedAfter op left right fs =
    bodies.checked op ⨾ round_is (grammar.whole left ⨾ symbol_is sign.Comma ⨾ grammar.whole right) ⨾ bodies.annotated fs ⨾ symbol_is sign.Semicolon

-- each after its first target
abbrev pub ValuesRest : List Lvalue → List Expr → Takes
ValuesRest to vs = rest_to bodies.lvalue to (symbol_is sign.Assign ⨾ ValuesAfter vs)

abbrev pub ResultsRest : List Kinded → Option Text → Callee → List Actual → List Flow → Takes
ResultsRest ks by what actuals fs = rest_to bodies.kinded ks (symbol_is sign.Assign ⨾ CallAfter by what actuals fs)

abbrev pub CheckedRest : Ident → Expr → Expr → List Flow → Takes
CheckedRest op left right fs = symbol_is sign.Assign ⨾ CheckedAfter op left right fs

-- ---- the targets

abbrev pub AtAssign : Option Lexeme → Type 0
AtAssign = Next (l.Symbol (symbol_number sign.Assign))

-- what each target is followed by
abbrev pub AfterTarget : Option Lexeme → Type 0
AfterTarget = After AtAssign

-- the targets after one more of one sort
abbrev pub adds : {A : Type 0} → (Targets → A → Targets) → Targets → List A → Targets
adds add t [] = t
adds add t (a ∷ as_) = adds add (add t a) as_

-- what targets of one sort are, and how one more is read
pub record Sort {A : Type 0} (fuel : ℕ) (p : A → Takes) (add : Targets → A → Targets) (all : Targets → List A) (Of : Targets → Type 0) : Type 0 where
  pub keeps : (t : Targets) (a : A) → Of t → Of (add t a)
  pub one_more : (t : Targets) (a : A) → Of t → all (add t a) ≡ all t ++ (a ∷ [])
  pub read : (t : Targets) (a : A) → Of t → Complete fuel (p a) (add t a) (next_target fuel t) Anything AfterTarget

module _ {A : Type 0} {fuel : ℕ} {p : A → Takes} {add : Targets → A → Targets} {all : Targets → List A} {Of : Targets → Type 0}
    (sort : Sort fuel p add all Of) where
  pub adds_keep : (as_ : List A) (t : Targets) → Of t → Of (adds add t as_)
  adds_keep [] t of = of
  adds_keep (a ∷ as_) t of = adds_keep as_ (add t a) (sort.keeps t a of)

  pub adds_all : (as_ : List A) (t : Targets) → Of t → all (adds add t as_) ≡ all t ++ as_
  adds_all [] t of = sym (append-nil (all t))
  adds_all (a ∷ as_) t of =
      adds_all as_ (add t a) (sort.keeps t a of) ∙ ap (λ xs. xs ++ as_) (sort.one_more t a of) ∙ append_assoc (all t) (a ∷ []) as_

  no_more : (t : Targets) (turns : ℕ) → Complete (suc turns) nothing t (more_targets (suc turns) fuel t) AfterTarget AtAssign
  no_more t turns = follow_complete (λ x f. inr f) (λ x f. f) (fails_complete is_comma (λ x e. rw e refl) (give_complete t))

  one_more : (t : Targets) (a : A) (as_ : List A) (turns : ℕ) → turns ≤ fuel → Of t →
      Complete turns (rest_to p as_ nothing) (adds add (add t a) as_) (more_targets turns fuel (add t a)) AfterTarget AtAssign →
      Complete (suc turns) (rest_to p (a ∷ as_) nothing) (adds add (add t a) as_) (more_targets (suc turns) fuel t) AfterTarget AtAssign
  one_more t a as_ turns le of rest =
      follow_complete (λ x e. inl e) (λ x f. f)
      (holds_complete is_comma (λ x e. rw e refl)
      (fewer_complete {b = λ _. adds add (add t a) as_} (token_strict (only_symbol sign.Comma)) (skip_complete is_comma (only_symbol sign.Comma)) (λ x f. tt)
      (λ _. then_complete (λ more. more_targets turns fuel more) (less_complete le (sort.read t a of)) (λ x f. f) rest)))

  more_from : (as_ : List A) (t : Targets) (turns : ℕ) → turns ≤ fuel → Of t →
      Complete turns (rest_to p as_ nothing) (adds add t as_) (more_targets turns fuel t) AfterTarget AtAssign
  more_from [] t turns le of = by_turns (λ n. more_targets n fuel t) (λ n le. no_more t n) turns le
  more_from (a ∷ as_) t turns le of =
      by_turns (λ n. more_targets n fuel t) (λ n le. one_more t a as_ n le of (more_from as_ (add t a) n le (sort.keeps t a of))) turns le

  -- the targets after those that were read
  pub more_complete : (as_ : List A) (t : Targets) → Of t →
      Complete fuel (rest_to p as_ nothing) (adds add t as_) (more_targets fuel fuel t) AfterTarget AtAssign
  more_complete as_ t of = more_from as_ t fuel (le_refl fuel) of

-- ---- what is assigned to

-- no name after a kind is among them
abbrev pub OfLvalues : Targets → Type 0
OfLvalues (Results results) = ⊥
OfLvalues _ = Unit {0}

abbrev pub all_lvalues : Targets → List Lvalue
all_lvalues (Names names) = lvalues_of names
all_lvalues (Lvalues to) = to
all_lvalues (Results results) = []

abbrev pub and_lvalue : Targets → Lvalue → Targets
and_lvalue (Names names) v = with_lvalue names v
and_lvalue (Lvalues to) v = Lvalues (to ++ (v ∷ []))
and_lvalue (Results results) v = Results results

lvalue_no_text : (x : Option Lexeme) → Passes begins_lvalue x → Not is_any_text x
lvalue_no_text (Some (l.Text bytes)) e = absurd cc
lvalue_no_text (Some _) e = refl
lvalue_no_text None e = refl

-- a word in memory or a name, after names
lvalue_after_names : (fuel : ℕ) (names : List Ident) (v : Lvalue) →
    Complete fuel (bodies.lvalue v) (with_lvalue names v) (next_target fuel (Names names)) Anything AfterTarget
lvalue_after_names fuel names v =
    follow_complete (λ x f. tt) (either_not _ refl refl)
    (fails_complete is_any_text lvalue_no_text (last_complete (λ to. with_lvalue names to) (lvalue_complete fuel v)))

pub lvalue_sort : (fuel : ℕ) → Sort fuel bodies.lvalue and_lvalue all_lvalues OfLvalues
lvalue_sort fuel = record { keeps = keeps; one_more = one_more; read = read } where
  keeps : (t : Targets) (v : Lvalue) → OfLvalues t → OfLvalues (and_lvalue t v)
  keeps (Names names) (lvalues.Name name) of = tt
  keeps (Names names) (lvalues.Memory m) of = tt
  keeps (Lvalues to) v of = tt
  keeps (Results results) v of = absurd of

  one_more : (t : Targets) (v : Lvalue) → OfLvalues t → all_lvalues (and_lvalue t v) ≡ all_lvalues t ++ (v ∷ [])
  one_more (Names names) (lvalues.Name name) of = map-append lvalues.Name names (name ∷ [])
  one_more (Names names) (lvalues.Memory m) of = refl
  one_more (Lvalues to) v of = refl
  one_more (Results results) v of = absurd of

  read : (t : Targets) (v : Lvalue) → OfLvalues t → Complete fuel (bodies.lvalue v) (and_lvalue t v) (next_target fuel t) Anything AfterTarget
  read (Names names) v of = lvalue_after_names fuel names v
  read (Lvalues to) v of =
      follow_complete (λ x f. tt) (either_not _ refl refl) (last_complete (λ one. Lvalues (to ++ (one ∷ []))) (lvalue_complete fuel v))
  read (Results results) v of = absurd of

-- ---- the results of a call

-- no word in memory is among them
abbrev pub OfResults : Targets → Type 0
OfResults (Lvalues to) = ⊥
OfResults _ = Unit {0}

abbrev pub all_results : Targets → List Kinded
all_results (Names names) = results_of names
all_results (Lvalues to) = []
all_results (Results results) = results

abbrev pub result_after : List Ident → Option Text → Ident → Targets
result_after names None name = Names (names ++ (name ∷ []))
result_after names (Some kind) name = Results (results_of names ++ (record { kind = Some kind; name = name } ∷ []))

abbrev pub and_result : Targets → Kinded → Targets
and_result (Names names) k = result_after names k.kind k.name
and_result (Lvalues to) k = Lvalues to
and_result (Results results) k = Results (results ++ (k ∷ []))

-- a name after its kind
pub kind_complete : {fuel : ℕ} (kind : Text) (name : Ident) →
    Complete fuel (grammar.text kind ⨾ grammar.ident name) (record { kind = Some kind; name = name }) kinded (Next (l.Text kind.bytes)) Anything
kind_complete kind name =
    after_complete {b = λ k. record { kind = k; name = name }} (some_complete is_any_text (λ x e. rw e refl) (text_complete kind)) (λ x f. tt)
    (λ k. last_complete (λ name. record { kind = k; name = name }) (ident_complete name))

result_after_names : (fuel : ℕ) (names : List Ident) (kind : Option Text) (name : Ident) →
    Complete fuel (optional_is grammar.text kind ⨾ grammar.ident name) (result_after names kind name) (next_target fuel (Names names)) Anything AfterTarget
result_after_names fuel names None name = lvalue_after_names fuel names (lvalues.Name name)
result_after_names fuel names (Some kind) name =
    follow_complete (λ x f. tt) (λ x f. tt)
    (holds_complete is_any_text (λ x e. rw e refl) (last_complete (λ k. Results (results_of names ++ (k ∷ []))) (kind_complete kind name)))

pub result_sort : (fuel : ℕ) → Sort fuel bodies.kinded and_result all_results OfResults
result_sort fuel = record { keeps = keeps; one_more = one_more; read = read } where
  keeps_named : (names : List Ident) (kind : Option Text) (name : Ident) → OfResults (result_after names kind name)
  keeps_named names None name = tt
  keeps_named names (Some kind) name = tt

  keeps : (t : Targets) (k : Kinded) → OfResults t → OfResults (and_result t k)
  keeps (Names names) k of = keeps_named names k.kind k.name
  keeps (Lvalues to) k of = absurd of
  keeps (Results results) k of = tt

  one_named : (names : List Ident) (kind : Option Text) (name : Ident) →
      all_results (result_after names kind name) ≡ results_of names ++ (record { kind = kind; name = name } ∷ [])
  one_named names None name = map-append (λ name. record { kind = None; name = name }) names (name ∷ [])
  one_named names (Some kind) name = refl

  one_more : (t : Targets) (k : Kinded) → OfResults t → all_results (and_result t k) ≡ all_results t ++ (k ∷ [])
  one_more (Names names) k of = one_named names k.kind k.name
  one_more (Lvalues to) k of = absurd of
  one_more (Results results) k of = refl

  read : (t : Targets) (k : Kinded) → OfResults t → Complete fuel (bodies.kinded k) (and_result t k) (next_target fuel t) Anything AfterTarget
  read (Names names) k of = result_after_names fuel names k.kind k.name
  read (Lvalues to) k of = absurd of
  read (Results results) k of =
      follow_complete (λ x f. tt) (λ x f. tt) (last_complete (λ k. Results (results ++ (k ∷ []))) (kinded_complete k))

-- ---- what is known where a tree takes the tokens

-- the first token, by what is taken
pub first_complete : {A : Type 0} {fuel : ℕ} {p : Takes} {a : A} {reads : Reads A} {any first follow : Option Lexeme → Type 0} →
    ((r after : Reading) → p r ≡ Some after → first (next r.left)) → Complete fuel p a reads any follow → Complete fuel p a reads first follow
first_complete first one = record {
  moves = one.moves;
  begins = λ r after e f. first r after e;
  complete = one.complete;
}

-- the number of the next token was said twice
pub numbers_same : (n m : ℕ) (p k : Takes) (r after : Reading) → ((here_is n ⨾ here_is m ⨾ p) ⨾ k) r ≡ Some after → n ≡ m
numbers_same n m p k r after e =
    let s = both (here_is n ⨾ here_is m ⨾ p) k r after e in
    let first = number_taken n (here_is m ⨾ p) r s.between s.first in
    first.0 ∙ sym (number_taken m p r s.between first.1).0

-- ---- values

value_parts : Parts begins_expression Begins (Ends 0) (Next (l.Symbol (symbol_number sign.Semicolon)))
value_parts = parts_before begins_expression sign.Semicolon refl refl (ends_after sign.Semicolon refl refl)

-- after what may be the first value or a callee
abbrev after_first : ℕ → List Ident → Expr → Reads StmtForm
after_first fuel names value =
    if_next (is_sign sign.Open) (called fuel names value.token (callee_of_form value.token value.form))
    (assign fuel (lvalues_of names) (more_listed fuel begins_expression (whole fuel) (value ∷ [])))

values_assigned : (fuel : ℕ) (names : List Ident) (vs : List Expr) →
    Complete fuel (ValuesAfter vs) (stmts.Assign (lvalues_of names) vs) (values fuel names) Begins Anything
values_assigned fuel names [] = never_complete (λ r after e. absurd cc)
values_assigned fuel names (v ∷ vs) =
    same_complete
    (ap (λ t. t ⨾ symbol_is sign.Semicolon) (commas_to grammar.whole v vs may_comma_is)
    ∙ takes_assoc (grammar.whole v) (rest_to grammar.whole vs may_comma_is) (symbol_is sign.Semicolon))
    (then_complete (after_first fuel names) (whole_complete fuel v) (ends_after sign.Semicolon refl refl)
    (fails_complete (is_sign sign.Open) (either_not _ refl refl)
    (after_complete {b = λ vs. stmts.Assign (lvalues_of names) vs}
    (more_listed_complete (whole fuel) grammar.whole value_parts vs (v ∷ []) fuel (le_refl fuel) (each_of (whole_complete fuel) vs)) (λ x e. e)
    (λ vs. last_complete (λ _. stmts.Assign (lvalues_of names) vs) (symbol_complete sign.Semicolon)))))

-- ---- a call without a convention, whose callee is read as an expression

module _ (fuel : ℕ) (names : List Ident) (actuals : List Actual) (fs : List Flow) where
  abbrev Called : Callee → Type 0
  Called what =
      Complete fuel (bodies.callee what ⨾ CallRest actuals fs)
      (stmts.Call (results_of names) None what actuals fs) (values fuel names) Begins Anything

  -- by the expression that the callee is, where operators are counted anew after it
  called_as : (n : ℕ) (form : CalleeForm) (value : ExprForm) → callee_of_form n value ≡ Some form →
      Called (record { token = n; form = form })
  called_as n form value is =
      let what : Callee = record { token = n; form = form } in
      let tree : StmtForm = stmts.Call (results_of names) None what actuals fs in
      let rest : Takes = round_is (may_list_is bodies.actual actuals) ⨾ bodies.annotated fs ⨾ symbol_is sign.Semicolon in
      same_complete (sym (called_form n value form is rest))
      (then_complete (after_first fuel names) (whole_complete fuel (record { token = n; form = value })) (ends_before sign.Open refl refl)
      (holds_complete (is_sign sign.Open) (λ x e. rw e refl)
      (subst (λ o. Complete fuel (outermost_is rest) tree (called fuel names n o) (Next (l.Symbol (symbol_number sign.Open))) Anything) (sym is)
      (call_complete fuel (results_of names) None what actuals fs))))

  bracketed_callee : (n : ℕ) (e : Expr) → callee_of_form n (Prim (Bracketed e)) ≡ Some (callees.Bracketed e)
  unfolding opened
  bracketed_callee n e = refl

  values_called : (what : Callee) → Called what
  values_called what = by what.token what.form where
    by : (n : ℕ) (form : CalleeForm) → Called (record { token = n; form = form })
    by n (callees.Name i) =
        by_taken (λ (same : n ≡ i.token). bodies.callee (record { token = n; form = callees.Name i }) ⨾ CallRest actuals fs)
        (λ r after e. (numbers_same n i.token (token (is_name i.name)) (CallRest actuals fs) r after e, e))
        (λ same. subst (λ m. Called (record { token = m; form = callees.Name i })) (sym same)
        (called_as i.token (callees.Name i) (Prim (NameOf i.name)) refl))
    by n (callees.Memory m) = called_as n (callees.Memory m) (InMemory m) refl
    by n (callees.Bracketed e) = called_as n (callees.Bracketed e) (Prim (Bracketed e)) (bracketed_callee n e)

-- ---- what follows the `=`

-- neither a convention nor a checked operator begins an expression
value_no_foreign : (x : Option Lexeme) → Begins x → Not (is_word Foreign) x
value_no_foreign = other_word begins_expression Foreign refl

value_no_checked : (x : Option Lexeme) → Begins x → Not is_checked_operator x
value_no_checked (Some (l.Checked bytes)) e = absurd cc
value_no_checked (Some _) e = refl
value_no_checked None e = refl

values_after_names : {fuel : ℕ} {p : Takes} {form : StmtForm} (names : List Ident) → Complete fuel p form (values fuel names) Begins Anything →
    Complete fuel p form (after_names fuel names) Begins Anything
values_after_names names one =
    fails_complete (is_word Foreign) value_no_foreign (fails_complete is_checked_operator value_no_checked one)

assigned_values : (fuel : ℕ) (t : Targets) → OfLvalues t → (vs : List Expr) →
    Complete fuel (ValuesAfter vs) (stmts.Assign (all_lvalues t) vs) (assigned fuel t) Begins Anything
assigned_values fuel (Names names) of vs = values_after_names names (values_assigned fuel names vs)
assigned_values fuel (Lvalues to) of [] = never_complete (λ r after e. absurd cc)
assigned_values fuel (Lvalues to) of (v ∷ vs) =
    after_complete {b = λ vs. stmts.Assign to vs} (listed_complete (whole fuel) grammar.whole value_parts v vs (whole_complete fuel)) (λ x e. e)
    (λ vs. last_complete (λ _. stmts.Assign to vs) (symbol_complete sign.Semicolon))
assigned_values fuel (Results results) of vs = absurd of

-- the first token of two parts and more
token_first : {test : Lexeme → Bool} {x : Lexeme} → Only test x → (p q : Takes) (r after : Reading) → ((token test ⨾ p) ⨾ q) r ≡ Some after → Next x (next r.left)
token_first {test} {x} only p q r after e =
    let s = both (token test ⨾ p) q r after e in
    let f = both (token test) p r s.between s.first in
    (token_taken test x r f.between only f.first).next_was

assigned_call : (fuel : ℕ) (t : Targets) → OfResults t → (by : Option Text) (what : Callee) (actuals : List Actual) (fs : List Flow) →
    Complete fuel
    (CallAfter by what actuals fs)
    (stmts.Call (all_results t) by what actuals fs) (assigned fuel t) Anything Anything
assigned_call fuel (Names names) of None what actuals fs =
    follow_complete (λ x f. tt) (λ x f. f) (values_after_names names (values_called fuel names actuals fs what))
assigned_call fuel (Names names) of (Some kind) what actuals fs =
    follow_complete (λ x f. tt) (λ x f. f)
    (holds_complete (is_word Foreign) (λ x e. rw e refl)
    (first_complete {first = Next (l.Word (keyword_number Foreign))}
    (token_first (only_keyword Foreign) (grammar.text kind)
    (bodies.callee what ⨾ CallRest actuals fs))
    (call_after_complete fuel (results_of names) (Some kind) what actuals fs)))
assigned_call fuel (Lvalues to) of by what actuals fs = absurd of
assigned_call fuel (Results results) of by what actuals fs =
    follow_complete (λ x f. tt) (λ x f. f) (call_after_complete fuel results by what actuals fs)

checked_operator_complete : {fuel : ℕ} (op : Ident) → Complete fuel (bodies.checked op) op checked_operator (Next (l.Checked op.name)) Anything
checked_operator_complete op =
    after_complete (here_complete op.token) (λ x f. f)
    (λ token. last_complete _ (pick_complete checked_in (is_checked op.name) (l.Checked op.name) op.name (only_checked op.name) refl))

two_values_complete : (fuel : ℕ) (left right : Expr) →
    Complete fuel (grammar.whole left ⨾ symbol_is sign.Comma ⨾ grammar.whole right) (left, right) (two_values fuel) Begins (Ends 0)
two_values_complete fuel left right =
    after_complete {b = λ left. (left, right)} (whole_complete fuel left) (ends_before sign.Comma refl refl) (λ left.
    after_complete {b = λ _. (left, right)} (symbol_complete sign.Comma) (λ x f. tt) (λ _. last_complete (λ right. (left, right)) (whole_complete fuel right)))

assigned_checked : (fuel : ℕ) (name op : Ident) (left right : Expr) (fs : List Flow) →
    Complete fuel (CheckedAfter op left right fs) (stmts.Checked name op left right fs) (assigned fuel (Names (name ∷ []))) (Next (l.Checked op.name)) Anything
assigned_checked fuel name op left right fs =
    fails_complete (is_word Foreign) (λ x e. rw e refl)
    (holds_complete is_checked_operator (λ x e. rw e refl)
    (after_complete {b = λ op. stmts.Checked name op left right fs} (checked_operator_complete op) (λ x f. tt) (λ op.
    after_complete {b = λ two. stmts.Checked name op two.0 two.1 fs}
    (less_complete (omega arith) (in_brackets_complete sign.Open sign.Close (ends_before sign.Close refl refl) (two_values_complete fuel left right))) (λ x f. tt)
    (λ two. after_complete {b = λ fs. stmts.Checked name op two.0 two.1 fs} (annotations_complete fuel fs) no_flow
    (λ fs. last_complete (λ _. stmts.Checked name op two.0 two.1 fs) (symbol_complete sign.Semicolon))))))
  where
    no_flow : (x : Option Lexeme) → x ≡ Some (l.Symbol (symbol_number sign.Semicolon)) → NoFlow x
    no_flow x is = rw is (refl, (refl, refl))

-- ---- the rest of an assignment or of a call with results, after the first target

-- by what follows the `=` after all of the targets
after_targets : {A : Type 0} {fuel : ℕ} {k : Takes} {q : A → Takes} {add : Targets → A → Targets} {all : Targets → List A} {Of : Targets → Type 0}
    {form : StmtForm} {begins : Option Lexeme → Type 0} → Sort fuel q add all Of → (as_ : List A) (t : Targets) → Of t →
    Complete fuel k form (assigned fuel (adds add t as_)) begins Anything →
    Complete fuel (rest_to q as_ (symbol_is sign.Assign ⨾ k)) form (assignment fuel t) AfterTarget Anything
after_targets {fuel = fuel} {k = k} {q = q} {form = form} sort as_ t of rest =
    same_complete (sym (rest_then q as_ (symbol_is sign.Assign ⨾ k)))
    (then_complete (λ targets. symbol sign.Assign >>= λ _. assigned fuel targets) (more_complete sort as_ t of) (λ x e. e)
    (after_complete {b = λ _. form} (symbol_complete sign.Assign) (λ x f. tt) (λ _. rest)))

pub assignment_values : (fuel : ℕ) (t : Targets) → OfLvalues t → (to : List Lvalue) (vs : List Expr) →
    Complete fuel (ValuesRest to vs)
    (stmts.Assign (all_lvalues t ++ to) vs) (assignment fuel t) AfterTarget Anything
assignment_values fuel t of to vs =
    let sort = lvalue_sort fuel in
    let all : Targets = adds and_lvalue t to in
    after_targets sort to t of
    (subst
    (λ them. Complete fuel (ValuesAfter vs) (stmts.Assign them vs) (assigned fuel all) Begins Anything)
    (adds_all sort to t of) (assigned_values fuel all (adds_keep sort to t of) vs))

pub assignment_call : (fuel : ℕ) (t : Targets) → OfResults t → (ks : List Kinded) (by : Option Text) (what : Callee) (actuals : List Actual) (fs : List Flow) →
    Complete fuel
    (ResultsRest ks by what actuals fs)
    (stmts.Call (all_results t ++ ks) by what actuals fs) (assignment fuel t) AfterTarget Anything
assignment_call fuel t of ks by what actuals fs =
    let sort = result_sort fuel in
    let all : Targets = adds and_result t ks in
    after_targets sort ks t of
    (subst
    (λ them. Complete fuel
    (CallAfter by what actuals fs)
    (stmts.Call them by what actuals fs) (assigned fuel all) Anything Anything)
    (adds_all sort ks t of) (assigned_call fuel all (adds_keep sort ks t of) by what actuals fs))

pub assignment_checked : (fuel : ℕ) (name op : Ident) (left right : Expr) (fs : List Flow) →
    Complete fuel
    (CheckedRest op left right fs)
    (stmts.Checked name op left right fs) (assignment fuel (Names (name ∷ []))) AfterTarget Anything
assignment_checked fuel name op left right fs =
    after_targets (lvalue_sort fuel) [] (Names (name ∷ [])) tt (assigned_checked fuel name op left right fs)
