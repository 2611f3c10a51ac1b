-- What breaks no rule, and means a procedure in range, fits a program.
use Rattle.std.proofs.Common.{◌≡◌, ℕ, ◌+◌, ◌<◌, ◌≤◌, ◌^◌, length, length-append, refl, sym, ap, ◌∙◌, subst, arith, Bool, true, false, List, [], ◌∷◌, ◌++◌, Option, Some, None, append-nil}
use Rattle.std.specs.Prelude.{◌&&◌, nat_le, flat_map, map, sum_by, IsTrue}
use Rattle.std.specs.List.{All, list_all}
use Rattle.std.proofs.lemmas.Bool.{and_parts, eqb-true, leb-true}
use Rattle.std.proofs.lemmas.List.Elements.{All-nil, All-cons, All-head, All-tail}
use Rattle.std.proofs.lemmas.List.Folds.{list_all-append}
use Rattle.std.proofs.lemmas.List.Sums.{sum_by-cons}
use Rattle.cmm_ast.specs.declared.token.Ident.{Ident}
use Rattle.cmm_ast.specs.declared.procedure.Proc.{Proc as ProcTree}
use Rattle.cmm_ast.specs.declared.statement.Actual.{Actual}
use Rattle.cmm_ast.specs.declared.statement.Exit.{Exit}
use Rattle.cmm_ast.specs.declared.statement.Flow.{Flow}
use Rattle.cmm_ast.specs.declared.statement.Part.{Part}
use Rattle.cmm_ast.specs.declared.statement.Part.TheVariants as parts
use Rattle.cmm_ast.specs.declared.statement.StmtForm.{StmtForm}
use Rattle.cmm_ast.specs.declared.statement.StmtForm.TheVariants as stmts
use Rattle.cmm_ast.specs.declared.unit.Item.TheVariants as items
use Rattle.cmm_program.specs.declared.procedure.Proc.{Proc}
use Rattle.cmm_program.specs.declared.program.Program.{Program}
use Rattle.cmm_program.specs.declared.statement.Form.{Form}
use Rattle.cmm_program.specs.declared.statement.Form.TheVariants.{Call, Checked, Yield}
use Rattle.cmm_program.specs.declared.statement.Statement.{Statement}
use Rattle.cmm_program.specs.Bodies.{body_statements}
use Rattle.cmm_program.specs.InRange.{IsProcInRange, is_statement}
use Rattle.cmm_program.specs.Numbering.{body_numbers, site_number}
use Rattle.cmm_program.specs.Tokens.{own_tokens}
use Rattle.cmm_static_semantics.specs.Calls.{actuals_spots, callee_spots, exit_spots, first_token, flow_names, flows_spots, goto_spots, return_names, site_flows_spots, too_many_actuals}
use Rattle.cmm_static_semantics.specs.Declarations.{again, is_continuation, is_declared, is_label}
use Rattle.cmm_static_semantics.specs.Expressions.{past_limit}
use Rattle.cmm_static_semantics.specs.Faults.{item_procedure_spots}
use Rattle.cmm_static_semantics.specs.Items.{SpanTree, parts_in, parts_of}
use Rattle.cmm_static_semantics.specs.Limits.{number_or_zero, proc_limits, site_count, sites_of}
use Rattle.cmm_static_semantics.specs.Scopes.{Scope, senses}
use Rattle.cmm_static_semantics.specs.Senses.{Senses}
use Rattle.cmm_static_semantics.specs.Statements.{part_spots, passed, proc_spots, scope_of, stmt_spots}
use Rattle.cmm_static_semantics.specs.Typing.{of_primary}
use Rattle.cmm_elaboration.specs.Bodies.{part_of}
use Rattle.cmm_elaboration.specs.Procedures.{procedure_of}
use Rattle.cmm_elaboration.specs.Sites.{span_value}
use Rattle.cmm_elaboration.proofs.Shared.{declared_once, flat_from, length_is, no_left, no_right, no_unless, procedure_is, within}
use Rattle.cmm_typing.specs.Resolved.{AlignmentsFit}
use Rattle.cmm_lower_parts.specs.Owned.{TakesVariables}
use Rattle.cmm_lower_parts.proofs.Shared.{alignments_are_small, each_good, parameters_are_variables, stack_fits}
use Rattle.cmm_lower.proofs.Marked.{IsMarked, marked}
use Rattle.cmm_lower.specs.Fitting.{ExitFits, FlowsFit, FormFits, IsContinuation, PartFits, ProcFits}

-- ---- statements

flows_fit : (s : Scope) (fs : List Flow) → flows_spots s fs ≡ [] → FlowsFit s fs
flows_fit s fs none = each_good (λ f. flat_map (exit_spots s) (flow_names f)) (λ f. All (IsContinuation s) (flow_names f)) fs
    (λ f here. each_good (exit_spots s) (IsContinuation s) (flow_names f) (λ i bad. no_unless (is_declared is_continuation i.name s.own) _ i.token bad) here) none

-- the exit of a return has numbers of 32 bits
abbrev ExitOf : Scope → StmtForm → Type 0
ExitOf s (stmts.Return exit values) = ExitFits s exit
ExitOf s _ = Unit {0}

few_actuals : (s : Scope) (as_ : List Actual) → actuals_spots s as_ ≡ [] → length as_ < 2 ^ 8
few_actuals s as_ none = let few : length as_ ≤ 64 = within _ 64 (λ a. first_token a.kind a.value.token) as_ (no_left (too_many_actuals as_) _ none) in omega arith

form_fits : (s : Scope) (token past : ℕ) (f : StmtForm) → stmt_spots s token f ≡ [] → IsMarked s (parts.Stmt' token past f) → ExitOf s f → FormFits s f
form_fits s token past (stmts.If' condition _ body otherwise) none mark exit = alignments_are_small.expression (senses s) condition (no_right _ _ none)
form_fits s token past (stmts.Switch' range value _ arms) none mark exit = alignments_are_small.expression (senses s) value (no_right _ _ (no_left _ _ none))
form_fits s token past (stmts.Span' key value _ body) none mark exit = tt
form_fits s token past (stmts.Assign to values) none mark exit =
    (alignments_are_small.places s to (no_right _ _ (no_left _ _ none)), alignments_are_small.right_sides s to values (no_right _ _ none))
form_fits s token past (stmts.Checked result operator left right flows) none mark exit = let own = no_left _ (site_flows_spots s flows) none in let inner = no_left _ _ own in (
  alignments_are_small.expression (senses s) left (no_right _ _ (no_left _ _ inner)),
  alignments_are_small.expression (senses s) right (no_right _ _ inner),
  flows_fit s flows (no_left (flows_spots s flows) _ (no_right _ (site_flows_spots s flows) none)),
)
form_fits s token past (stmts.Call results None callee actuals flows) none mark exit =
    let front = no_left _ (site_flows_spots s flows) none in let given = no_right _ (actuals_spots s actuals) front in (
      alignments_are_small.callee s true callee (no_right _ (callee_spots s true callee) (no_left _ (actuals_spots s actuals) front)),
      alignments_are_small.actuals s actuals given,
      few_actuals s actuals given,
      flows_fit s flows (no_left (flows_spots s flows) _ (no_right _ (site_flows_spots s flows) none)),
    )
form_fits s token past (stmts.Call results (Some convention) callee actuals flows) none mark exit =
    alignments_are_small.actuals s actuals (no_right _ (actuals_spots s actuals) (no_left _ (flows_spots s flows) (no_left _ _ none)))
form_fits s token past (stmts.Jump callee actuals) none mark exit =
    (alignments_are_small.callee s false callee (no_left _ (actuals_spots s actuals) none), alignments_are_small.actuals s actuals (no_right (callee_spots s false callee) _ none))
form_fits s token past (stmts.Return exit values) none mark fits = (fits, alignments_are_small.actuals s (passed values) (no_right _ (actuals_spots s (passed values)) none))
form_fits s token past (stmts.Label name) none mark exit = mark
form_fits s token past (stmts.Continuation name parameters) none mark exit = mark
form_fits s token past (stmts.Goto name) none mark exit = no_unless (is_declared is_label name.name s.own) _ name.token none
form_fits s token past (stmts.Cut callee actuals flows) none mark exit = let front = no_left _ (flows_spots s flows) none in (
  alignments_are_small.callee s false callee (no_left _ (actuals_spots s actuals) front),
  alignments_are_small.actuals s actuals (no_right (callee_spots s false callee) _ front),
  flows_fit s flows (no_right _ (flows_spots s flows) none),
)
form_fits s token past stmts.Empty none mark exit = tt

-- ---- a procedure in range

module _ (p : Program) (q : Proc) where
  -- a statement is one call site at most, and has a token
  one_site : (form : Form) → length (site_number form) ≤ own_tokens q form
  one_site (Call site callee actuals) = omega arith
  one_site (Yield site values) = omega arith
  one_site (Checked site op width left right) = omega arith
  one_site form = omega arith

  few_sites : (ss : List Statement) → list_all (is_statement p q) ss ≡ true → length (flat_map (λ st. site_number st.form) ss) ≤ sum_by (λ st. st.tokens) ss
  few_sites [] are = omega arith
  few_sites (st ∷ ss) are =
      let both = and_parts (is_statement p q st) (list_all (is_statement p q) ss) are in
      let own : own_tokens q st.form ≤ st.tokens = leb-true (own_tokens q st.form) st.tokens (and_parts _ (nat_le (own_tokens q st.form) st.tokens) both.0).1 in
      let here : length (site_number st.form) ≤ own_tokens q st.form = one_site st.form in
      let rest : length (flat_map (λ t. site_number t.form) ss) ≤ sum_by (λ t. t.tokens) ss = few_sites ss both.1 in
      let sum : sum_by (λ t. t.tokens) (st ∷ ss) ≡ st.tokens + sum_by (λ t. t.tokens) ss = sum_by-cons (λ t. t.tokens) st ss in
      let long : length (site_number st.form ++ flat_map (λ t. site_number t.form) ss) ≡ length (site_number st.form) + length (flat_map (λ t. site_number t.form) ss) =
      length-append (site_number st.form) (flat_map (λ t. site_number t.form) ss) in omega arith

  -- the exits of returns among parts
  abbrev ExitIn : Scope → Part → Type 0
  ExitIn s (parts.Local l) = Unit {0}
  ExitIn s (parts.Stmt' first past f) = ExitOf s f

  exit_by : (s : Scope) (first past n : ℕ) (f : StmtForm) → list_all (is_statement p q) (part_of s n (parts.Stmt' first past f)) ≡ true → ExitOf s f
  exit_by s first past n (stmts.Return None values) are = tt
  exit_by s first past n (stmts.Return (Some x) values) are =
      let index = number_or_zero (senses s) (of_primary x.index) in let count = number_or_zero (senses s) (of_primary x.count) in
      let form = (and_parts _ _ (and_parts _ _ are).0).0 in
      let range : (nat_le index count && nat_le count 64) ≡ true = (and_parts (nat_le index count && nat_le count 64) _ form).0 in
      let both = and_parts (nat_le index count) (nat_le count 64) range in
      let a : index ≤ count = leb-true index count both.0 in let b : count ≤ 64 = leb-true count 64 both.1 in (omega arith, omega arith)
  exit_by s first past n f are = tt

  exits_fit : (s : Scope) (n : ℕ) (ps : List Part) → list_all (is_statement p q) (flat_from s n ps) ≡ true → All (ExitIn s) ps
  exits_fit s n [] are = All-nil (ExitIn s)
  exits_fit s n (parts.Local l ∷ ps) are = All-cons (ExitIn s) (parts.Local l) ps tt (exits_fit s (n + 0) ps are)
  exits_fit s n (parts.Stmt' first past f ∷ ps) are =
      let here = part_of s n (parts.Stmt' first past f) in let rest = flat_from s (n + sites_of (parts.Stmt' first past f)) ps in
      let both = and_parts (list_all (is_statement p q) here) (list_all (is_statement p q) rest) (sym (list_all-append (is_statement p q) here rest) ∙ are) in
      All-cons (ExitIn s) (parts.Stmt' first past f) ps (exit_by s first past n f both.0) (exits_fit s (n + sites_of (parts.Stmt' first past f)) ps both.1)

-- ---- parts

module _ (program : Program) (q : Proc) (s : Scope) where
  part_fits : (p : Part) → part_spots s p ≡ [] → IsMarked s p → ExitIn program q s p → PartFits s p
  part_fits (parts.Local l) none mark exit = tt
  part_fits (parts.Stmt' first past f) none mark exit = form_fits s first past f none mark exit

  parts_fit : (ps : List Part) → flat_map (part_spots s) ps ≡ [] → All (IsMarked s) ps → All (ExitIn program q s) ps → All (PartFits s) ps
  parts_fit [] none marks exits = All-nil (PartFits s)
  parts_fit (p ∷ ps) none marks exits =
      All-cons (PartFits s) p ps (part_fits p (no_left (part_spots s p) _ none) (All-head (IsMarked s) p ps marks) (All-head (ExitIn program q s) p ps exits))
      (parts_fit ps (no_right (part_spots s p) _ none) (All-tail (IsMarked s) p ps marks) (All-tail (ExitIn program q s) p ps exits))

takes : (s : Scope) (p : Part) → part_spots s p ≡ [] → TakesVariables s p
takes s (parts.Local l) none = tt
takes s (parts.Stmt' first past f) none = parameters_are_variables s first f none

-- a procedure that breaks no rule, where what it means is in range
pub procedure_fits : (program : Program) (outer : Senses) (unit : ℕ) (around : List SpanTree) (tree : ProcTree) → item_procedure_spots outer (items.Proc tree) ≡ [] →
    IsProcInRange program (procedure_of outer unit around tree) → ProcFits outer tree
procedure_fits program outer unit around tree none range =
    let s = scope_of outer tree in let q = procedure_of outer unit around tree in let ps = parts_of tree.body in
    let rules = no_left (proc_spots outer tree) (proc_limits outer tree) none in
    let broken : flat_map (part_spots s) ps ≡ [] = no_right _ (flat_map (part_spots s) ps) rules in
    let statements : list_all (is_statement program q) (flat_from s 0 ps) ≡ true = subst (λ ss. list_all (is_statement program q) ss ≡ true) (procedure_is outer unit around tree) range.body in
    let numbers : length (body_numbers site_number q) ≡ length q.sites = eqb-true _ _ (and_parts _ _ range.sites_numbered).0 in
    let sites : length q.sites ≡ site_count ps = length_is s (map (span_value outer) around) (parts_in [] tree.body) in
    let few : length (body_numbers site_number q) ≤ sum_by (λ st. st.tokens) (body_statements q) = few_sites program q (body_statements q) range.body in
    let counts : sum_by (λ st. st.tokens) (body_statements q) ≤ q.tokens = range.counts in
    let tokens : q.tokens ≤ 131072 = range.frames.tokens in
    let small : 0 + site_count ps < 2 ^ 32 = omega arith in record {
      formals = let few : length tree.formals ≤ 64 = within _ 64 _ tree.formals (no_right (again [] s.own) _ (no_left _ _ (no_left _ (flat_map (part_spots s) ps) rules))) in omega arith;
      body = record {
        each = parts_fit program q s ps broken (marked outer tree (declared_once outer tree none)) (exits_fit program q s 0 ps statements);
        sites = small;
      };
      parameters = each_good (part_spots s) (TakesVariables s) ps (takes s) broken;
      stackdata = stack_fits program q range;
    }
