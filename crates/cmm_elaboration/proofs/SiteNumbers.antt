-- The call sites of a body are numbered in textual order.
use Rattle.std.proofs.Common.{◌≡◌, ℕ, ◌+◌, refl, sym, ap, ◌∙◌, subst, List, [], ◌∷◌, ◌++◌, append-nil, length, length-append, Bool, true, false, Some, None, IsTrue}
use Rattle.std.specs.Prelude.{map}
use Rattle.std.specs.List.{range_with_len}
use Rattle.std.proofs.lemmas.Grind.{flat_map-append}
use Rattle.cmm_ast.specs.declared.procedure.Proc.{Proc as ProcTree}
use Rattle.cmm_ast.specs.declared.statement.Callee.{Callee}
use Rattle.cmm_ast.specs.declared.statement.Part.{Part}
use Rattle.cmm_ast.specs.declared.statement.Part.TheVariants as parts
use Rattle.cmm_ast.specs.declared.statement.StmtForm.{StmtForm}
use Rattle.cmm_ast.specs.declared.statement.StmtForm.TheVariants as stmts
use Rattle.cmm_program.specs.declared.expression.Expression.{Expression}
use Rattle.cmm_program.specs.declared.statement.Form.TheVariants as forms
use Rattle.cmm_program.specs.Numbering.{are_each_once, body_numbers, site_number}
use Rattle.cmm_static_semantics.specs.Senses.{Senses}
use Rattle.cmm_static_semantics.specs.Items.{SpanTree, Within, parts_in, parts_of}
use Rattle.cmm_static_semantics.specs.Declarations.{named_units}
use Rattle.cmm_static_semantics.specs.Linking.{program_of}
use Rattle.cmm_static_semantics.specs.Scopes.{Scope, senses}
use Rattle.cmm_static_semantics.specs.Calls.{foreign_callee}
use Rattle.cmm_static_semantics.specs.Statements.{scope_of}
use Rattle.cmm_static_semantics.specs.Limits.{site_count, sites_of, is_site}
use Rattle.cmm_elaboration.specs.Resolving.{values_of, callee_of}
use Rattle.cmm_elaboration.specs.Sites.{SpanValue, is_yield, span_value, innermost, part_sites, sites_among}
use Rattle.cmm_elaboration.specs.Bodies.{form_of, part_of}
use Rattle.cmm_elaboration.specs.Procedures.{procedure_of}
use Rattle.cmm_elaboration.specs.Laws.{AreInOrder, SitesAreInOrder}
use Rattle.cmm_elaboration.proofs.Flat.{whats, flat_from, procedure_is}
use Rattle.cmm_elaboration.proofs.Counting.{numbers_in, host_number, return_number}
use Rattle.cmm_elaboration.proofs.Ranges.{range_append, each_once}
use Rattle.cmm_elaboration.proofs.Everywhere.{all_units}

call_number : (s : Scope) (n : ℕ) (c : Callee) (values : List Expression) (b : Bool) →
    site_number (elim b [ true ↦ forms.Yield n values | false ↦ forms.Call n (callee_of (senses s) c) values ]) ≡ n ∷ []
call_number s n c values true = refl
call_number s n c values false = refl

-- a statement that is a call site has the number of sites before it
form_numbers : (s : Scope) (n : ℕ) (f : StmtForm) → site_number (form_of s n f) ≡ range_with_len n (elim (is_site f) [ true ↦ 1 | false ↦ 0 ])
form_numbers s n (stmts.If' c _ body otherwise) = refl
form_numbers s n (stmts.Switch' range value _ arms) = refl
form_numbers s n (stmts.Span' key value _ body) = refl
form_numbers s n (stmts.Assign to values) = refl
form_numbers s n (stmts.Checked result operator left right flows) = refl
form_numbers s n (stmts.Call results None callee actuals flows) = call_number s n callee (values_of (senses s) actuals) (is_yield s callee)
form_numbers s n (stmts.Call results (Some convention) callee actuals flows) = host_number site_number (λ x. refl) (λ t. refl) refl s (foreign_callee s callee) results (values_of (senses s) actuals)
form_numbers s n (stmts.Jump callee actuals) = refl
form_numbers s n (stmts.Return exit None) = return_number site_number (λ x n es. refl) s exit []
form_numbers s n (stmts.Return exit (Some values)) = return_number site_number (λ x n es. refl) s exit (values_of (senses s) values)
form_numbers s n (stmts.Label name) = refl
form_numbers s n (stmts.Continuation name parameters) = refl
form_numbers s n (stmts.Goto name) = refl
form_numbers s n (stmts.Cut callee actuals flows) = refl
form_numbers s n stmts.Empty = refl

part_numbers : (s : Scope) (n : ℕ) (p : Part) → numbers_in site_number (part_of s n p) ≡ range_with_len n (sites_of p)
part_numbers s n (parts.Local l) = refl
part_numbers s n (parts.Stmt' first past f) = append-nil (site_number (form_of s n f)) ∙ form_numbers s n f

flat_numbers : (s : Scope) (n : ℕ) (ps : List Part) → numbers_in site_number (flat_from s n ps) ≡ range_with_len n (site_count ps)
flat_numbers s n [] = refl
flat_numbers s n (p ∷ ps) =
    flat_map-append (λ st. site_number st.form) (part_of s n p) (flat_from s (n + sites_of p) ps)
    ∙ rw (part_numbers s n p, flat_numbers s (n + sites_of p) ps) (sym (range_append n (sites_of p) (site_count ps)))

-- ---- and as many there are

pub site_here : (s : Scope) (spans : List SpanValue) (p : Part) → length (part_sites s spans p) ≡ sites_of p
site_here s spans (parts.Local l) = refl
site_here s spans (parts.Stmt' first past (stmts.Call results None callee actuals flows)) = refl
site_here s spans (parts.Stmt' first past (stmts.Call results (Some convention) callee actuals flows)) = refl
site_here s spans (parts.Stmt' first past f) = refl

pub length_is : (s : Scope) (around : List SpanValue) (ps : List (Within Part)) → length (sites_among s around ps) ≡ site_count (whats ps)
length_is s around [] = refl
length_is s around (p ∷ ps) = let spans = innermost (map (span_value (senses s)) p.spans ++ around) in
    length-append (part_sites s spans p.what) (sites_among s around ps) ∙ rw (site_here s spans p.what, length_is s around ps) refl

procedure_in_order : (names : Senses) (unit : ℕ) (around : List SpanTree) (p : ProcTree) →
    let q = procedure_of names unit around p in AreInOrder site_number (length q.sites) q
procedure_in_order names unit around p =
    let s = scope_of names p in let count = length (sites_among s (map (span_value names) around) (parts_in [] p.body)) in
    let numbers : body_numbers site_number (procedure_of names unit around p) ≡ range_with_len 0 count =
    ap (numbers_in site_number) (procedure_is names unit around p)
    ∙ flat_numbers s 0 (parts_of p.body)
    ∙ ap (range_with_len 0) (sym (length_is s (map (span_value names) around) (parts_in [] p.body))) in
    record { ascending = numbers; once = subst (λ ns. IsTrue (are_each_once count ns)) (sym numbers) (each_once count) }

pub sites_are_in_order : SitesAreInOrder
sites_are_in_order us =
    all_units (λ q. AreInOrder site_number (length q.sites) q) procedure_in_order (program_of (named_units us)) 0 (named_units us)
