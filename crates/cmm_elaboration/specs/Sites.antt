-- The call sites of a procedure, with their annotations and the spans in force at each (C-- Language Specification 2.0, call-site annotations
-- and spans).
use Rattle.std.specs.Prelude.{ℕ, ◌==◌, nat_lt, Bool, true, false, List, [], ◌∷◌, ◌++◌, map, flat_map, length, Option, Some, None}
use Rattle.std.specs.List.{list_any}
use Rattle.cmm_words.specs.declared.constant.Constant.{Constant}
use Rattle.cmm_ast.specs.declared.token.Ident.{Ident}
use Rattle.cmm_ast.specs.declared.statement.Actual.{Actual}
use Rattle.cmm_ast.specs.declared.statement.Callee.{Callee}
use Rattle.cmm_ast.specs.declared.statement.Flow.{Flow}
use Rattle.cmm_ast.specs.declared.statement.FlowForm.TheVariants as flows
use Rattle.cmm_ast.specs.declared.statement.Part.{Part}
use Rattle.cmm_ast.specs.declared.statement.Part.TheVariants as parts
use Rattle.cmm_ast.specs.declared.statement.StmtForm.{StmtForm}
use Rattle.cmm_ast.specs.declared.statement.StmtForm.TheVariants as stmts
use Rattle.cmm_program.specs.declared.procedure.Site.{Site}
use Rattle.cmm_program.specs.declared.procedure.Target.{Target}
use Rattle.cmm_static_semantics.specs.declared.sense.Host.TheVariants.{Yield, PutByte, GetByte}
use Rattle.cmm_static_semantics.specs.Senses.{Senses}
use Rattle.cmm_static_semantics.specs.Typing.{of_primary}
use Rattle.cmm_static_semantics.specs.Items.{SpanTree, Within}
use Rattle.cmm_static_semantics.specs.Declarations.{is_continuation, number_in}
use Rattle.cmm_static_semantics.specs.Scopes.{Scope, senses}
use Rattle.cmm_static_semantics.specs.Calls.{foreign_callee, return_names}
use Rattle.cmm_static_semantics.specs.Limits.{number_or_zero}
use Rattle.cmm_elaboration.specs.Resolving.{target_of, constant_at}

-- ---- annotations: several of one kind are joined in their order

abbrev pub unwind_names : Flow → List Ident
unwind_names f = elim f.form [ flows.UnwindsTo names ↦ names | _ ↦ [] ]

abbrev pub cut_names : Flow → List Ident
cut_names f = elim f.form [ flows.CutsTo names ↦ names | _ ↦ [] ]

abbrev pub is_aborts : Flow → Bool
is_aborts f = elim f.form [ flows.Aborts ↦ true | _ ↦ false ]

abbrev pub is_never : Flow → Bool
is_never f = elim f.form [ flows.NeverReturns ↦ true | _ ↦ false ]

-- the number of a continuation of the procedure
abbrev pub continuation_of : Scope → Ident → ℕ
continuation_of s i = number_in is_continuation i.name s.own

-- the continuations that annotations of a kind name
abbrev pub continuations_by : Scope → (Flow → List Ident) → List Flow → List ℕ
continuations_by s names fs = map (continuation_of s) (flat_map names fs)

-- ---- spans

abbrev pub SpanValue : Type 0
SpanValue = ℕ × Constant

abbrev pub span_value : Senses → SpanTree → SpanValue
span_value names t = (number_or_zero names (of_primary t.key), constant_at names t.value)

-- with a span inside others, which takes the place of one of its own token
abbrev pub with_span : SpanValue → List SpanValue → List SpanValue
with_span x [] = x ∷ []
with_span x (y ∷ ys) = elim (nat_lt x.0 y.0) [
  | true ↦ x ∷ y ∷ ys
  | false ↦ elim (x.0 == y.0) [ true ↦ x ∷ ys | false ↦ y ∷ with_span x ys ]
]

-- of spans, the innermost first: the innermost of each token, by ascending tokens
abbrev pub innermost : List SpanValue → List SpanValue
innermost [] = []
innermost (x ∷ xs) = with_span x (innermost xs)

-- ---- a site

abbrev pub site_with : Scope → List Target → Option ℕ → List Flow → List SpanValue → Site
site_with s results yielded fs spans = record {
  results = results;
  returns = continuations_by s return_names fs;
  unwinds = continuations_by s unwind_names fs;
  cuts = continuations_by s cut_names fs;
  aborts = list_any is_aborts fs;
  never = list_any is_never fs;
  yield_values = yielded;
  spans = spans;
}

-- `yield` is called
abbrev pub is_yield : Scope → Callee → Bool
is_yield s c = elim (foreign_callee s c) [ Some h ↦ elim h [ Yield ↦ true | PutByte ↦ false | GetByte ↦ false ] | None ↦ false ]

abbrev pub yielded_by : Scope → Callee → List Actual → Option ℕ
yielded_by s c as_ = elim (is_yield s c) [ true ↦ Some (length as_) | false ↦ None ]

-- the site of a call, or of a checked operator, which yields one value
abbrev pub form_sites : Scope → List SpanValue → StmtForm → List Site
form_sites s spans (stmts.Call results None callee actuals fs) =
    site_with s (map (λ k. target_of (senses s) k.name) results) (yielded_by s callee actuals) fs spans ∷ []
form_sites s spans (stmts.Checked result operator left right fs) = site_with s (target_of (senses s) result ∷ []) (Some 1) fs spans ∷ []
form_sites s spans _ = []

abbrev pub part_sites : Scope → List SpanValue → Part → List Site
part_sites s spans (parts.Local l) = []
part_sites s spans (parts.Stmt' first past form) = form_sites s spans form

-- the sites among parts, with the spans around the procedure
abbrev pub sites_among : Scope → List SpanValue → List (Within Part) → List Site
sites_among s around ps = flat_map (λ p. part_sites s (innermost (map (span_value (senses s)) p.spans ++ around)) p.what) ps
