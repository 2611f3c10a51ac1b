-- A procedure from its parts.
use Rattle.std.proofs.Common.{◌≡◌, ℕ, ◌-◌, ◌<◌, ◌^◌, length, refl, sym, ap, ◌∙◌, subst, List, [], ◌++◌}
use Rattle.std.specs.Prelude.{flat_map, map}
use Rattle.std.specs.List.{All}
use Rattle.cmm_ast.specs.declared.procedure.Proc.{Proc as ProcTree}
use Rattle.cmm_program.specs.declared.procedure.Cont.{Cont}
use Rattle.cmm_program.specs.declared.procedure.Proc.{Proc}
use Rattle.cmm_program.specs.declared.procedure.Site.{Site}
use Rattle.cmm_program.specs.declared.procedure.StackItem.{StackItem}
use Rattle.cmm_program.specs.declared.procedure.VarInfo.{VarInfo}
use Rattle.cmm_program.specs.declared.statement.Statement.{Statement}
use Rattle.cmm_static_semantics.specs.Items.{SpanTree, parts_in, parts_of}
use Rattle.cmm_static_semantics.specs.Scopes.{Scope, senses}
use Rattle.cmm_static_semantics.specs.Senses.{Senses}
use Rattle.cmm_static_semantics.specs.Statements.{scope_of}
use Rattle.cmm_elaboration.specs.Procedures.{part_conts, procedure_of, stack_items, variable_infos}
use Rattle.cmm_elaboration.specs.Sites.{SpanValue, innermost, sites_among, span_value}
use Rattle.cmm_lower_parts.specs.Owned.{TakesVariables, rooms_in}
use Rattle.cmm_lower.specs.Fitting.{ProcFits}
use Rattle.cmm_lower.specs.inside.Making.{PartsMade}
use Rattle.cmm_lower.proofs.Variants.{list_is}

made_of : (outer : Senses) (unit : ℕ) (spans : List SpanTree) (p : ProcTree) (name : List ℕ) (tokens formals : ℕ) (vars : List VarInfo) (stack : List StackItem)
    (conts : List Cont) (sites : List Site) (body : List Statement) → let s = scope_of outer p in
    name ≡ p.name.name → tokens ≡ p.past - p.name.token → formals ≡ length p.formals → vars ≡ variable_infos s p → stack ≡ stack_items s (rooms_in p) →
    conts ≡ flat_map (part_conts s) (parts_of p.body) → sites ≡ sites_among s (map (span_value outer) spans) (parts_in [] p.body) → body ≡ (procedure_of outer unit spans p).body →
    ◌≡◌ {A = Proc} (record { name = name; unit = unit; tokens = tokens; formals = formals; vars = vars; stack = stack; conts = conts; sites = sites; body = body })
    (procedure_of outer unit spans p)
made_of outer unit spans p name tokens formals vars stack conts sites body a b c d e f g h = rw (a, b, c, d, e, f, g, h) refl

pub procedure_is : (outer : Senses) (unit : ℕ) (spans : List SpanTree) (p : ProcTree) (s : Scope) (around : List SpanValue) (name : List ℕ) (tokens formals : ℕ) (vars : List VarInfo) (stack : List StackItem)
    (conts : List Cont) (sites : List Site) (body : List Statement) → s ≡ scope_of outer p → around ≡ innermost (map (span_value outer) spans) → ProcFits outer p →
    name ≡ p.name.name → tokens ≡ p.past - p.name.token → (length p.formals < 2 ^ 32 → formals ≡ length p.formals) → vars ≡ variable_infos s p →
    (All (λ i. i.length < 2 ^ 32) (stack_items s (rooms_in p)) → stack ≡ stack_items s (rooms_in p)) →
    (All (TakesVariables s) (parts_of p.body) → conts ≡ flat_map (part_conts s) (parts_of p.body)) → PartsMade s around [] sites p.body.parts body →
    ◌≡◌ {A = Proc} (record { name = name; unit = unit; tokens = tokens; formals = formals; vars = vars; stack = stack; conts = conts; sites = sites; body = body })
    (procedure_of outer unit spans p)
procedure_is outer unit spans p s around name tokens formals vars stack conts sites body same force fits named long counted infos items continued made =
    let r = scope_of outer p in
    let all = subst (λ q. PartsMade q around [] sites p.body.parts body) same made [] (map (span_value outer) spans) force fits.body in
    made_of outer unit spans p name tokens formals vars stack conts sites body named long (counted fits.formals)
    (infos ∙ ap (λ q. variable_infos q p) same)
    (subst (λ q. All (λ i. i.length < 2 ^ 32) (stack_items q (rooms_in p)) → stack ≡ stack_items q (rooms_in p)) same items fits.stackdata)
    (subst (λ q. All (TakesVariables q) (parts_of p.body) → conts ≡ flat_map (part_conts q) (parts_of p.body)) same continued fits.parameters)
    all.1 (all.0 ∙ sym (list_is r 0 p.body.parts))
