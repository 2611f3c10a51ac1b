-- The numbers of continuations that annotations name, one after another.
use Rattle.std.proofs.Common.{◌≡◌, ℕ, ◌+◌, ◌<◌, length, take, get_or, refl, sym, ap, ◌∙◌, List, [], ◌++◌}
use Rattle.std.specs.Prelude.{flat_map, map}
use Rattle.std.specs.List.{All}
use Rattle.std.proofs.lemmas.List.{map-append}
use Rattle.std.proofs.lemmas.List.Elements.{All-nil}
use Rattle.cmm_ast.specs.declared.token.Ident.{Ident}
use Rattle.cmm_ast.specs.declared.statement.Flow.{Flow}
use Rattle.cmm_ast.specs.declared.statement.FlowForm.{FlowForm}
use Rattle.cmm_ast.specs.declared.statement.FlowForm.TheVariants as flows
use Rattle.cmm_static_semantics.specs.Calls.{flow_names}
use Rattle.cmm_static_semantics.specs.Scopes.{Scope}
use Rattle.cmm_static_semantics.proofs.Shared.{flat_plain}
use Rattle.cmm_elaboration.specs.Sites.{continuation_of}
use Rattle.cmm_lower.specs.Fitting.{FlowsFit, IsContinuation}
use Rattle.cmm_lower.specs.declared.exits.Exits.{Exits}
use Rattle.cmm_lower.specs.declared.exits.Exits.TheVariants.{Cuts, Returns, Unwinds}
use Rattle.cmm_lower.specs.inside.Exits.{names_by}
use Rattle.cmm_lower.proofs.Turns.{at_}

none_fit : (s : Scope) → All (IsContinuation s) []
none_fit s = All-nil (IsContinuation s)

-- what an annotation names for some ways is among all that it names
named_fit : (s : Scope) (exits : Exits) (token : ℕ) (form : FlowForm) → All (IsContinuation s) (flow_names (record { token = token; form = form })) →
    All (IsContinuation s) (names_by exits (record { token = token; form = form }))
named_fit s Cuts token (flows.CutsTo names) fit = fit
named_fit s Cuts token (flows.UnwindsTo names) fit = none_fit s
named_fit s Cuts token (flows.ReturnsTo names) fit = none_fit s
named_fit s Cuts token flows.Aborts fit = none_fit s
named_fit s Cuts token flows.NeverReturns fit = none_fit s
named_fit s Unwinds token (flows.CutsTo names) fit = none_fit s
named_fit s Unwinds token (flows.UnwindsTo names) fit = fit
named_fit s Unwinds token (flows.ReturnsTo names) fit = none_fit s
named_fit s Unwinds token flows.Aborts fit = none_fit s
named_fit s Unwinds token flows.NeverReturns fit = none_fit s
named_fit s Returns token (flows.CutsTo names) fit = none_fit s
named_fit s Returns token (flows.UnwindsTo names) fit = none_fit s
named_fit s Returns token (flows.ReturnsTo names) fit = fit
named_fit s Returns token flows.Aborts fit = none_fit s
named_fit s Returns token flows.NeverReturns fit = none_fit s

-- a turn of the loop over annotations
pub flow_next : (s : Scope) (exits : Exits) (fs : List Flow) (i : ℕ) (f : Flow) (old new : List ℕ) → i < length fs → f ≡ get_or fs i f →
    (All (IsContinuation s) (names_by exits f) → new ≡ old ++ map (continuation_of s) (names_by exits f)) →
    (FlowsFit s fs → old ≡ map (continuation_of s) (flat_map (names_by exits) (take i fs))) →
    FlowsFit s fs → new ≡ map (continuation_of s) (flat_map (names_by exits) (take (i + 1) fs))
flow_next s exits fs i f old new within is grown before fit =
    grown (named_fit s exits f.token f.form (at_ (λ g. All (IsContinuation s) (flow_names g)) fs i f within is fit))
    ∙ ap (λ t. t ++ map (continuation_of s) (names_by exits f)) (before fit)
    ∙ sym (map-append (continuation_of s) (flat_map (names_by exits) (take i fs)) (names_by exits f))
    ∙ ap (map (continuation_of s)) (sym (flat_plain (names_by exits) fs i f within is))
