-- The site of a call within C--.
use Rattle.std.proofs.Common.{◌≡◌, ◌<◌, ◌^◌, length, ap, ◌∙◌, sym, subst, List, [], ◌∷◌, ◌++◌, Option, None}
use Rattle.std.specs.Prelude.{map}
use Rattle.cmm_ast.specs.declared.statement.Actual.{Actual}
use Rattle.cmm_ast.specs.declared.statement.Callee.{Callee}
use Rattle.cmm_ast.specs.declared.statement.Flow.{Flow}
use Rattle.cmm_ast.specs.declared.statement.Kinded.{Kinded}
use Rattle.cmm_ast.specs.declared.statement.StmtForm.{StmtForm}
use Rattle.cmm_ast.specs.declared.statement.StmtForm.TheVariants as stmts
use Rattle.cmm_ast.specs.declared.token.Text.{Text}
use Rattle.cmm_program.specs.declared.procedure.Site.{Site}
use Rattle.cmm_static_semantics.specs.Scopes.{Scope, senses}
use Rattle.cmm_elaboration.specs.Resolving.{target_of}
use Rattle.cmm_elaboration.specs.Sites.{SpanValue, form_sites, site_with, yielded_by}
use Rattle.cmm_lower.specs.Fitting.{FlowsFit, FormFits}

module _ (s : Scope) (spans : List SpanValue) where
  abbrev IsSite : List Kinded → Callee → List Actual → List Flow → Site → Type 0
  IsSite results callee actuals flows site = FlowsFit s flows → length actuals < 2 ^ 8 →
      site ≡ site_with s (map (λ k. target_of (senses s) k.name) results) (yielded_by s callee actuals) flows spans

  call_is : (results : List Kinded) (callee : Callee) (actuals : List Actual) (flows : List Flow) (site : Site) (old new : List Site) → IsSite results callee actuals flows site →
      new ≡ old ++ site ∷ [] → FormFits s (stmts.Call results None callee actuals flows) → new ≡ old ++ form_sites s spans (stmts.Call results None callee actuals flows)
  call_is results callee actuals flows site old new made grown fits = grown ∙ ap (λ x. old ++ x ∷ []) (made fits.3 fits.2)

  pub call_sited : (f : StmtForm) (results rs : List Kinded) (convention : Option Text) (callee : Callee) (actuals as_ : List Actual) (flows fs : List Flow) (site : Site) (old new : List Site) →
      f ≡ stmts.Call results convention callee actuals flows → convention ≡ None → rs ≡ results → as_ ≡ actuals → fs ≡ flows → IsSite rs callee as_ fs site → new ≡ old ++ site ∷ [] →
      FormFits s f → new ≡ old ++ form_sites s spans f
  call_sited f results rs convention callee actuals as_ flows fs site old new is none first second third made grown =
      subst (λ g. FormFits s g → new ≡ old ++ form_sites s spans g) (sym (is ∙ ap (λ c. stmts.Call results c callee actuals flows) none))
      (call_is results callee actuals flows site old new
      (subst (λ zs. IsSite results callee actuals zs site) third (subst (λ zs. IsSite results callee zs fs site) second (subst (λ zs. IsSite zs callee as_ fs site) first made))) grown)
