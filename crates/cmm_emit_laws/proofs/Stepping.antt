-- What the code of one node does, and what is represented where the run ends.
use Rattle.std.proofs.Common.{◌≡◌, ℕ, ◌*◌, Option, Some, None, refl, sym, ◌∙◌, ap, subst}
use Rattle.std.specs.Prelude.{Ok, Err}
use Rattle.rv_table.specs.Machine.{State}
use Rattle.cmm_program.specs.Errors.{Tried, UncheckedError}
use Rattle.cmm_program.specs.State as p
use Rattle.cmm_program.specs.State.{Setting}
use Rattle.cmm_graph.specs.declared.node.Node.{Node}
use Rattle.cmm_graph.specs.declared.node.NodeKind.{NodeKind}
use Rattle.cmm_graph.specs.declared.node.NodeKind.TheVariants.{Return, Stop}
use Rattle.cmm_graph.specs.GraphControl.{kind_at}
use Rattle.cmm_graph.specs.Paths.{node_of}
use Rattle.cmm_select.specs.Laws.{SwitchesLead}
use Rattle.cmm_image_machine.specs.Machine.{Launch}
use Rattle.cmm_located.specs.Compiled.{Compiled, Located}
use Rattle.cmm_located.specs.LocatedMachine.{located_step, tokens_at, tried}
use Rattle.cmm_located.specs.Nodes.{ran_at}
use Rattle.cmm_emit_laws.proofs.Nodes.{found_in}
use Rattle.cmm_emit_laws.proofs.Returning.{end_shown}
use Rattle.cmm_emit_laws.proofs.Simulating.{code_does, keeps, step_is}
use Rattle.cmm_emit_laws.specs.Finished.{Finished}
use Rattle.cmm_emit_laws.specs.NodeCode.{IsCodeOf, ReturnCode}
use Rattle.cmm_emit_laws.specs.Standing.{IsInBody, IsInside}
use Rattle.cmm_emit_laws.specs.Steps.{ComesToEnd, EndsAreRepresented, StepsAreDoneByCode}

pub steps_are_done_by_code : SwitchesLead → StepsAreDoneByCode
steps_are_done_by_code lead s c l f rest at t code stands piece coded run right =
    (code_does lead s c l f rest code at t stands run coded piece right, keeps lead s c l f rest code at t stands run coded piece right)

pub ends_are_represented : EndsAreRepresented
ends_are_represented s c l f rest at t code stands piece exit alternates results is value ended = by (ran_at s c (Return exit alternates results) at) refl
  where
    kind_is : kind_at c.graphs at.procedure at.node ≡ Return exit alternates results
    kind_is = ap (λ (o : Option Node). elim o as (λ _. NodeKind) [ Some node ↦ node.kind | None ↦ Stop ]) stands.there ∙ is

    tokens_are : stands.node.tokens ≡ tokens_at s c at
    tokens_are = sym (ap (λ (o : Option Node). elim o as (λ _. ℕ) [ Some node ↦ node.tokens | None ↦ 0 ]) stands.there)

    body : IsInBody at
    body = subst (λ (kind : NodeKind). IsInside kind at) is stands.inside

    return_code : ReturnCode s c l f at.procedure at.node exit results (32 * tokens_at s c at)
    return_code = subst (λ (n : ℕ). ReturnCode s c l f at.procedure at.node exit results (32 * n)) tokens_are
        (subst (λ (kind : NodeKind). IsCodeOf s c l f at.procedure at.node kind (32 * stands.node.tokens)) is piece)

    steps_to : located_step s c at ≡ tried s c at (ran_at s c (Return exit alternates results) at)
    steps_to = step_is s c at p.Running stands.running ∙ ap (λ (kind : NodeKind). tried s c at (ran_at s c kind at)) kind_is

    wrong_ends : (error : UncheckedError) → located_step s c at ≡ tried s c at (Err error) → ⊥
    wrong_ends error to = let e : p.Wrong error ≡ p.Ended (p.Done value) = sym (ap (λ (z : Located). z.store.status) to) ∙ ended in absurd (cc)

    by : (r : Tried Located) → ran_at s c (Return exit alternates results) at ≡ r → ComesToEnd s l f rest (32 * tokens_at s c at) value t (located_step s c at)
    by (Ok after) ran =
        let to : located_step s c at ≡ after = steps_to ∙ ap (tried s c at) ran in
        let found = found_in c.graphs at.procedure (λ g. node_of g at.node) stands.node stands.there in
        subst (ComesToEnd s l f rest (32 * tokens_at s c at) value t) (sym to)
        (end_shown s c l f rest code.is_for at t stands body (code.laid at.procedure found.0 found.1) exit alternates results (32 * tokens_at s c at) return_code code.back_aligned code.back_fits
        after value (sym (ap (λ (z : Located). z.store.status) to) ∙ ended) ran)
    by (Err error) ran = absurd (wrong_ends error (steps_to ∙ ap (tried s c at) ran))
