use Rattle.std.proofs.Common.{◌≡◌, ◌-◌, ◌<◌, ◌^◌, ◌∙◌, ap, length, [], subst, rules}
use Rattle.cmm_proc_scope.specs.Bodies.{scope_of_body}
use Rattle.cmm_lower.specs.inside.Making.{PartsMade}
use Rattle.cmm_lower.proofs.WholeProcedures.{procedure_is}
use Rattle.cmm_lower.proofs.procedures.procedure_of.Goals as goal

pub returns : goal.returns
returns g c spans force fits =
    let s = scope_of_body g.N.Names.senses c.within-names.result in let tree = c.tree-proc.result.now in
    let named : c.in_ok-name.name ≡ tree.name.name = search rules in
    procedure_is (g.N.Names.senses c.args.outer.now) c.args.unit spans c.args.own.now s c.args.around.now c.in_ok-name.name c.saturating_sub.result c.formal_count.result c.in_ok-vars.vars
    c.in_ok-stack.stack c.in_ok-conts.conts c.statements_of.new.sites c.in_ok-body.body c.within-names.ensures.scope force fits (named ∙ ap (λ p. p.name.name) c.tree-proc.ensures)
    (c.saturating_sub.ensures ∙ ap (λ p. p.past - p.name.token) c.tree-proc.ensures)
    (subst (λ fs. length fs < 2 ^ 32 → c.formal_count.result ≡ length fs) (c.as_slice-2.ensures ∙ ap (λ p. p.formals) c.tree-proc.ensures) c.formal_count.ensures)
    c.in_ok-vars.ensures c.in_ok-stack.ensures.fitting c.in_ok-conts.ensures
    (subst (λ ps. PartsMade s c.args.around.now [] c.statements_of.new.sites ps c.in_ok-body.body) (c.as_slice.ensures ∙ ap (λ p. p.body.parts) c.tree-proc.ensures)
    (subst (λ old. PartsMade s c.args.around.now old c.statements_of.new.sites c.as_slice.result.now c.in_ok-body.body) c.new-sites.ensures c.in_ok-body.ensures))
