use Rattle.std.proofs.Common.{◌≡◌, ◌∙◌, Bool, arith, false, subst, sym, true}
use Rattle.cmm_effects.proofs.Shared.{adds_weaker}
use Rattle.cmm_emit.specs.Naming.{label_at}
use Rattle.cmm_emit.specs.Standing.{LeadsFrom, is_bare}
use Rattle.cmm_emit.proofs.node_code.lead_on.Goals as goal

pub returns-then-is_bare-clause-goes : goal.returns-then-is_bare-clause-goes
returns-then-is_bare-clause-goes c =
    let l = label_at c.args.context.now.nodes c.args.next.number in
    let bare : is_bare c.args.kind.now ≡ true = sym c.is_bare.ensures ∙ c.if-is_bare.true in
    adds_weaker c.in_ok-there.ensures.turns (omega arith) (λ x from to turns. subst (λ (b : Bool). LeadsFrom b (x.at l.number) x from) (sym bare) turns)

pub returns-clause-goes : goal.returns-clause-goes
returns-clause-goes c =
    let l = label_at c.args.context.now.nodes c.args.next.number in
    let full : is_bare c.args.kind.now ≡ false = sym c.is_bare.ensures ∙ c.if-is_bare.false in
    adds_weaker c.in_ok-there-2.ensures.goes (omega arith) (λ x from to goes. subst (λ (b : Bool). LeadsFrom b (x.at l.number) x from) (sym full) goes)
