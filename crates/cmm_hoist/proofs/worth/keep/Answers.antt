use Rattle.std.proofs.Common.{sym, subst}
use Rattle.std.specs.Prelude.{Contains}
use Rattle.std.proofs.lemmas.List.Elements.{All-push}
use Rattle.cmm_words.specs.declared.constant.Constant.{Constant}
use Rattle.cmm_graph.specs.declared.operand.Operand.TheVariants as operand
use Rattle.cmm_hoist.specs.inside.Worth.{AreNamed}
use Rattle.cmm_hoist.proofs.worth.keep.Goals as goal

pub returns-clause-named : goal.returns-clause-named
returns-clause-named c = λ among named all.
    subst (AreNamed among) (sym c.in_ok-push.ensures.ok)
    (All-push (λ (it : Constant). Contains among (operand.Constant it)) c.args.kept.now c.in-Some.constant all (rw c.in-Some.is at named))
