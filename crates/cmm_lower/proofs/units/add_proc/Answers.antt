use Rattle.std.proofs.Common.{[], ◌∷◌, ◌++◌, ap, ◌∙◌}
use Rattle.cmm_lower.proofs.units.add_proc.Goals as goal

pub returns : goal.returns
returns g c spans force fits = c.in_ok-push.ensures.ok ∙ ap (λ q. c.args.to.now ++ q ∷ []) (c.in_ok-made.ensures spans force fits)
