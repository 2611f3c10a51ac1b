use Rattle.std.proofs.Common.{◌∙◌, ap, arith, List, ◌∷◌, [], ◌++◌, append_assoc}
use Rattle.rv_asm.proofs.Shared.{codes_new, longest-append}
use Rattle.rv_asm.specs.Sizes.{all_longest}
use Rattle.rv_asm.specs.declared.part.Part.{Part}
use Rattle.rv_asm.specs.declared.part.Part.TheVariants.{Place}
use Rattle.cmm_effects.proofs.Shared.{by_last}
use Rattle.cmm_emit.proofs.start.lay_limit.Goals as goal

pub returns-clause-placed : goal.returns-clause-placed
returns-clause-placed c =
    by_last c.ask_limit.result c.ask_limit.ensures.asks
    (λ h.
    let asks = h.appends in
    let here = Place c.args.limit in
    (asks.parts, asks.added ∙ ap (λ (ps : List Part). ps ++ asks.parts) c.place.ensures.parts ∙ append_assoc c.args.asm.now.parts (here ∷ []) asks.parts))

pub returns-clause-ends : goal.returns-clause-ends
returns-clause-ends c =
    by_last c.ask_limit.result c.ask_limit.ensures.asks
    (λ h.
    codes_new c.args.asm.now.parts c.args.limit c.place.ensures.parts h.appends)

pub returns-clause-size : goal.returns-clause-size
returns-clause-size c =
    by_last c.ask_limit.result c.ask_limit.ensures.asks
    (λ h.
    omega (arith, ap all_longest c.place.ensures.parts, longest-append c.args.asm.now.parts (Place c.args.limit ∷ []), h.few))
