use Rattle.std.proofs.Common.{[], ◌∷◌, map, ap, subst, sym}
use Rattle.cmm_linkage.specs.inside.Linkages.{AreAdded}
use Rattle.cmm_linkage.proofs.Gathering.{name_added}
use Rattle.cmm_linkage.proofs.register_names.add_name.Goals as goal

pub returns-clause-names : goal.returns-clause-names
returns-clause-names c =
    subst (AreAdded (c.args.name.now ∷ []) (map (λ k. k.now) c.args.to.now.keys)) (sym (ap (map (λ k. k.now)) c.in_ok-insert_full.ensures.keys))
    (name_added c.args.to.now.keys c.args.name)
