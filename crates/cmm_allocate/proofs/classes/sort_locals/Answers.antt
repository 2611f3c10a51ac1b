use Rattle.std.proofs.Common.{Bool, List, ◌<◌, get_or, length, ap, ◌∙◌, subst}
use Rattle.cmm_live.specs.Locals.{local_count}
use Rattle.cmm_allocate.specs.inside.Classing.{IsComplementTo, IsUnionOf}
use Rattle.cmm_allocate.proofs.Classing.{classes_are, sized_cuts, sized_sites}
use Rattle.cmm_allocate.proofs.classes.sort_locals.Goals as goal

pub union-requires : goal.union-requires
union-requires c k d low =
    ap (λ (s : List (List Bool)). length (get_or s k d)) c.as_slice.ensures
    ∙ sized_sites c.args.g.now c.args.live.now c.requires.live k d (subst (λ (s : List (List Bool)). k < length s) c.as_slice.ensures low)

pub union-requires-2 : goal.union-requires-2
union-requires-2 c k d low =
    ap (λ (s : List (List Bool)). length (get_or s k d)) c.as_slice-2.ensures
    ∙ sized_cuts c.args.g.now c.args.live.now c.requires.live k d (subst (λ (s : List (List Bool)). k < length s) c.as_slice-2.ensures low)

pub returns : goal.returns
returns c =
    let count = local_count c.args.g.now in
    classes_are c.args.g.now c.args.live.now c.in_ok-lost.lost c.in_ok-at_sites.at_sites c.in_ok-unfit.unfit c.in_ok-complement.field-0 c.in_ok-complement-2.field-0
    c.in_ok-complement-3.field-0 c.in_ok-lost.ensures
    (subst (λ (s : List (List Bool)). IsUnionOf s count c.in_ok-at_sites.at_sites) c.as_slice.ensures c.in_ok-at_sites.ensures)
    (subst (λ (s : List (List Bool)). IsUnionOf s count c.in_ok-unfit.unfit) c.as_slice-2.ensures c.in_ok-unfit.ensures) c.in_ok-complement.ensures
    (subst (λ (s : List Bool). IsComplementTo (length s) s c.in_ok-complement-2.field-0) c.join.ensures.joined c.in_ok-complement-2.ensures)
    (subst (λ (s : List Bool). IsComplementTo (length s) s c.in_ok-complement-3.field-0) c.join-2.ensures.joined c.in_ok-complement-3.ensures)
