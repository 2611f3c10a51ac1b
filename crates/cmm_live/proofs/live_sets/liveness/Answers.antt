use Rattle.std.proofs.Common.{List, Bool, length, sym, subst}
use Rattle.cmm_live.specs.declared.sites.Ways.TheVariants as ways
use Rattle.cmm_live.specs.Exact.{AreBefore, AreOfSites}
use Rattle.cmm_live.specs.Sites.{IsLiveAt, IsLiveOnCut}
use Rattle.cmm_live.specs.inside.Gathering.{AreGathered}
use Rattle.cmm_live.specs.inside.Unions.{AreSized}
use Rattle.cmm_live.proofs.Gathering.{of_sites, sized_of}
use Rattle.cmm_live.proofs.live_sets.liveness.Goals as goal

pub at_sites-requires-clause-sized : goal.at_sites-requires-clause-sized
at_sites-requires-clause-sized c =
    subst (λ (s : List (List Bool)). AreSized c.args.g.now s) (sym c.as_slice.ensures.value) (sized_of c.args.g.now c.in_ok-before.before.items c.in_ok-before.ensures)

pub at_sites-requires-2-clause-sized : goal.at_sites-requires-2-clause-sized
at_sites-requires-2-clause-sized c =
    subst (λ (s : List (List Bool)). AreSized c.args.g.now s) (sym c.as_slice-2.ensures.value) (sized_of c.args.g.now c.in_ok-before.before.items c.in_ok-before.ensures)

pub returns : goal.returns
returns c =
    let g = c.args.g.now in
    let before = c.in_ok-before.before.items in
    record {
      before = subst (λ (s : List (List Bool)). AreBefore g s) (sym c.from_vec.ensures) c.in_ok-before.ensures;
      sites = subst (λ (s : List (List Bool)). AreOfSites g (IsLiveAt g) s) (sym c.from_vec-2.ensures)
          (of_sites g before ways.All c.in_ok-sites.sites.items c.in_ok-before.ensures c.in_ok-sites.ensures.listed
          (subst (λ (s : List (List Bool)). AreGathered g s ways.All (length g.nodes) c.in_ok-sites.sites.items) c.as_slice.ensures.value c.in_ok-sites.ensures.gathered));
      cuts = subst (λ (s : List (List Bool)). AreOfSites g (IsLiveOnCut g) s) (sym c.from_vec-3.ensures)
          (of_sites g before ways.Cuts c.in_ok-cuts.cuts.items c.in_ok-before.ensures c.in_ok-cuts.ensures.listed
          (subst (λ (s : List (List Bool)). AreGathered g s ways.Cuts (length g.nodes) c.in_ok-cuts.cuts.items) c.as_slice-2.ensures.value c.in_ok-cuts.ensures.gathered));
    }
