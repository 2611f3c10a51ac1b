use Rattle.std.proofs.Common.{length, sym, subst, List, Bool}
use Rattle.cmm_live.specs.inside.Interfering.{AreRows}
use Rattle.cmm_live.proofs.ConflictGraphs.{found_exactly, sets_sized}
use Rattle.cmm_live.proofs.conflict_graph.interference_within_both.Goals as goal

pub pairs-requires : goal.pairs-requires
pairs-requires c = subst (λ (s : List (List Bool)). AreRows (length c.args.first.now) s) (sym c.deref.ensures.value)
    (subst (λ n. AreRows n c.in_ok-sets.sets.items) (sym c.requires.first) (sets_sized c.args.g.now c.args.live.now c.in_ok-sets.sets.items c.in_ok-sets.ensures))

pub pairs-requires-2 : goal.pairs-requires-2
pairs-requires-2 c = subst (λ (s : List (List Bool)). AreRows (length c.args.second.now) s) (sym c.deref-2.ensures.value)
    (subst (λ n. AreRows n c.in_ok-sets.sets.items) (sym c.requires.second) (sets_sized c.args.g.now c.args.live.now c.in_ok-sets.sets.items c.in_ok-sets.ensures))

pub returns-clause-first : goal.returns-clause-first
returns-clause-first c = found_exactly c.args.g.now c.args.live.now c.requires.live c.in_ok-sets.sets.items c.deref.result.now c.in_ok-sets.ensures c.deref.ensures.value
    c.args.first.now c.requires.first c.in_ok-among_first.among_first c.in_ok-among_first.ensures

pub returns-clause-second : goal.returns-clause-second
returns-clause-second c = found_exactly c.args.g.now c.args.live.now c.requires.live c.in_ok-sets.sets.items c.deref-2.result.now c.in_ok-sets.ensures c.deref-2.ensures.value
    c.args.second.now c.requires.second c.in_ok-among_second.among_second c.in_ok-among_second.ensures
