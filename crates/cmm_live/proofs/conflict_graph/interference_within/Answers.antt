use Rattle.std.proofs.Common.{length, sym, subst, List, Bool}
use Rattle.std.proofs.lemmas.Result.{IfOk-weaker}
use Rattle.cmm_live.specs.Interference.{AreConflictsWithin}
use Rattle.cmm_live.specs.inside.Interfering.{AreRows, HavePairs}
use Rattle.cmm_live.proofs.ConflictGraphs.{found_exactly, sets_sized}
use Rattle.cmm_live.proofs.conflict_graph.interference_within.Goals as goal

pub pairs-requires : goal.pairs-requires
pairs-requires c = subst (λ (s : List (List Bool)). AreRows (length c.args.class.now) s) (sym c.deref.ensures.value)
    (subst (λ n. AreRows n c.in_ok-sets.sets.items) (sym c.requires.class) (sets_sized c.args.g.now c.args.live.now c.in_ok-sets.sets.items c.in_ok-sets.ensures))

pub returns : goal.returns
returns c = IfOk-weaker c.pairs.result (HavePairs c.args.class.now c.deref.result.now) (AreConflictsWithin c.args.g.now c.args.class.now)
    (λ graph pairs. found_exactly c.args.g.now c.args.live.now c.requires.live c.in_ok-sets.sets.items c.deref.result.now c.in_ok-sets.ensures c.deref.ensures.value
    c.args.class.now c.requires.class graph pairs) c.pairs.ensures
