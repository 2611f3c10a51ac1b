use Rattle.std.proofs.Common.{refl}
use Rattle.cmm_hoist.specs.Keeping.{Assigns, Branches, Stores}
use Rattle.cmm_hoist.proofs.keeping.node_for.Goals.{in-Assign, in-Store, in-Branch}
use Rattle.cmm_hoist.proofs.keeping.node_for.Goals as goal

pub returns-clause-some : goal.returns-clause-some
returns-clause-some c = record {
  tokens = refl;
  kind =
      elim c.match-node.branch [
        | in-Assign w ↦
            let was = w.in-Assign in rw (was.is, w.kind-is) (Assigns was.to was.value w.rvalue_for.result was.next w.rvalue_for.ensures)
        | in-Store w ↦
            let was = w.in-Store in
            let place = w.operand_for in
            let stored = w.operand_for-in-Store in
            rw (was.is, w.kind-is) (Stores was.width was.aligned was.address was.value place.result stored.result was.next place.ensures.stands stored.ensures.stands)
        | in-Branch w ↦
            let was = w.in-Branch in rw (was.is, w.kind-is) (Branches was.test w.test_for.result was.then was.otherwise w.test_for.ensures)
      ];
}
