use Rattle.std.proofs.Common.{◌≡◌, [], List, reverse, ap, subst, arith}
use Rattle.std.proofs.lemmas.List.{nil_from_length}
use Rattle.cmm_digraph.specs.declared.search.Step.{Step}
use Rattle.cmm_digraph.specs.inside.Searched.{IsSearched}
use Rattle.cmm_digraph.proofs.Beginning.{search_ends}
use Rattle.cmm_digraph.proofs.cycles.on_cycles.Goals as goal

pub returns-clause-cyclic : goal.returns-clause-cyclic
returns-clause-cyclic c =
    let search_ = c.loop-step.search in
    let none : search_.steps.items ≡ [] = nil_from_length search_.steps.items (omega (arith, c.in_default.ensures.cases.0)) in
    search_ends c.args.graph.now search_.states.items search_.open.items search_.starts.items search_.cyclic.items
    (subst (λ (q : List Step). IsSearched c.args.graph.now search_.states.items search_.open.items search_.starts.items q search_.cyclic.items) (ap reverse none) c.loop-step.invariant)
