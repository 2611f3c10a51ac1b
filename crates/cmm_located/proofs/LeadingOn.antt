-- a node that leads on is done over locations in one step
use Rattle.std.proofs.Common.{◌≡◌, true, ◌∷◌, arith, refl, sym, ◌∙◌}
use Rattle.cmm_graph.specs.GraphControl.{kind_at}
use Rattle.cmm_graph.specs.GraphMachine.{tokens_of_youngest}
use Rattle.cmm_graph.specs.Laws.{OrderIsByReads, ValueIsByReads}
use Rattle.cmm_located.specs.Answering.{shown}
use Rattle.cmm_located.specs.Steps.{IsFollowed, NodesAreFollowed, kind_of_youngest, leads_on}
use Rattle.cmm_located.proofs.Following.{asks_alike, in_one}
use Rattle.cmm_located.proofs.Parts.{by_parts, located_of, position_of, running, state_of}
use Rattle.cmm_located.proofs.Staying.{node_steps}

pub nodes_are_followed : OrderIsByReads → ValueIsByReads → NodesAreFollowed
nodes_are_followed by_reads by_values s c live st at frames planned closed related status leads =
    by_parts s c live (λ st at. leads_on (kind_of_youngest c st) ≡ true → IsFollowed s c live (tokens_of_youngest c.graphs st) st at) st at
    (λ store a older p ps h carried runs leads.
    let node = kind_at c.graphs a.procedure p.node in
    let before = state_of store a older p ps in
    let there = located_of store a older p.node h carried in
    in_one s c live (tokens_of_youngest c.graphs before) before there
    (node_steps s c live frames store a older p ps h carried runs by_reads by_values planned node refl
    (closed.reads a.procedure p.node runs.exists) (closed.keeps a.procedure p.node runs.exists) leads)
    (λ event is. sym (asks_alike s c (running store (a ∷ older)) (shown s c there) (position_of a p) there node) ∙ is) refl (omega arith))
    status related leads
