use Rattle.std.proofs.Common.{List, ◌++◌, ap}
use Rattle.cmm_graph.specs.declared.node.Node.{Node}
use Rattle.cmm_flow.specs.Code.{ValuesCode}
use Rattle.cmm_flow.specs.Statements.{StoresCode}
use Rattle.cmm_flow.specs.inside.Nodes.{nodes_of_addresses, nodes_of_stores, nodes_of_values}
use Rattle.cmm_flow.proofs.Assignments.{several_code, stores_stay}
use Rattle.cmm_flow.proofs.Begins.{on_step, stores_begin, the_step, values_begin}
use Rattle.cmm_flow.proofs.ExpressionsStay.{values_stay}
use Rattle.cmm_flow.proofs.Laying.{lays_after, then_lays}
use Rattle.cmm_flow.proofs.builder.Builder.assign_several.Goals as goal

pub returns : goal.returns
returns c =
    let to = c.args.to.now in let values = c.args.values.now in let count = c.in_ok-count.count in
    let stores = c.in_ok-stores.stores in let behind = c.in_ok-behind.behind in
    let keep = λ (nodes more : List Node). stores_stay nodes more to values 0 count stores c.args.next in
    lays_after _ _ _ _ _ _ _ _ c.addresses.result
    (then_lays (λ nodes. StoresCode nodes to values 0 count stores c.args.next × ValuesCode nodes values count behind stores)
    c.in_ok-stores.ensures c.in_ok-behind.ensures keep
    (λ g is steps normal. on_step g stores (stores_begin g to values 0 count stores c.args.next is (the_step g c.args.next steps)))
    (λ nodes first second. (first, second)))
    (λ nodes more both. (keep nodes more both.0, values_stay nodes more values count behind stores both.1)) c.addresses.ensures
    (ap (λ n. nodes_of_addresses 0 to ++ (nodes_of_values n values ++ nodes_of_stores to values 0 n)) c.in_ok-count.ensures)
    (λ g both steps normal. on_step g behind (values_begin g values count behind stores both.1 (stores_begin g to values 0 count stores c.args.next both.0 (the_step g c.args.next steps))))
    (λ n nodes both places. several_code nodes to values count n behind stores c.args.next c.in_ok-count.ensures both.0 both.1 places)
