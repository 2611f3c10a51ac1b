use Rattle.std.proofs.Common.{IfOk, ◌≡◌, ap, ◌∙◌, refl, subst}
use Rattle.cmm_flow.specs.Operands.{temporary}
use Rattle.cmm_flow.specs.inside.Laying.{LaysNode}
use Rattle.cmm_flow.specs.inside.Parts.{store_node}
use Rattle.cmm_flow.proofs.Assignments.{stores_cons, stores_stay}
use Rattle.cmm_flow.proofs.Begins.{on_step, stores_begin, the_step}
use Rattle.cmm_flow.proofs.Laying.{if_ok, lays_after}
use Rattle.cmm_flow.proofs.NodeLists.{same_node, store_laid, stores_more}
use Rattle.cmm_flow.proofs.builder.Builder.+stores.Goals as goal

pub returns : goal.returns
returns t c =
    let l = c.in-Some.first.now in let rest = c.in-Some.rest.now in let more = c.in-Some-split_first.more.now in
    let address = c.in_ok-following.field-0 in let value = c.in_ok-following-2.field-0 in let behind = c.in_ok-behind.behind in
    let kind = store_node l (temporary c.args.address) (temporary c.args.value) behind in
    let is : c.store_of.result ≡ kind =
    c.store_of.ensures ∙ ap (λ a. store_node l a c.temporary-2.result behind) c.temporary.ensures
    ∙ ap (λ v. store_node l (temporary c.args.address) v behind) c.temporary-2.ensures in
    lays_after _ _ _ _ _ _ _ _ c.push.result c.in_ok-behind.ensures (λ nodes more_nodes. stores_stay nodes more_nodes rest more address value behind c.args.next)
    (if_ok c.push.result (λ n laid. store_laid l (temporary c.args.address) (temporary c.args.value) behind n laid)
    (subst (λ node. IfOk c.push.result (λ n. LaysNode node c.stores.new.self c.push.new.self n)) (same_node c.store_tokens.ensures is) c.push.ensures))
    (stores_more c.in-Some.ensures.cases.0 c.in-Some-split_first.ensures.cases.0 c.in_ok-following.ensures c.in_ok-following-2.ensures)
    (λ g code steps normal. on_step g behind (stores_begin g rest more address value behind c.args.next code (the_step g c.args.next steps)))
    (λ n nodes others first. stores_cons nodes c.args.to.now rest l c.args.values.now more
    c.in-Some-split_first.field-0-0.now c.args.address c.args.value address value kind n behind c.args.next
    c.in-Some.ensures.cases.0 c.in-Some-split_first.ensures.cases.0 c.in_ok-following.ensures c.in_ok-following-2.ensures refl others first)
