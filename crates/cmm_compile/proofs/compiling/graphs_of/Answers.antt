use Rattle.std.specs.List.{AllZip}
use Rattle.cmm_folded.specs.Flow.{IsFoldedFlow}
use Rattle.cmm_compile.proofs.compiling.graphs_of.Goals as goal

pub hoist_all-requires-clause-begin : goal.hoist_all-requires-clause-begin
hoist_all-requires-clause-begin c =
    let p = c.args.program.now in
    let folded = c.flows_fold.ensures p.procs c.in_ok-unfolded.unfolded c.fold_all.result c.in_ok-unfolded.ensures.each c.fold_all.ensures.stands in
    (c.folded_flows_can_be_hoisted.ensures p c.fold_all.result c.requires folded).begin

pub hoist_all-requires-clause-tokens : goal.hoist_all-requires-clause-tokens
hoist_all-requires-clause-tokens c =
    let p = c.args.program.now in
    let folded = c.flows_fold.ensures p.procs c.in_ok-unfolded.unfolded c.fold_all.result c.in_ok-unfolded.ensures.each c.fold_all.ensures.stands in
    (c.folded_flows_can_be_hoisted.ensures p c.fold_all.result c.requires folded).tokens
