use Rattle.cmm_emit.proofs.Joining.{can_be_joined, code_of_program, names, text_bounded, text_is}
use Rattle.cmm_emit.proofs.program.lay_program.Goals as goal

pub returns-clause-can : goal.returns-clause-can
returns-clause-can c =
    can_be_joined c.args.program.now c.args.graphs.now c.args.places.now c.requires.range c.requires.flows c.requires.places c.hoisted_flows_pass_few.ensures.few c.hoisted_flows_pass_few.ensures.yields c.hoisted_flows_are_graphs.ensures.graphs c.graphs_are_named.ensures c.frames_are_laid.ensures.made c.hoisted_flows_wait_once.ensures.once c.hoisted_flows_wait_once.ensures.each c.hoisted_flows_wait_once.ensures.sites
    c.requires.short c.in_ok-start.start c.in_ok-start.ensures c.in_ok-units.units c.in_ok-units.ensures

pub returns-clause-text : goal.returns-clause-text
returns-clause-text c =
    text_is c.args.program.now c.args.graphs.now c.args.places.now c.requires.range c.requires.flows c.requires.places c.hoisted_flows_pass_few.ensures.few c.hoisted_flows_pass_few.ensures.yields c.hoisted_flows_are_graphs.ensures.graphs c.graphs_are_named.ensures c.frames_are_laid.ensures.made c.hoisted_flows_wait_once.ensures.once c.hoisted_flows_wait_once.ensures.each c.hoisted_flows_wait_once.ensures.sites
    c.requires.short c.in_ok-start.start c.in_ok-start.ensures c.in_ok-units.units c.in_ok-units.ensures

pub returns-clause-size : goal.returns-clause-size
returns-clause-size c =
    text_bounded c.args.program.now c.args.graphs.now c.args.places.now c.requires.range c.requires.flows c.requires.places c.hoisted_flows_pass_few.ensures.few c.hoisted_flows_pass_few.ensures.yields c.hoisted_flows_are_graphs.ensures.graphs c.graphs_are_named.ensures c.frames_are_laid.ensures.made c.hoisted_flows_wait_once.ensures.once c.hoisted_flows_wait_once.ensures.each c.hoisted_flows_wait_once.ensures.sites
    c.requires.short c.in_ok-start.start c.in_ok-start.ensures c.in_ok-units.units c.in_ok-units.ensures

pub returns-clause-names : goal.returns-clause-names
returns-clause-names c =
    names c.args.program.now c.args.graphs.now c.args.places.now c.requires.range c.requires.flows c.requires.places c.hoisted_flows_pass_few.ensures.few c.hoisted_flows_pass_few.ensures.yields c.hoisted_flows_are_graphs.ensures.graphs c.graphs_are_named.ensures c.frames_are_laid.ensures.made c.hoisted_flows_wait_once.ensures.once c.hoisted_flows_wait_once.ensures.each c.hoisted_flows_wait_once.ensures.sites
    c.requires.short c.in_ok-start.start c.in_ok-start.ensures c.in_ok-units.units c.in_ok-units.ensures

pub returns-clause-code : goal.returns-clause-code
returns-clause-code c t is =
    code_of_program c.args.program.now c.args.graphs.now c.args.places.now c.requires.range c.requires.flows c.requires.places c.hoisted_flows_pass_few.ensures.few c.hoisted_flows_pass_few.ensures.yields c.hoisted_flows_are_graphs.ensures.graphs c.graphs_are_named.ensures c.frames_are_laid.ensures.made c.hoisted_flows_wait_once.ensures.once c.hoisted_flows_wait_once.ensures.each c.hoisted_flows_wait_once.ensures.sites
    c.requires.short c.in_ok-start.start c.in_ok-start.ensures c.in_ok-units.units c.in_ok-units.ensures
    t is c.requires.covered c.labels_in_data.ensures c.programs_in_range.ensures c.finished_code_stands.ensures c.frames_are_laid.ensures.procedures c.rows_are_placed.ensures.frames
