use Rattle.cmm_allocate.proofs.Running.{places_follow_programs, runs_begin_cheaply}
use Rattle.cmm_allocate.proofs.laws.located_runs_follow_programs.Goals as goal

pub returns-clause-follows : goal.returns-clause-follows
returns-clause-follows c =
    places_follow_programs c.located_runs_follow_graphs.ensures c.hoisted_flows_follow_programs.ensures c.places_are_compiled.ensures.compiled
    c.places_are_compiled.ensures.showable

pub returns-clause-begins : goal.returns-clause-begins
returns-clause-begins c = runs_begin_cheaply c.places_are_compiled.ensures.compiled c.flows_hoist.ensures.fewer
