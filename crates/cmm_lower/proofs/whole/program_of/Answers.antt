use Rattle.std.specs.Prelude.{map}
use Rattle.cmm_lower.proofs.Joined.{program_is}
use Rattle.cmm_lower.proofs.whole.program_of.Goals as goal

pub returns : goal.returns
returns c us are widths =
    program_is c.args.linkage.now us c.args.parts.procs c.args.parts.datums c.in_ok-globals.globals c.args.parts.labels c.main_of-main.result
    (map (λ n. n.now) c.register_names-registers.result.now) are c.register_names-registers.ensures (c.in_ok-globals.ensures.of_units us widths) c.main_of-main.ensures
