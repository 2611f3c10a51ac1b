use Rattle.std.proofs.Common.{sym, ◌∙◌}
use Rattle.rv_memory.specs.Regions.{map_of}
use Rattle.cmm_resume.proofs.PokeLaws.{place_lies}
use Rattle.cmm_resume.proofs.poking.place_to_poke.Goals as goal

pub returns-in-Some-clause-fits : goal.returns-in-Some-clause-fits
returns-in-Some-clause-fits c =
    let lies = place_lies c.args.i.now (map_of c.args.m.now).data_length c.args.offset c.in-Some.address c.args.label.now (sym c.word_behind.ensures ∙ c.in-Some.is) in
    (lies.aligned, lies.low, lies.high)
