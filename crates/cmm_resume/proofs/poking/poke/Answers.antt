use Rattle.std.proofs.Common.{ℕ, Result, sym, ap, ◌∙◌}
use Rattle.cmm_rules.specs.declared.rule.Rule.{Rule}
use Rattle.rv_memory.specs.Regions.{map_of}
use Rattle.rv_memory.specs.States.{state_of}
use Rattle.cmm_script.specs.Lines.{ok_line}
use Rattle.cmm_program.specs.Commands.{says}
use Rattle.cmm_program.specs.Errors.{and_then}
use Rattle.cmm_resume.specs.Finding.{poking_in}
use Rattle.cmm_resume.proofs.Answering.{goes_is, refused_is}
use Rattle.cmm_resume.proofs.PokeLaws.{pokes_are_found, written}
use Rattle.cmm_resume.proofs.poking.poke.Goals as goal

pub set_data_word-requires-clause-aligned : goal.set_data_word-requires-clause-aligned
set_data_word-requires-clause-aligned c = c.in-Ok.ensures.fits.0

pub set_data_word-requires-clause-low : goal.set_data_word-requires-clause-low
set_data_word-requires-clause-low c = c.in-Ok.ensures.fits.1

pub set_data_word-requires-clause-high : goal.set_data_word-requires-clause-high
set_data_word-requires-clause-high c = c.in-Ok.ensures.fits.2

pub returns-in-Ok-clause-pokes : goal.returns-in-Ok-clause-pokes
returns-in-Ok-clause-pokes c r cursor =
    let s = state_of r c.args.m.now in
    let count = (map_of c.args.m.now).data_length in
    let found = pokes_are_found count c.args.i.now cursor s c.args.label.now c.args.offset c.args.v c.ranges.v.fits in
    goes_is (poking_in count c.args.i.now cursor s c.args.label.now c.args.offset c.args.v) ok_line cursor (written cursor s c.args.offset c.args.v c.in-Ok.address) s (state_of r c.set_data_word.new.self)
    (found ∙ ap (λ (o : Result ℕ Rule). and_then o (λ a. says ok_line cursor (written cursor s c.args.offset c.args.v a))) (sym c.in-Ok.ensures.place))
    (λ j. record { registers = s.registers; pc = s.pc; memory = c.set_data_word.ensures.memory j })

pub returns-in-Err-clause-pokes : goal.returns-in-Err-clause-pokes
returns-in-Err-clause-pokes c r cursor =
    let s = state_of r c.args.m.now in
    let count = (map_of c.args.m.now).data_length in
    let found = pokes_are_found count c.args.i.now cursor s c.args.label.now c.args.offset c.args.v c.ranges.v.fits in
    refused_is (poking_in count c.args.i.now cursor s c.args.label.now c.args.offset c.args.v) c.in-Err.rule s
    (found ∙ ap (λ (o : Result ℕ Rule). and_then o (λ a. says ok_line cursor (written cursor s c.args.offset c.args.v a))) (sym c.in-Err.ensures.place))
