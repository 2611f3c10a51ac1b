use Rattle.std.proofs.Common.{ap, ◌∙◌}
use Rattle.cmm_abi.specs.Regions.{with_word}
use Rattle.rv_memory.specs.Regions.{region_of}
use Rattle.rv_memory.specs.States.{state_of}
use Rattle.cmm_script.specs.Lines.{ok_line}
use Rattle.cmm_program.specs.Commands.{setting}
use Rattle.cmm_image_machine.specs.Machine.{askable}
use Rattle.cmm_walk.specs.Activations.{element_of, place_of}
use Rattle.cmm_walk.proofs.Shared.{activation_keeps}
use Rattle.cmm_resume.proofs.Answering.{goes_is, refused_is}
use Rattle.cmm_resume.proofs.SetVariables.{done, sets_are_found}
use Rattle.cmm_resume.proofs.setting.set_local_var.Goals as goal

pub returns-in-Ok-clause-sets : goal.returns-in-Ok-clause-sets
returns-in-Ok-clause-sets c cursor =
    let s = state_of c.args.r.now c.args.m.now in
    let e = element_of c.args.i.now c.args.a.now in
    let keeps = activation_keeps c.args.i.now c.place_to_set.ensures.kept c.args.a.now c.requires.there in
    goes_is (setting (askable c.args.i.now (region_of c.args.m.now)) cursor s e c.args.n c.args.v) ok_line cursor (with_word (place_of c.in-Ok.place) c.args.v s) s (state_of c.set_word_at.new.r c.set_word_at.new.m)
    (sets_are_found c.args.i.now (region_of c.args.m.now) s cursor e c.args.n c.args.v keeps.count ∙ ap (done s cursor e c.args.n c.args.v) c.in-Ok.ensures.place) c.set_word_at.ensures.state

pub returns-in-Err-clause-sets : goal.returns-in-Err-clause-sets
returns-in-Err-clause-sets c cursor =
    let s = state_of c.args.r.now c.args.m.now in
    let e = element_of c.args.i.now c.args.a.now in
    let keeps = activation_keeps c.args.i.now c.place_to_set.ensures.kept c.args.a.now c.requires.there in
    refused_is (setting (askable c.args.i.now (region_of c.args.m.now)) cursor s e c.args.n c.args.v) c.in-Err.rule s
    (sets_are_found c.args.i.now (region_of c.args.m.now) s cursor e c.args.n c.args.v keeps.count ∙ ap (done s cursor e c.args.n c.args.v) c.in-Err.ensures.place)
