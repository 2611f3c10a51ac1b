use Rattle.std.proofs.Common.{◌≡◌, slice_get, Some, None, option_copied, sym, ap, ◌∙◌}
use Rattle.std.specs.Option.{option_map}
use Rattle.cmm_words.specs.Words.{low_bits}
use Rattle.cmm_image.specs.ImageFormat.{procedure_at}
use Rattle.cmm_walk.specs.Activations.{element_of, place_of}
use Rattle.cmm_image.specs.Sites.{site_numbered}
use Rattle.rv_memory.specs.States.{state_of}
use Rattle.cmm_walk.proofs.Tables.{activation_keeps}
use Rattle.cmm_walk.proofs.Variables.{shows_none, shows_dead, shows_live}
use Rattle.cmm_walk.proofs.variable.local_var.Goals as goal

pub returns-in_default : goal.returns-in_default
returns-in_default c =
    let i = c.args.i.now in
    let a = c.args.a.now in
    let keeps = activation_keeps i c.procedure_of.ensures.kept a c.requires.there in
    let none : slice_get (procedure_at i.procs a.proc).variables c.args.n ≡ None =
    rw (← c.procedure_of.ensures.row) (sym c.get.ensures.value ∙ ap option_copied c.in_default.is) in
    shows_none (state_of c.args.r.now c.args.m.now) (element_of i a) (procedure_at i.procs a.proc).variables (site_numbered i.sites a.site).variables c.args.n keeps.count _ none

pub returns-in-Some-variable_place : goal.returns-in-Some-variable_place
returns-in-Some-variable_place c =
    let i = c.args.i.now in
    let a = c.args.a.now in
    let keeps = activation_keeps i c.procedure_of.ensures.kept a c.requires.there in
    let there : slice_get (procedure_at i.procs a.proc).variables c.args.n ≡ Some c.in-Some.variable.now =
    rw (← c.procedure_of.ensures.row) (sym c.get.ensures.value ∙ ap option_copied c.in-Some.is) in
    shows_live (state_of c.args.r.now c.args.m.now) (element_of i a) (procedure_at i.procs a.proc).variables (site_numbered i.sites a.site).variables c.args.n keeps.count
    c.in-Some.variable.now (place_of c.in-Some-variable_place.place) c.low.result there
    (sym c.variable_place.ensures.place ∙ ap (option_map place_of) c.in-Some-variable_place.is) (c.low.ensures ∙ ap (low_bits c.in-Some.variable.now.width) c.word_at.ensures)

pub returns-in-None : goal.returns-in-None
returns-in-None c =
    let i = c.args.i.now in
    let a = c.args.a.now in
    let keeps = activation_keeps i c.procedure_of.ensures.kept a c.requires.there in
    let there : slice_get (procedure_at i.procs a.proc).variables c.args.n ≡ Some c.in-Some.variable.now =
    rw (← c.procedure_of.ensures.row) (sym c.get.ensures.value ∙ ap option_copied c.in-Some.is) in
    shows_dead (state_of c.args.r.now c.args.m.now) (element_of i a) (procedure_at i.procs a.proc).variables (site_numbered i.sites a.site).variables c.args.n keeps.count
    c.in-Some.variable.now there (sym c.variable_place.ensures.place ∙ ap (option_map place_of) c.in-None.is)
