use Rattle.std.proofs.Common.{◌≡◌, slice_get, Some, option_copied, sym, ap, subst, ◌∙◌}
use Rattle.cmm_outside.specs.Output.{WritesAll}
use Rattle.cmm_script.specs.Walk.{Shown}
use Rattle.cmm_image.specs.ImageFormat.{procedure_at}
use Rattle.cmm_walk.specs.Activations.{element_of}
use Rattle.rv_memory.specs.States.{state_of}
use Rattle.cmm_walk.proofs.Tables.{activation_keeps}
use Rattle.cmm_walk.specs.inside.Lines.{variable_text}
use Rattle.cmm_walk.proofs.VariableTexts.{shown_is}
use Rattle.cmm_walk.proofs.lines.put_variable_of.Goals as goal

pub returns-in-Ok : goal.returns-in-Ok
returns-in-Ok g c v is =
    let i = c.args.i.now in
    let a = c.args.a.now in
    let keeps = activation_keeps i c.procedure_of.ensures.kept a c.requires.fits.there in
    let there : slice_get (procedure_at i.procs a.proc).variables c.args.n ≡ Some c.in-Some.row.now =
    rw (← c.procedure_of.ensures.row) (sym c.get.ensures.value ∙ ap option_copied c.in-Some.is) in
    let same = shown_is (state_of c.args.r.now c.args.m.now) (element_of i a) c.args.n c.in-Some.row.now v c.in-Ok.variable keeps.count there is (rw c.in-Ok.is at c.local_var.ensures) in
    subst (λ (w : Shown). WritesAll g.E.Sink.taken g.E.Sink.faults c.args.to.now c.put_variable.new.to (variable_text c.args.n w) c.put_variable.result) (sym same) c.put_variable.ensures
