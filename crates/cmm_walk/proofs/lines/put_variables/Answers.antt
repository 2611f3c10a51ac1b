use Rattle.std.proofs.Common.{◌+◌, ◌++◌, take, drop, ℕ, List, sym, ap, subst, ◌∙◌, arith}
use Rattle.std.proofs.lemmas.List.{take_all}
use Rattle.cmm_outside.specs.Output.{WritesAll}
use Rattle.cmm_outside.proofs.Shared.{HasWritten}
use Rattle.cmm_script.specs.Walk.{variable_lines}
use Rattle.cmm_image_machine.specs.Walks.{element_shown}
use Rattle.cmm_walk.specs.Activations.{element_of}
use Rattle.rv_memory.specs.States.{state_of}
use Rattle.cmm_walk.proofs.Tables.{activation_keeps}
use Rattle.cmm_walk.specs.inside.Lines.{variable_text}
use Rattle.cmm_walk.proofs.VariableTexts.{line_is, lines_more, lines_split, shown_count, shown_there}
use Rattle.cmm_report.proofs.Shared.{writes_fails}
use Rattle.cmm_walk.proofs.Writes.{written_ok, written_then}
use Rattle.cmm_walk.proofs.lines.put_variables.Goals as goal

pub returns-in_err-put_variable_of : goal.returns-in_err-put_variable_of
returns-in_err-put_variable_of g c =
    let taken = g.E.Sink.taken in
    let faults = g.E.Sink.faults in
    let s = state_of c.args.r.now c.args.m.now in
    let e = element_of c.args.i.now c.args.a.now in
    let keeps = activation_keeps c.args.i.now c.var_count-n-end.ensures.kept c.args.a.now c.requires.there in
    let below = c.loop-n-test.true in
    let end = c.var_count-n-end.ensures.count in
    let vs = (element_shown s e).variables in
    let v = shown_there s e c.loop-n.n keeps.count (omega (arith, below, end)) in
    let all = written_then taken faults c.args.to.now c.loop-n.to c.put_variable_of.new.to (variable_lines 0 (take c.loop-n.n vs)) (variable_text c.loop-n.n v.0) c.put_variable_of.result c.loop-n.invariant
    (c.put_variable_of.ensures v.0 v.1) in
    let more = writes_fails taken faults c.args.to.now c.put_variable_of.new.to (variable_lines 0 (take c.loop-n.n vs) ++ variable_text c.loop-n.n v.0) (variable_lines (0 + (c.loop-n.n + 1)) (drop (c.loop-n.n + 1) vs))
    _ c.put_variable_of.result c.from_residual.result c.in_err-put_variable_of.was c.from_residual.ensures.0 all in
    subst (λ (t : List ℕ). WritesAll taken faults c.args.to.now c.put_variable_of.new.to t c.from_residual.result)
    (ap (λ (t : List ℕ). (variable_lines 0 (take c.loop-n.n vs) ++ t) ++ variable_lines (0 + (c.loop-n.n + 1)) (drop (c.loop-n.n + 1) vs)) (line_is c.loop-n.n v.0) ∙ sym (lines_split c.loop-n.n vs v.0 v.1)) more

pub loop-n-preserved : goal.loop-n-preserved
loop-n-preserved g c =
    let taken = g.E.Sink.taken in
    let faults = g.E.Sink.faults in
    let s = state_of c.args.r.now c.args.m.now in
    let e = element_of c.args.i.now c.args.a.now in
    let keeps = activation_keeps c.args.i.now c.var_count-n-end.ensures.kept c.args.a.now c.requires.there in
    let below = c.loop-n-test.true in
    let end = c.var_count-n-end.ensures.count in
    let vs = (element_shown s e).variables in
    let v = shown_there s e c.loop-n.n keeps.count (omega (arith, below, end)) in
    let all = written_then taken faults c.args.to.now c.loop-n.to c.put_variable_of.new.to (variable_lines 0 (take c.loop-n.n vs)) (variable_text c.loop-n.n v.0) c.put_variable_of.result c.loop-n.invariant
    (c.put_variable_of.ensures v.0 v.1) in
    subst (HasWritten taken faults c.args.to.now c.put_variable_of.new.to)
    (ap (λ (t : List ℕ). variable_lines 0 (take c.loop-n.n vs) ++ t) (line_is c.loop-n.n v.0) ∙ sym (lines_more c.loop-n.n vs v.0 v.1))
    (written_ok taken faults c.args.to.now c.put_variable_of.new.to _ c.put_variable_of.result _ c.in_ok-put_variable_of.was all)

pub returns : goal.returns
returns g c =
    let s = state_of c.args.r.now c.args.m.now in
    let e = element_of c.args.i.now c.args.a.now in
    let keeps = activation_keeps c.args.i.now c.var_count-n-end.ensures.kept c.args.a.now c.requires.there in
    let vs = (element_shown s e).variables in
    let past = c.loop-n-test.false in
    let end = c.var_count-n-end.ensures.count in
    let count = shown_count s e e.procedure.variables e.site.variables keeps.count in
    let whole = take_all c.loop-n.n vs (omega (arith, past, end, count)) in
    let written = subst (λ xs. HasWritten g.E.Sink.taken g.E.Sink.faults c.args.to.now c.loop-n.to (variable_lines 0 xs)) whole c.loop-n.invariant in
    record { ok = written.appended; err = tt; no_fault = written.same_faults; fault = tt }
