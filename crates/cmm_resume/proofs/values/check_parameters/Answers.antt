use Rattle.std.proofs.Common.{◌≡◌, ◌<◌, true, false, length, map, get_or, sym, ◌∙◌, arith}
use Rattle.std.proofs.lemmas.List.{length-map}
use Rattle.cmm_image.specs.declared.rows.VariableNumber.{VariableNumber}
use Rattle.cmm_image_machine.specs.Changes.{variable_width}
use Rattle.cmm_resume.proofs.Fitting.{fit_more, fits, get_map, got_at, got_row, not_taken}
use Rattle.cmm_resume.proofs.values.check_parameters.Goals as goal

pub returns-then-not-fits : goal.returns-then-not-fits
returns-then-not-fits c =
    let f = variable_width c.args.procedure.now in
    let xs = c.as_slice-parameters.result.now in
    let k = c.loop-k.k in
    let below = c.loop-k-test.true in
    let count = c.if-parameters-values.false in
    let none : VariableNumber = record { 0 = 0 } in
    let short : k < length xs = omega (arith, below, count) in
    let v = get_or c.args.values.now k 0 in
    let one = get_map f xs k (get_or xs k none) (got_row xs k none short) in
    let unfit : fits (f (get_or xs k none)) v ≡ false = rw (← c.width_of.ensures) (sym c.fits.ensures ∙ c.if-not-fits.true) in
    sym (rw c.as_slice-parameters.ensures at (not_taken (map f xs) c.args.values.now k (f (get_or xs k none)) v (length-map xs f ∙ count) c.loop-k.invariant one (got_at c.args.values.now k below) unfit))

pub loop-k-preserved : goal.loop-k-preserved
loop-k-preserved c =
    let f = variable_width c.args.procedure.now in
    let xs = c.as_slice-parameters.result.now in
    let k = c.loop-k.k in
    let below = c.loop-k-test.true in
    let count = c.if-parameters-values.false in
    let none : VariableNumber = record { 0 = 0 } in
    let short : k < length xs = omega (arith, below, count) in
    let v = get_or c.args.values.now k 0 in
    let one = get_map f xs k (get_or xs k none) (got_row xs k none short) in
    let fit : fits (f (get_or xs k none)) v ≡ true = rw (← c.width_of.ensures) (sym c.fits.ensures ∙ c.if-not-fits.false) in
    c.loop-k.invariant ∙ fit_more (map f xs) c.args.values.now k (f (get_or xs k none)) v one (got_at c.args.values.now k below) fit
