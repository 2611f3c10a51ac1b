use Rattle.std.proofs.Common.{◌+◌, ◌-◌, ◌*◌, length, arith}
use Rattle.rv_asm.specs.Parts.{Does}
use Rattle.rv_asm.specs.declared.part.Part.TheVariants.{Place}
use Rattle.cmm_effects.proofs.Shared.{adds_part, adds_then, adds_weaker}
use Rattle.cmm_effects.specs.Pieces.{Adds}
use Rattle.cmm_select.proofs.Halving.{end_placed, makes_one, makes_weaker}
use Rattle.cmm_select.specs.inside.Searches.{Searches}
use Rattle.cmm_select.proofs.searching.search_on.Goals as goal

pub returns-clause-goes : goal.returns-clause-goes
returns-clause-goes c = λ k few.
    let ss = c.args.spans.now in
    let end = c.in_ok-end.end in
    let n = 27 * length ss - 11 in
    let first : Adds n c.args.asm.now.parts c.search.new.asm.parts (Searches (82 + 11 * k) ss end) = rw c.in_ok-end.ensures.parts at c.in_ok-search.ensures.searches k few in
    let place : Adds 0 c.search.new.asm.parts c.place.new.self.parts (λ x from on. Does x (Place end) from on) =
    rw c.place.ensures.parts (adds_part c.search.new.asm.parts (Place end) 0 (omega arith)) in
    adds_weaker (adds_then first place) (omega arith) (λ x from on does. end_placed x ss end (82 + 11 * k) from on does)

pub returns-clause-labels : goal.returns-clause-labels
returns-clause-labels c =
    let n = length c.args.spans.now in
    let old = c.args.asm.now.labels in
    makes_weaker (n - 2 + 1) n old c.place.new.self.labels (omega (arith, c.requires.some))
    (makes_one (n - 2) old c.label.new.self.labels c.search.new.asm.labels c.place.new.self.labels c.in_ok-end.end.number c.in_ok-end.ensures.number c.in_ok-end.ensures.labels
    c.in_ok-search.ensures.labels c.place.ensures.labels)
