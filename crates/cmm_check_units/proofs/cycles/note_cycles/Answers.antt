use Rattle.std.proofs.Common.{◌≡◌, ◌<◌, ◌∙◌, map, take, ap, length, arith}
use Rattle.std.specs.Prelude.{flat_map}
use Rattle.std.proofs.lemmas.List.{length-map}
use Rattle.cmm_static_semantics.specs.Spots.{first_of}
use Rattle.cmm_symbols.specs.Shown.{shown}
use Rattle.cmm_static_semantics.proofs.Shared.{noted_next_of}
use Rattle.cmm_unit_scope.proofs.Shared.{entry_listed}
use Rattle.cmm_check_units.specs.inside.Cyclic.{entry_cycle_spots}
use Rattle.cmm_check_units.proofs.Cyclic.{counted_now}
use Rattle.cmm_check_units.proofs.cycles.note_cycles.Goals as goal

pub note_cycle-requires : goal.note_cycle-requires
note_cycle-requires c =
    let ds = c.args.declared.now in
    let size : length (map shown ds) ≡ length ds = length-map ds shown in
    let lt : c.loop-number.number < length ds = c.loop-number-test.true in (map shown ds, c.requires, omega arith)

pub loop-number-preserved : goal.loop-number-preserved
loop-number-preserved c = λ noted.
    let ds = c.args.declared.now in
    let k = c.loop-number.number in
    let d = c.index-declared-number.result in
    let before = flat_map (entry_cycle_spots (map shown ds)) (map shown (take k ds)) in
    c.note_cycle.ensures (map shown ds) c.requires (entry_listed ds k d c.loop-number-test.true c.index-declared-number.is)
    (counted_now c.args.best.now c.loop-number.best before ds k d noted (c.loop-number.invariant noted) c.loop-number-test.true c.index-declared-number.is)
    ∙ ap (λ b. first_of b (entry_cycle_spots (map shown ds) (shown d))) (c.loop-number.invariant noted)
    ∙ noted_next_of shown (entry_cycle_spots (map shown ds)) c.args.best.now ds k d c.loop-number-test.true c.index-declared-number.is
