use Rattle.std.proofs.Common.{◌∙◌, map, ap}
use Rattle.std.specs.Prelude.{flat_map}
use Rattle.std.proofs.lemmas.List.{take_all}
use Rattle.cmm_static_semantics.specs.Judging.{if_ok}
use Rattle.cmm_static_semantics.specs.Spots.{first_of}
use Rattle.cmm_static_semantics.specs.Typing.{type_width}
use Rattle.cmm_static_semantics.proofs.Shared.{noted_next_of}
use Rattle.cmm_check_units.specs.inside.Flat.{register_spots_by}
use Rattle.cmm_linkage.specs.Registers.{register_shown}
use Rattle.cmm_unit_scope.specs.Types.{senses_of}
use Rattle.cmm_check_units.proofs.registers.note_registers.Goals as goal

pub loop-register-preserved : goal.loop-register-preserved
loop-register-preserved c = λ before. λ are. rw (c.note_register.ensures before are, c.loop-register.invariant before are)
    (noted_next_of register_shown (register_spots_by before (λ t. if_ok (type_width (senses_of c.args.types.now) t))) c.args.best.now c.args.registers.now c.loop-register.register-index c.register-item.result
    c.loop-register-test.true c.register-item.is)

pub returns : goal.returns
returns c = λ before. λ are.
    c.loop-register.invariant before are
    ∙ ap (λ rs. first_of c.args.best.now (flat_map (register_spots_by before (λ t. if_ok (type_width (senses_of c.args.types.now) t))) (map register_shown rs)))
    (take_all c.loop-register.register-index c.args.registers.now c.loop-register-test.false)
