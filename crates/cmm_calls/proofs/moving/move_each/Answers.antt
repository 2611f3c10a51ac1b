use Rattle.std.proofs.Common.{◌∙◌, pos, refl}
use Rattle.cmm_moves.specs.declared.sequencing.Move.{Move}
use Rattle.rv_table.specs.declared.instruction.Instr.TheVariants.{Addi}
use Rattle.cmm_effects.proofs.Shared.{adds_one}
use Rattle.cmm_calls.proofs.Moved.{inside_at, moves_more, moves_none, movable}
use Rattle.cmm_calls.proofs.moving.move_each.Goals as goal

pub loop-one-init : goal.loop-one-init
loop-one-init c = record { moves = moves_none c.args.asm.now.parts; labels = refl }

pub loop-one-preserved : goal.loop-one-preserved
loop-one-preserved c =
    let i = c.loop-one.one-index in
    let d : Move = record { to = 0; from = 0 } in
    let inside = inside_at c.args.moves.now i d c.requires.inside c.loop-one-test.true in
    record {
      moves = moves_more c.args.asm.now.parts c.loop-one.asm.parts c.emit.new.self.parts c.args.moves.now i d c.loop-one-test.true (movable _ inside.0).0 c.loop-one.invariant.moves
          (rw (c.in_ok-emit.ensures.parts, c.moved.ensures.is) (adds_one c.loop-one.asm.parts (Addi _ _ (pos 0))));
      labels = c.in_ok-emit.ensures.labels ∙ c.loop-one.invariant.labels;
    }
