use Rattle.cmm_static_semantics.specs.Statements.{part_spots}
use Rattle.cmm_static_semantics.proofs.Shared.{noted_next_of}
use Rattle.cmm_symbols.specs.Shown.{piece_part}
use Rattle.cmm_proc_scope.specs.Bodies.{scope_of_body}
use Rattle.cmm_check_procedure.proofs.procedure.note_parts.Goals as goal

pub loop-piece-preserved : goal.loop-piece-preserved
loop-piece-preserved g c = rw (c.in_ok-note_part.ensures, c.loop-piece.invariant)
    (noted_next_of piece_part (part_spots (scope_of_body g.N.Names.senses c.args.names.now)) c.args.best.now c.args.pieces.now c.loop-piece.piece-index c.piece-item.result c.loop-piece-test.true c.piece-item.is)
