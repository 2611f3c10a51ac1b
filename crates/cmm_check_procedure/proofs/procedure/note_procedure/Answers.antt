use Rattle.std.proofs.Common.{map, ap, ◌∙◌}
use Rattle.cmm_static_semantics.proofs.Shared.{on_ok}
use Rattle.cmm_symbols.specs.Shown.{piece_part}
use Rattle.cmm_proc_scope.specs.Bodies.{scope_of_body}
use Rattle.cmm_check_procedure.proofs.Whole.{whole}
use Rattle.cmm_check_procedure.proofs.procedure.note_procedure.Goals as goal

pub returns : goal.returns
returns g c = on_ok c.note_parts.result
    (λ noted. whole (g.N.Names.senses c.args.outer.now) c.args.own.now (scope_of_body g.N.Names.senses c.within-names.result) c.as_slice.result.now (map piece_part c.pieces.result.now)
    c.args.best.now c.note_repeated.new.best c.note_formals.new.best c.note_parts.new.best
    c.within-names.ensures.scope (c.as_slice.ensures ∙ ap (λ p. p.formals) c.tree.ensures) c.pieces.ensures
    c.note_repeated.ensures c.note_formals.ensures noted)
    c.note_parts.ensures
