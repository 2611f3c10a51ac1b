use Rattle.std.proofs.Common.{ap, sym, ◌∙◌, subst}
use Rattle.cmm_ast.specs.declared.expression.Memory.{out-Memory}
use Rattle.cmm_program.specs.declared.statement.Lvalue.TheVariants.{Memory}
use Rattle.cmm_static_semantics.specs.Typing.{alignment}
use Rattle.cmm_elaboration.specs.Resolving.{value_of}
use Rattle.cmm_typing.specs.Resolved.{AlignmentsFit}
use Rattle.cmm_lower_parts.proofs.MemoryPlaces.{memory_parts, address_fits, alignment_fits}
use Rattle.cmm_lower_parts.proofs.places.memory_place.Goals as goal

pub returns : goal.returns
returns g c = λ fits.
    let n = g.N.Names.senses c.args.names.now in let m = c.args.memory.now in
    let fit : AlignmentsFit c.get.result.now = subst AlignmentsFit (sym c.get.ensures) (address_fits m fits) in
    ap (Memory c.width_at-width.result c.alignment-aligned.result) (c.in_ok-address.ensures fit ∙ ap (value_of n) c.get.ensures)
    ∙ ap (λ k. Memory c.width_at-width.result k (value_of n (out-Memory m).address)) (c.alignment-aligned.ensures ∙ alignment_fits m c.width_at-width.result fits)
    ∙ ap (λ w. Memory w (alignment w (out-Memory m).aligned) (value_of n (out-Memory m).address)) c.width_at-width.ensures
    ∙ sym (memory_parts n m)
