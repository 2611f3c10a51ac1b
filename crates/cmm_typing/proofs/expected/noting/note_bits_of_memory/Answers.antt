use Rattle.std.proofs.Common.{ap, sym, ◌∙◌, Option}
use Rattle.cmm_static_semantics.specs.declared.judged.Bits.{Bits}
use Rattle.cmm_static_semantics.specs.declared.known.Known.{Known}
use Rattle.cmm_static_semantics.specs.declared.spot.Spot.{Spot}
use Rattle.cmm_static_semantics.specs.Algebras.{knowns}
use Rattle.cmm_static_semantics.specs.Expressions.{inner_spots}
use Rattle.cmm_static_semantics.specs.Judging.{Judged, spots}
use Rattle.cmm_static_semantics.specs.Spots.{first_of}
use Rattle.cmm_static_semantics.specs.Typing.{wanted, of_memory}
use Rattle.cmm_static_semantics.proofs.Shared.{first_of_append}
use Rattle.cmm_typing.proofs.expected.noting.note_bits_of_memory.Goals as goal

pub returns : goal.returns
returns g c =
    let names = g.N.Names.senses c.args.names.now in
    let e = of_memory c.args.token c.args.memory.now in
    c.note_inner_memory.ensures c.args.token
    ∙ ap (λ (best : Option Spot). first_of best (inner_spots names e))
    (c.note_judged.ensures ∙ ap (λ (j : Judged (Bits Known)). first_of c.args.best.now (spots j)) c.wanted_of_memory.ensures)
    ∙ sym (first_of_append c.args.best.now (spots (wanted knowns names c.args.width e)) (inner_spots names e))
