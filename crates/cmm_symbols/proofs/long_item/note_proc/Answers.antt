use Rattle.std.proofs.Common.{◌++◌, [], ◌∷◌, refl, sym, ap, ◌∙◌}
use Rattle.std.specs.Prelude.{flat_map}
use Rattle.std.proofs.lemmas.List.Folds.{flat_map-map}
use Rattle.cmm_static_semantics.specs.Items.{parts_of}
use Rattle.cmm_static_semantics.specs.LongNames.{of_formal, of_part}
use Rattle.cmm_symbols.specs.Noted.{long_of}
use Rattle.cmm_symbols.specs.Shown.{piece_part}
use Rattle.cmm_symbols.proofs.Lengths.{long_more, long_append}
use Rattle.cmm_symbols.proofs.long_item.note_proc.Goals as goal

pub returns : goal.returns
returns c =
    let proc = c.args.proc.now in
    let formals = flat_map of_formal proc.formals in
    let parts = flat_map of_part (parts_of proc.body) in
    let pieces = sym (flat_map-map of_part piece_part c.in_ok-pieces.pieces) ∙ ap (flat_map of_part) c.in_ok-pieces.ensures in
    rw (
      long_more c.args.best.now proc.name (formals ++ parts),
      long_append (long_of c.args.best.now (proc.name ∷ [])) formals parts,
      c.note_each-2.ensures,
      c.as_slice-2.ensures,
      pieces,
      c.note_each.ensures,
      c.as_slice.ensures,
      c.note_name.ensures,
    ) refl
