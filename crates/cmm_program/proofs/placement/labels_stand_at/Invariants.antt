use Rattle.std.specs.Str.{bytes_eq}
use Rattle.std.proofs.Common.{◌≡◌, ◌+◌, drop, map}
use Rattle.std.specs.Prelude.{IsTrue}
use Rattle.cmm_program.specs.Layout.{end_of, item_piece, stackdata_size, stackdata_labels_from}
use Rattle.std.specs.List.{list_all}
use Rattle.cmm_program.specs.Placed.{are_labels}
use Rattle.cmm_program.specs.InRange.{is_item}
use Rattle.cmm_program.proofs.placement.labels_stand_at.Given as goal

-- the answer depends on what is left alone
abbrev pub invariant-loop-item : goal.invariant-loop-item
invariant-loop-item l =
    (end_of l.place (map item_piece (drop l.item-index l.items)) ≡ stackdata_size l.items)
    × IsTrue (list_all is_item (drop l.item-index l.items))
    × (are_labels l.base l.items l.offsets
    ≡ bytes_eq l.left (map (λ place. l.base + place) (stackdata_labels_from l.place (drop l.item-index l.items))))
