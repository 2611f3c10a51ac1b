use Rattle.std.proofs.Common.{◌≡◌, drop, map}
use Rattle.std.specs.Prelude.{IsTrue}
use Rattle.cmm_program.specs.Layout.{end_of, item_piece, stackdata_size, stackdata_labels, stackdata_labels_from}
use Rattle.std.specs.List.{list_all}
use Rattle.cmm_program.specs.InRange.{is_item}
use Rattle.cmm_program.proofs.placement.first_label.Given as goal

-- the labels are those of what is left
abbrev pub invariant-loop-item : goal.invariant-loop-item
invariant-loop-item l =
    (end_of l.place (map item_piece (drop l.item-index l.items)) ≡ stackdata_size l.items)
    × IsTrue (list_all is_item (drop l.item-index l.items))
    × (stackdata_labels l.items ≡ stackdata_labels_from l.place (drop l.item-index l.items))
