use Rattle.std.proofs.Common.{◌≡◌, ◌+◌, ◌++◌, drop, map}
use Rattle.std.specs.Prelude.{IsTrue}
use Rattle.std.specs.List.{list_all}
use Rattle.cmm_program.specs.InRange.{is_item}
use Rattle.cmm_program.specs.Layout.{end_of, item_piece, stackdata_size, stackdata_labels, stackdata_labels_from}
use Rattle.cmm_allocate.proofs.layout.lay_stackdata.Given as goal

abbrev pub invariant-loop-item : goal.invariant-loop-item
invariant-loop-item l =
    (end_of l.place (map item_piece (drop l.item-index l.items)) ≡ stackdata_size l.items)
    × IsTrue (list_all is_item (drop l.item-index l.items))
    × (l.labels.items ++ map (λ place. l.base + place) (stackdata_labels_from l.place (drop l.item-index l.items))
    ≡ map (λ place. l.base + place) (stackdata_labels l.items))
