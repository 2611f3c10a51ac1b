-- Laws of places that are laid out one after another.
use Rattle.std.proofs.Common.{ℕ, ◌+◌, ◌≤◌, ◌<◌, pred, List, [], ◌∷◌, map, arith}
use Rattle.std.specs.Prelude.{IsTrue}
use Rattle.std.proofs.lemmas.Bool.Decides.{nat_tests}
use Rattle.std.proofs.lemmas.Nat.{div-add-mod', mod_below}
use Rattle.cmm_program.specs.declared.procedure.StackItem.{StackItem}
use Rattle.cmm_program.specs.Layout.{aligned_up, end_of, item_piece}
use Rattle.std.specs.List.{list_all}
use Rattle.cmm_program.specs.InRange.{is_item}

-- no place is moved back
pub aligned_up-grows : (align place : ℕ) → 0 < align → place ≤ aligned_up align place
aligned_up-grows align place h = omega (arith, div-add-mod' (place + pred align) align, mod_below (place + pred align) align h)

-- an item has an alignment of at least 1
is_item-align : (i : StackItem) → IsTrue (is_item i) → 0 < i.align
is_item-align i h = grind (arith, nat_tests, h)

-- what is laid out ends behind its place
pub end_of-grows : (place : ℕ) (items : List StackItem) → IsTrue (list_all is_item items) → place ≤ end_of place (map item_piece items)
end_of-grows place [] h = omega arith
end_of-grows place (i ∷ is) h =
    let first : IsTrue (is_item i) = grind (arith, nat_tests, h) in
    let rest : IsTrue (list_all is_item is) = grind (arith, nat_tests, h) in
    omega (arith, aligned_up-grows i.align place (is_item-align i first), end_of-grows (aligned_up i.align place + i.length) is rest)
