use Rattle.std.proofs.Common.{ℕ, ◌+◌, ◌≤◌, ◌^◌, ◌++◌, ◌∙◌, All, List, ap, map, subst, sym}
use Rattle.cmm_link.proofs.Joined.{lists_within, sites_more, size_more}
use Rattle.cmm_link.proofs.joining.site_addresses.Goals as goal

pub add_address_lists-requires : goal.add_address_lists-requires
add_address_lists-requires c =
    let P : List (List ℕ) → Type 0 = λ lists. All (All (λ offset. c.loop-unit.at + offset ≤ 2 ^ 30)) lists in
    subst P (sym c.as_slice.ensures)
    (lists_within c.args.units.now c.loop-unit.unit-index c.loop-unit.at c.unit-item.result c.requires.whole c.requires.room c.loop-unit-test.true c.unit-item.is
    c.loop-unit.invariant.at c.unit-item.result.sites (λ whole. whole.sites))

pub loop-unit-preserved : goal.loop-unit-preserved
loop-unit-preserved c =
    let units = c.args.units.now in
    let i = c.loop-unit.unit-index in
    let at = c.loop-unit.at in
    let found = c.loop-unit.found in
    let unit = c.unit-item.result in
    let so_far = c.loop-unit.invariant.at in
    record {
      found = sites_more units i at unit found c.add_address_lists.new.found c.loop-unit-test.true c.unit-item.is so_far c.loop-unit.invariant.found
          (c.in_ok-add_address_lists.ensures ∙ ap (λ lists. found ++ map (λ offsets. map (λ offset. at + offset) offsets) lists) c.as_slice.ensures);
      at = ap (λ n. at + n) c.len.ensures ∙ size_more units i at unit c.loop-unit-test.true c.unit-item.is so_far;
    }
