use Rattle.std.proofs.Common.{rules}
use Rattle.std.proofs.lemmas.Cmp.{nat_cmp_total}
use Rattle.std.proofs.lemmas.Fn.{always_returns_same}
use Rattle.std.proofs.lemmas.List.MinMax.{ranks_by}
use Rattle.cmm_image.proofs.SortLaws.{has_lower_address, sorted_is}
use Rattle.cmm_image.proofs.second_reading.sort_by_address.Goals as goal

pub returns : goal.returns
returns c =
    let sorted = c.in_ok-sort_by.ensures.sorted has_lower_address (ranks_by nat_cmp_total (λ site. site.return_address)) (always_returns_same _ _ _ (λ a r f k. search rules)) in
    sorted_is c.args.sites.now.items c.sort_by.new.self.items c.requires c.sort_by.ensures.permutation sorted
