use Rattle.std.proofs.Common.{rules}
use Rattle.std.proofs.lemmas.Cmp.{nat_list_cmp_total}
use Rattle.std.proofs.lemmas.Fn.{always_returns_same}
use Rattle.std.proofs.lemmas.List.Sorted.{ranks_by}
use Rattle.cmm_link.specs.inside.Kept.{has_lower_name}
use Rattle.cmm_link.proofs.labels.sort_by_name.Goals as goal

pub returns-clause-sorted : goal.returns-clause-sorted
returns-clause-sorted c =
    c.in_ok-sort_by.ensures.sorted has_lower_name (ranks_by nat_list_cmp_total (λ row. row.name)) (always_returns_same _ _ _ (λ a r f k. search rules))

pub returns-clause-stable : goal.returns-clause-stable
returns-clause-stable c =
    c.sort_by.ensures.stable has_lower_name (ranks_by nat_list_cmp_total (λ row. row.name)) (always_returns_same _ _ _ (λ a r f k. search rules))
