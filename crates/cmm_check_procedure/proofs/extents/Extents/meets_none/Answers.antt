use Rattle.std.proofs.Common.{map, ap, sym, ◌∙◌, ◌&&◌}
use Rattle.cmm_check_procedure.specs.Extents.{pair_extent, shown}
use Rattle.cmm_check_procedure.proofs.Sets.{none_of_both}
use Rattle.cmm_check_procedure.proofs.extents.Extents.meets_none.Goals as goal

pub returns-then-meets_no_sorted : goal.returns-then-meets_no_sorted
returns-then-meets_no_sorted c =
    sym (ap (λ t. t && c.meets_no_other-no_other.result) c.if-meets_no_sorted.true)
    ∙ none_of_both shown (shown c.args.extent) (map pair_extent c.args.self.now.sorted.entries) c.args.self.now.others
    c.meets_no_sorted.result c.meets_no_other-no_other.result c.meets_no_sorted.ensures c.meets_no_other-no_other.ensures
