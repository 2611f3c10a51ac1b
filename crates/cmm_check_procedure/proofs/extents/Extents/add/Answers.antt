use Rattle.std.proofs.Common.{◌≡◌, sym, ◌∙◌, true, map}
use Rattle.std.specs.List.{list_all}
use Rattle.cmm_check_procedure.specs.Extents.{shown}
use Rattle.cmm_check_procedure.proofs.Ordered.{inserted, is_apart}
use Rattle.cmm_check_procedure.proofs.Sets.{none_of_pairs, still_in_order, one_more_sorted}
use Rattle.cmm_check_procedure.proofs.extents.Extents.add.Goals as goal

pub invariant_of-self : goal.invariant_of-self
invariant_of-self c = let x = c.args.extent in let rs = c.args.self.now.sorted.entries in
    let apart : list_all (is_apart x.low x.high) rs ≡ true = sym (none_of_pairs (shown x) rs) ∙ sym c.meets_no_sorted.ensures ∙ c.if-meets_no_sorted.true in
    record {
      in_order = still_in_order c.insert.result rs c.insert.new.self.entries x.low x.high c.insert.ensures.entries c.insert.ensures.err c.args.self.now.in_order
          (inserted rs x.low x.high c.if-extent.true c.args.self.now.in_order apart);
    }

pub returns-in_ok-insert : goal.returns-in_ok-insert
returns-in_ok-insert c y = let x = c.args.extent in let rs = c.args.self.now.sorted.entries in
    let apart : list_all (is_apart x.low x.high) rs ≡ true = sym (none_of_pairs (shown x) rs) ∙ sym c.meets_no_sorted.ensures ∙ c.if-meets_no_sorted.true in
    one_more_sorted y x.low x.high rs c.insert.new.self.entries (map shown c.args.self.now.others)
    (inserted rs x.low x.high c.if-extent.true c.args.self.now.in_order apart) c.in_ok-insert.ensures.entries
