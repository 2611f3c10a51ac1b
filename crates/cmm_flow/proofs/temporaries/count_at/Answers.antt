use Rattle.std.proofs.Common.{◌≤◌, IsTrue, subst, sym, ◌∙◌}
use Rattle.std.specs.Prelude.{◌↔◌}
use Rattle.std.specs.List.{list_all}
use Rattle.cmm_flow.specs.inside.Temporaries.{is_below, names_below}
use Rattle.cmm_flow.proofs.Least.{least_of_both}
use Rattle.cmm_flow.proofs.temporaries.count_at.Goals as goal

pub returns : goal.returns
returns c = λ limit.
    let read = c.in_ok-read.read in let written = c.in_ok-written.written in
    let first = subst (λ xs. (read ≤ limit) ↔ IsTrue (list_all (is_below limit) xs)) (c.as_slice.ensures ∙ c.in_ok-reads.ensures) (c.in_ok-read.ensures limit) in
    let second = subst (λ xs. (written ≤ limit) ↔ IsTrue (list_all (is_below limit) xs)) (c.as_slice-2.ensures ∙ c.in_ok-writes.ensures) (c.in_ok-written.ensures limit) in
    subst (λ n. (n ≤ limit) ↔ IsTrue (names_below limit c.args.node.now)) (sym c.max.ensures) (least_of_both _ _ read written limit first second)
