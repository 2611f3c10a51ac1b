use Rattle.std.proofs.Common.{◌≡◌, ℕ, ◌+◌, ◌-◌, ◌≤◌, List, length, get_or, Some, ap, sym, subst, arith}
use Rattle.std.proofs.lemmas.List.{get_or_read}
use Rattle.cmm_digraph.specs.inside.Components.{IsJoined}
use Rattle.cmm_digraph.proofs.Joining.{joined_to}
use Rattle.cmm_digraph.proofs.components.join.Goals as goal
use Rattle.cmm_digraph.proofs.components.join.Goals.{then-loop-count-test+else-lowest-index, else-loop-count-test}

pub returns : goal.returns
returns c =
    let starts = c.args.starts.now.items in
    let count = c.loop-count.count in
    let lowest = c.in-Some.lowest in
    let le : count ≤ length starts = c.loop-count.invariant.0 in
    let last : (k : ℕ) → k + 1 ≡ count → get_or starts k 0 ≤ lowest =
    elim c.loop-count-test.branch [
      | then-loop-count-test+else-lowest-index w ↦ λ k e.
          let most : w.index.result.now ≤ lowest = w.if-lowest-index.false in
          let same : k ≡ count - 1 = omega arith in
          let read : w.index.result.now ≡ get_or starts (count - 1) 0 = get_or_read starts (count - 1) w.index.result.now (omega arith) w.index.ensures 0 in
          let at : get_or starts k 0 ≡ get_or starts (count - 1) 0 = ap (λ (n : ℕ). get_or starts n 0) same in omega arith
      | else-loop-count-test w ↦ λ k e. let none : count ≤ 0 = w.loop-count-test.false in absurd (omega arith)
    ] in
    subst (λ (o : _). IsJoined o starts c.truncate.new.self.items) (sym c.in-Some.is) (subst (λ (q : List ℕ). IsJoined (Some lowest) starts q) (sym c.truncate.ensures.items)
    (joined_to starts lowest count c.requires le c.loop-count.invariant.1 last))
