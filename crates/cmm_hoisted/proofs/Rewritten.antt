-- Hoisted graphs are a rewriting of the graphs before: each node asks for the same, and a chain of nodes comes first where a procedure is entered.
use Rattle.std.proofs.Common.{◌≡◌, ℕ, ◌+◌, ◌≤◌, inl, refl, ◌∙◌, ap, arith, is_some}
use Rattle.std.specs.Prelude.{Bool, true, false, Ok, Some, Option}
use Rattle.cmm_program.specs.declared.procedure.Proc.{Proc}
use Rattle.cmm_program.specs.Frames.{procedure_at}
use Rattle.cmm_program.specs.Performing.{Transfer}
use Rattle.cmm_program.specs.State.{Store}
use Rattle.cmm_rewriting.proofs.Shared.{entry_few}
use Rattle.cmm_rewriting.specs.Places.{AreRewritten, Comes, comes_to, entry_cost}
use Rattle.cmm_graph.specs.Acting.{led}
use Rattle.cmm_graph.specs.GraphControl.{Position, graph_control, kind_here}
use Rattle.cmm_graph.specs.GraphMachine.{tokens_at}
use Rattle.cmm_graph.specs.Laws.{OrderIsByReads, ValueIsByReads}
use Rattle.cmm_graph.specs.declared.number.NodeId.{NodeId}
use Rattle.cmm_hoisted.proofs.ChainRuns.{chain_comes}
use Rattle.cmm_hoisted.proofs.Costs.{before, by_place, now}
use Rattle.cmm_hoisted.proofs.Relation.{Begin, HasGraphs, Hoisted, Stand, asks_same, back_stands, begins_together, led_same, on_stands, resume_stands, tokens_same}
use Rattle.cmm_hoisted.proofs.Staying.{leading_enters_nothing}

module _ (r : Hoisted) (most : ℕ) where
  -- a node costs as much, with the chain where it enters a procedure
  cheap : (store : Store) (c d : Position) → Stand r c d → (t : Transfer) → comes_to r.setting store ((graph_control r.olds).act c) ≡ Ok t →
      now r most d + entry_cost r.chained t ≤ before r most c
  cheap store c d is t at = by (is_some (led 0 (kind_here r.olds c))) refl
    where
      same : now r most d ≡ by_place most (is_some (led 0 (kind_here r.olds c))) (tokens_at r.olds c)
      same =
          ap (λ (o : Option NodeId). by_place most (is_some o) (tokens_at r.news d)) (led_same is 0)
          ∙ ap (λ (tokens : ℕ). by_place most (is_some (led 0 (kind_here r.olds c))) tokens) (tokens_same is)

      placed : (leads : Bool) → is_some (led 0 (kind_here r.olds c)) ≡ leads → now r most d ≡ by_place most leads (tokens_at r.olds c)
      placed leads there = same ∙ ap (λ (x : Bool). by_place most x (tokens_at r.olds c)) there

      by : (leads : Bool) → is_some (led 0 (kind_here r.olds c)) ≡ leads → now r most d + entry_cost r.chained t ≤ by_place (most + r.chained) leads (tokens_at r.olds c)
      by true leads =
          let none = leading_enters_nothing r.setting store c (kind_here r.olds c) leads t at r.chained in
          let here = placed true leads in
          omega (arith, none, here)
      by false leads =
          let few = entry_few r.chained t in
          let here = placed false leads in
          omega (arith, few, here)

  -- the chain of a procedure
  begins : (store : Store) (c d : Position) → Begin r c d → Comes (graph_control r.news) r.setting (λ store c d. Stand r c d) (now r most) r.chained store c d
  begins store c d begin =
      let few = begin.1.of.few in
      let within = begin.1.within in
      (begin.0, chain_comes r most store c begin.0 r.chained (omega (arith, few, within)) d begin.1)

pub are_rewritten : (r : Hoisted) (most : ℕ) → ValueIsByReads → OrderIsByReads → ((n : ℕ) (q : Proc) → procedure_at r.setting n ≡ Some q → HasGraphs r n) →
    AreRewritten (graph_control r.olds) (graph_control r.news) r.setting (λ store c d. Stand r c d) (Stand r) (λ c. 0) (before r most) (now r most) r.chained (λ store c. Unit {0}) 1
are_rewritten r most by_values by_reads have = record {
  positive = omega arith;
  few = λ c. omega arith;
  steps = λ store c d known is. inl record {
    cheap = λ t at. cheap r most store c d is t at;
    asks = asks_same is by_values by_reads store;
    rests = λ t at rests. is;
    on = λ way after at. on_stands is way;
  };
  later = λ c d is. is;
  back = λ store c d is. back_stands is;
  resume = λ store n c d is. resume_stands is n;
  begin = λ store n q there. begins r most store ((graph_control r.olds).begin n) ((graph_control r.news).begin n) (begins_together r n (have n q there));
}
