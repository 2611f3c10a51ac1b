-- The chain of a new activation: its nodes give the temporaries their constants, and nothing else changes.
use Rattle.std.proofs.Common.{◌≡◌, ◌⊎◌, ℕ, zero, suc, ◌+◌, ◌-◌, ◌<◌, ◌≤◌, ◌^◌, max, inl, inr, refl, sym, ◌∙◌, ap, subst, arith, length, is_some, nat_lt}
use Rattle.std.proofs.lemmas.Bool.{cases_eq}
use Rattle.std.proofs.lemmas.Bool.Decides.{nat_tests}
use Rattle.std.proofs.lemmas.Option.{slice_get_cases}
use Rattle.std.specs.Prelude.{◌≢◌, slice_get, Contains, Bool, true, Ok, Some, None}
use Rattle.cmm_words.specs.declared.constant.Constant.{Constant}
use Rattle.cmm_machine_laws.specs.Observed.{event_at}
use Rattle.cmm_program.proofs.Shared.{all_get}
use Rattle.cmm_program.specs.Layout.{constant_value}
use Rattle.cmm_program.specs.Performing.{Stay}
use Rattle.cmm_program.specs.State.{Running, Store}
use Rattle.cmm_graph.specs.Acting.{led}
use Rattle.cmm_graph.specs.GraphControl.{Position, graph_control, kind_here, with_temporary}
use Rattle.cmm_graph.specs.GraphMachine.{tokens_at}
use Rattle.cmm_graph.specs.Paths.{node_of}
use Rattle.cmm_graph.specs.declared.number.NodeId.{NodeId}
use Rattle.cmm_graph.specs.declared.number.Temporary.{Temporary}
use Rattle.cmm_graph.specs.declared.operand.Operand.TheVariants as operand
use Rattle.cmm_graph.specs.declared.node.NodeKind.{NodeKind}
use Rattle.cmm_graph.specs.declared.node.NodeKind.TheVariants.{Assign}
use Rattle.cmm_graph.specs.declared.operand.Destination.TheVariants as destination
use Rattle.cmm_graph.specs.declared.operand.Rvalue.TheVariants.{Copy}
use Rattle.cmm_hoist.specs.Graphs.{all_operands, keeping_node}
use Rattle.cmm_hoist.specs.Keeping.{keeper}
use Rattle.cmm_rewriting.specs.Places.{ComesBy, comes_to}
use Rattle.cmm_hoisted.proofs.Constants.{constant_is_word}
use Rattle.cmm_hoisted.proofs.Costs.{by_place, now}
use Rattle.cmm_hoisted.proofs.Nodes.{keeper_there, lead}
use Rattle.cmm_hoisted.proofs.Relation.{HasGraphs, Hoisted, InChain, Stand}

module _ (r : Hoisted) where
  abbrev value : Constant → ℕ
  value c = constant_value r.setting.program r.setting.placement c

  -- a node of the chain, with its constant
  record Keeps {q : ℕ} (of : HasGraphs r q) (k : ℕ) : Type 0 where
    constant : Constant
    kept : slice_get of.hoisted.kept k ≡ Some constant
    small : value constant < 2 ^ 64

keeps_at : {r : Hoisted} {q : ℕ} (of : HasGraphs r q) (k : ℕ) → k < length of.hoisted.kept → Keeps r of k
keeps_at {r = r} of k less = elim (slice_get_cases of.hoisted.kept k).1 [
  | inl found ↦ record {
    constant = found.0;
    kept = found.2;
    small = constant_is_word r.setting.program of.procedure of.old of.of r.setting.placement found.0
        (all_get (λ (c : Constant). Contains (all_operands of.old) (operand.Constant c)) of.hoisted.kept k found.0 of.hoisted.named found.2);
  }
  | inr past ↦ absurd (omega (arith, past.0))
]

other_temporary : (t u : Temporary) (v : ℕ) (temporaries : Temporary → ℕ) → u.number ≢ t.number → with_temporary t v temporaries u ≡ temporaries u
other_temporary t u v temporaries apart = grind (arith, nat_tests)

same_temporary : (t u : Temporary) (v : ℕ) (temporaries : Temporary → ℕ) → u.number ≡ t.number → with_temporary t v temporaries u ≡ v
same_temporary t u v temporaries same = grind (arith, nat_tests)

-- ---- one node

module _ {r : Hoisted} (store : Store) (k : ℕ) (c d : Position) (is : InChain r (suc k) c d) where
  abbrev of : HasGraphs r c.procedure
  of = is.of

  abbrev at : Keeps r of k
  at = keeps_at of k is.within

  abbrev first : Temporary
  first = record { number = of.old.temporaries + k }

  abbrev word : ℕ
  word = value r at.constant

  -- where it leads: its temporary has the constant
  abbrev next : Position
  next = record { procedure = d.procedure; node = lead of.old of.new of.hoisted k; temporaries = with_temporary first word d.temporaries }

  goes_on : InChain r k c next
  goes_on = record {
    of = of;
    procedure = is.procedure;
    behind = is.behind;
    node = refl;
    step = is.step;
    within = omega (arith, is.within);
    hold = record {
      below = λ t less. other_temporary first t word d.temporaries (omega (arith, less)) ∙ is.hold.below t less;
      keeps = λ j constant kept from. by j constant kept from (cases_eq j k);
    };
  }
    where
      by : (j : ℕ) (constant : Constant) → slice_get of.hoisted.kept j ≡ Some constant → k ≤ j → (j ≡ k) ⊎ (j ≢ k) →
          with_temporary first word d.temporaries (keeper of.old.temporaries j) ≡ value r constant
      by j constant kept from (inl same) =
          let one : constant ≡ at.constant = cc (kept, at.kept, same) in
          same_temporary first (keeper of.old.temporaries j) word d.temporaries (omega (arith, same)) ∙ sym (ap (value r) one)
      by j constant kept from (inr other) =
          other_temporary first (keeper of.old.temporaries j) word d.temporaries (omega (arith, other))
          ∙ is.hold.keeps j constant kept (omega (arith, from, other))

  there : node_of of.new d.node ≡ Some (keeping_node (of.old.temporaries + k) at.constant (lead of.old of.new of.hoisted k))
  there = ap (λ (n : NodeId). node_of of.new n) is.node ∙ keeper_there of.old of.new of.hoisted k at.constant at.kept

  graph_there : slice_get r.news d.procedure ≡ Some of.new
  graph_there = ap (λ (q : ℕ). slice_get r.news q) is.procedure ∙ of.is_new

  kind_is : kind_here r.news d ≡ Assign (destination.Temporary first) (Copy (operand.Constant at.constant)) (lead of.old of.new of.hoisted k)
  kind_is = grind (arith, graph_there, there)

  tokens_are : tokens_at r.news d ≡ 1
  tokens_are = grind (arith, graph_there, there)

  fits : nat_lt word (2 ^ 64) ≡ true
  fits = grind (arith, nat_tests, at.small)

  -- it keeps its word, and stands at no event
  comes : comes_to r.setting store ((graph_control r.news).act d) ≡ Ok (Stay word store)
  comes = grind (arith, kind_is, fits)

  leads_to_next : (graph_control r.news).on word d ≡ next
  leads_to_next = grind (arith, kind_is)

  quiet : event_at r.setting Running store ((graph_control r.news).act d) ≡ None
  quiet = grind (arith, kind_is)

  costs_one : (most : ℕ) → now r most d ≤ 1
  costs_one most =
      let leads : is_some (led 0 (kind_here r.news d)) ≡ true = ap (λ (kind : NodeKind). is_some (led 0 kind)) kind_is in
      let is_max : now r most d ≡ max 1 (tokens_at r.news d) = ap (λ (x : Bool). by_place most x (tokens_at r.news d)) leads in
      omega (arith, is_max, tokens_are)

-- ---- the chain

-- Its nodes are passed one after the other, each at one token.
pub chain_comes : (r : Hoisted) (leaving : ℕ) (store : Store) (c : Position) (k most : ℕ) → k ≤ most → (d : Position) → InChain r k c d →
    ComesBy (graph_control r.news) r.setting (λ store c d. Stand r c d) (now r leaving) k store c most d
chain_comes r leaving store c zero most few d is =
    record { of = is.of; procedure = is.procedure; node = is.node ∙ sym is.behind; step = is.step; hold = is.hold }
chain_comes r leaving store c (suc k) most few d is =
    let one = costs_one store k c d is leaving in
    record {
      way = word store k c d is;
      stays = comes store k c d is;
      quiet = quiet store k c d is;
      left = most - 1;
      within = omega (arith, one, few);
      on = subst (λ (to : Position). ComesBy (graph_control r.news) r.setting (λ store c d. Stand r c d) (now r leaving) k store c (most - 1) to)
          (sym (leads_to_next store k c d is)) (chain_comes r leaving store c k (most - 1) (omega (arith, few)) (next store k c d is) (goes_on store k c d is));
    }
