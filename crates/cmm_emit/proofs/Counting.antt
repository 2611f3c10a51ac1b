-- How many labels a program has, by its tokens.
use Rattle.std.proofs.Common.{◌≡◌, ℕ, zero, suc, ◌+◌, ◌*◌, ◌≤◌, ◌==◌, refl, arith, flat_map, List, [], ◌∷◌, length, length-append, Some, slice_get}
use Rattle.std.proofs.lemmas.Bool.{and_parts, eqb-true}
use Rattle.std.proofs.lemmas.List.Sums.{sum_by-cons}
use Rattle.std.specs.Prelude.{sum_by}
use Rattle.cmm_program.specs.declared.procedure.Proc.{Proc}
use Rattle.cmm_program.specs.declared.program.Program.{Program}
use Rattle.cmm_program.specs.declared.statement.Form.{Form}
use Rattle.cmm_program.specs.declared.statement.Form.TheVariants as form
use Rattle.cmm_program.specs.declared.statement.Statement.{Statement}
use Rattle.cmm_program.specs.Bodies.{body_statements}
use Rattle.cmm_program.specs.InRange.{IsProcInRange}
use Rattle.cmm_program.specs.Numbering.{body_numbers, site_number}
use Rattle.cmm_program.specs.Tokens.{own_tokens}
use Rattle.cmm_graph.specs.declared.graph.Graph.{Graph}
use Rattle.cmm_graph.specs.declared.node.Node.{Node}
use Rattle.cmm_graph.specs.declared.node.NodeKind.{NodeKind}
use Rattle.cmm_graph.specs.declared.node.NodeKind.TheVariants.{Assign, Branch, Call, CopyIn, Cut, Entry, Goto, Host, Jump, Return, Stop, Store, Switch, Yield}
use Rattle.cmm_emit.specs.Costs.{cost_of, total_cost}
use Rattle.cmm_emit.specs.declared.context.Context.{Context}
use Rattle.cmm_emit.specs.declared.context.Targets.{Targets}
use Rattle.cmm_emit.specs.Contexts.{first_label}

-- ---- nodes: each has an instruction

module _ (c : Context) (y : Targets) where
  some_cost : (kind : NodeKind) → 1 ≤ cost_of c y kind
  some_cost (Entry formals next) = omega arith
  some_cost (CopyIn to next) = omega arith
  some_cost (Assign to value next) = omega arith
  some_cost (Store width aligned address value next) = omega arith
  some_cost (Branch test then_ otherwise) = omega arith
  some_cost (Switch value arms otherwise) = omega arith
  some_cost (Call site callee arguments exits) = omega arith
  some_cost (Yield site values exits) = omega arith
  some_cost (Jump callee arguments) = omega arith
  some_cost (Cut to arguments own) = omega arith
  some_cost (Return exit alternates results) = omega arith
  some_cost (Host call next) = omega arith
  some_cost (Goto next) = omega arith
  some_cost Stop = omega arith

  pub nodes_cost : (nodes : List Node) → length nodes ≤ total_cost c y nodes
  nodes_cost [] = omega arith
  nodes_cost (node ∷ nodes) = omega (arith, some_cost node.kind, nodes_cost nodes, sum_by-cons (λ (node : Node). cost_of c y node.kind) node nodes)

-- ---- sites: each has a statement, and so a token

module _ (p : Program) (q : Proc) (range : IsProcInRange p q) where
  abbrev own : Statement → ℕ
  own s = own_tokens q s.form

  site_paid : (f : Form) → length (site_number f) ≤ own_tokens q f
  site_paid (form.Call site callee actuals) = omega arith
  site_paid (form.Yield site values) = omega arith
  site_paid (form.Checked site op width left right) = omega arith
  site_paid f = omega arith

  sites_paid : (ss : List Statement) → length (flat_map (λ (s : Statement). site_number s.form) ss) ≤ sum_by own ss
  sites_paid [] = omega arith
  sites_paid (s ∷ ss) =
      omega (
        arith,
        sum_by-cons own s ss,
        site_paid s.form,
        sites_paid ss,
        length-append (site_number s.form) (flat_map (λ (s : Statement). site_number s.form) ss),
      )

  pub sites_few : length q.sites ≤ q.tokens
  sites_few =
      let both = and_parts (length (body_numbers site_number q) == length q.sites) _ range.sites_numbered in
      let many = eqb-true (length (body_numbers site_number q)) (length q.sites) both.0 in
      let shortest = range.shortest in
      omega (arith, many, shortest, sites_paid (body_statements q))

-- ---- labels

pub first_label_few : (first : ℕ) (qs : List Proc) (gs : List Graph) (n : ℕ) →
    ((k : ℕ) (q : Proc) (g : Graph) → slice_get qs k ≡ Some q → slice_get gs k ≡ Some g → length g.nodes + length q.sites ≤ 65 * q.tokens) →
    first_label first qs gs n ≤ first + 65 * sum_by (λ q. q.tokens) qs
first_label_few first [] gs n each = omega arith
first_label_few first (q ∷ qs) [] n each = omega arith
first_label_few first (q ∷ qs) (g ∷ gs) zero each = omega arith
first_label_few first (q ∷ qs) (g ∷ gs) (suc n) each =
    omega (
      arith,
      each 0 q g refl refl,
      first_label_few (first + (length g.nodes + length q.sites)) qs gs n (λ k r h is also. each (suc k) r h is also),
      sum_by-cons (λ (q : Proc). q.tokens) q qs,
    )
