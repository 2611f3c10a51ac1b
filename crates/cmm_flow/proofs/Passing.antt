-- Code of statements that leave their procedure, or wait at a site: that it stays where more nodes are laid, and how it is made of its parts.
use Rattle.std.proofs.Common.{◌≡◌, ℕ, suc, ◌+◌, Bool, true, false, List, [], ◌∷◌, ◌++◌, refl, map, length, slice_get, Option, Some, None, sym, ap, ◌∙◌, subst, add-one}
use Rattle.cmm_program.specs.declared.expression.Expression.{Expression}
use Rattle.cmm_program.specs.declared.procedure.Proc.{Proc}
use Rattle.cmm_program.specs.declared.procedure.Site.{Site}
use Rattle.cmm_graph.specs.Counterpart.{numbers_of}
use Rattle.cmm_graph.specs.declared.number.NodeId.{NodeId}
use Rattle.cmm_graph.specs.declared.number.ContinuationId.{ContinuationId}
use Rattle.cmm_graph.specs.declared.operand.Operand.{Operand}
use Rattle.cmm_graph.specs.declared.operand.Argument.{Argument}
use Rattle.cmm_graph.specs.declared.node.Exits.{Exits}
use Rattle.cmm_graph.specs.declared.node.Node.{Node}
use Rattle.cmm_graph.specs.declared.node.NodeKind.{NodeKind}
use Rattle.cmm_graph.specs.declared.node.NodeKind.TheVariants.{Call, Yield, Jump, Cut, Return, CopyIn}
use Rattle.cmm_flow.specs.Operands.{arguments_of, nodes, nodes_of_all, operand_of, operands_of}
use Rattle.cmm_flow.specs.Code.{IsNode, OperandsCode}
use Rattle.cmm_flow.specs.Statements.{CallCode, CutCode, JumpCode, ExitsCode, NormalExit, ReturnCode, YieldCode, normal_tokens, remaining}
use Rattle.cmm_flow.specs.inside.Counts.{capped}
use Rattle.cmm_flow.specs.inside.Passing.{ExitsLead, IsCopyIn, IsNormal, PassingCode}
use Rattle.cmm_flow.proofs.ExpressionsStay.{node_stays}

-- ---- it stays

-- where there is a node and something holds of its number
with_node : (nodes more : List Node) (normal : Option NodeId) (tokens : ℕ) (kind : NodeKind) →
    ((j : NodeId) × (normal ≡ Some j) × IsNode nodes j tokens kind) → ((j : NodeId) × (normal ≡ Some j) × IsNode (nodes ++ more) j tokens kind)
with_node nodes more normal tokens kind (j, is, node) = (j, is, node_stays nodes more j tokens kind node)

numbered : (ns : List ℕ) → numbers_of (map (λ k. record { number = k }) ns) ≡ ns
numbered [] = refl
numbered (n ∷ ns) = ap (λ ms. n ∷ ms) (numbered ns)

-- continuations that are made of numbers have these
pub numbers_back : (ks : List ContinuationId) (ns ms : List ℕ) → ks ≡ map (λ k. record { number = k }) ns → ns ≡ ms → numbers_of ks ≡ ms
numbers_back ks ns ms made same = ap numbers_of made ∙ numbered ns ∙ same

normal_by : (nodes more : List Node) (site : Site) (normal : Option NodeId) (k : NodeId) (b : Bool) →
    elim b as (λ _. Type 0) [ true ↦ normal ≡ None | false ↦ (j : NodeId) × (normal ≡ Some j) × IsNode nodes j (suc (length site.results)) (CopyIn site.results k) ] →
    elim b as (λ _. Type 0) [ true ↦ normal ≡ None | false ↦ (j : NodeId) × (normal ≡ Some j) × IsNode (nodes ++ more) j (suc (length site.results)) (CopyIn site.results k) ]
normal_by nodes more site normal k true is = is
normal_by nodes more site normal k false is = with_node nodes more normal _ _ is

pub exits_stay : (nodes more : List Node) (site : Option Site) (exits : Exits) (k : NodeId) → ExitsCode nodes site exits k → ExitsCode (nodes ++ more) site exits k
exits_stay nodes more None exits k is = is
exits_stay nodes more (Some site) exits k is = (is.0, normal_by nodes more site exits.normal k site.never is.1)

-- a normal exit leads to its CopyIn
pub normal_stays : (nodes more : List Node) (normal : Option NodeId) → IsNormal nodes normal → IsNormal (nodes ++ more) normal
normal_stays nodes more None is = is
normal_stays nodes more (Some n) is = record { tokens = is.tokens; to = is.to; next = is.next; node = node_stays nodes more n _ _ is.node }

pub lead_stays : (nodes more : List Node) (site : Option Site) (exits : Exits) (k : NodeId) → ExitsLead nodes site exits k → ExitsLead (nodes ++ more) site exits k
lead_stays nodes more site exits k is = (exits_stay nodes more site exits k is.0, normal_stays nodes more exits.normal is.1)

pub normal_there : (nodes : List Node) (site : Site) (normal : Option NodeId) (k : NodeId) → NormalExit nodes site normal k → IsNormal nodes normal
normal_there nodes site normal k is = by site.never is
  where
    by : (b : Bool) →
        elim b as (λ _. Type 0) [ true ↦ normal ≡ None | false ↦ (j : NodeId) × (normal ≡ Some j) × IsNode nodes j (suc (length site.results)) (CopyIn site.results k) ] →
        IsNormal nodes normal
    by true none = subst (IsNormal nodes) (sym none) tt
    by false (j, at, node) =
        let there : IsCopyIn nodes j = record { tokens = suc (length site.results); to = site.results; next = k; node = node } in
        subst (IsNormal nodes) (sym at) there

-- ---- the tokens of a normal exit

pub tokens_of_exit : (site : Site) → site.never ≡ false → capped (length site.results + 1) ≡ capped (normal_tokens (Some site))
tokens_of_exit site is =
    ap capped (add-one (length site.results) ∙ sym (ap (λ b. elim b as (λ _. ℕ) [ true ↦ 0 | false ↦ suc (length site.results) ]) is))

-- ---- whole statements

-- a node told by other words
pub told : (nodes : List Node) (n : NodeId) (tokens count : ℕ) (kind other : NodeKind) → tokens ≡ count → kind ≡ other → IsNode nodes n tokens kind → IsNode nodes n count other
told nodes n tokens count kind other counts kinds is =
    is ∙ ap (λ t. Some (record { tokens = t; kind = kind })) counts ∙ ap (λ k. Some (record { tokens = count; kind = k })) kinds

module _ (nodes_there : List Node) where
  pub call_code : (q : Proc) (tokens site : ℕ) (callee : Expression) (actuals : List Expression) (exits : Exits) (to : Operand) (arguments : List Argument)
      (count : ℕ) (n j k : NodeId) → to ≡ operand_of 0 callee → arguments ≡ arguments_of 1 actuals →
      count ≡ remaining tokens (nodes callee + nodes_of_all actuals + normal_tokens (slice_get q.sites site)) →
      ExitsCode nodes_there (slice_get q.sites site) exits k → IsNode nodes_there j count (Call record { number = site } to arguments exits) →
      PassingCode nodes_there callee actuals n j → CallCode nodes_there q tokens site callee actuals n k
  call_code q tokens site callee actuals exits to arguments count n j k at passed counts normal node (m, first, second) = (
    m,
    j,
    exits,
    first,
    second,
    told nodes_there j _ _ _ _ counts
        (ap (λ to. Call record { number = site } to arguments exits) at ∙ ap (λ as_. Call record { number = site } (operand_of 0 callee) as_ exits) passed) node,
    normal,
  )

  pub yield_code : (q : Proc) (tokens site : ℕ) (values : List Expression) (exits : Exits) (operands : List Operand)
      (count : ℕ) (n j k : NodeId) → operands ≡ operands_of 0 values →
      count ≡ remaining tokens (nodes_of_all values + normal_tokens (slice_get q.sites site)) →
      ExitsCode nodes_there (slice_get q.sites site) exits k → IsNode nodes_there j count (Yield record { number = site } operands exits) →
      OperandsCode nodes_there values 0 n j → YieldCode nodes_there q tokens site values n k
  yield_code q tokens site values exits operands count n j k passed counts normal node second =
      (j, exits, second, told nodes_there j _ _ _ _ counts (ap (λ os. Yield record { number = site } os exits) passed) node, normal)

  pub jump_code : (tokens : ℕ) (callee : Expression) (actuals : List Expression) (to : Operand) (arguments : List Argument) (count : ℕ) (n j : NodeId) →
      to ≡ operand_of 0 callee → arguments ≡ arguments_of 1 actuals → count ≡ remaining tokens (nodes callee + nodes_of_all actuals) →
      IsNode nodes_there j count (Jump to arguments) → PassingCode nodes_there callee actuals n j → JumpCode nodes_there tokens callee actuals n
  jump_code tokens callee actuals to arguments count n j at passed counts node (m, first, second) =
      (m, j, first, second, told nodes_there j _ _ _ _ counts (ap (λ to. Jump to arguments) at ∙ ap (λ as_. Jump (operand_of 0 callee) as_) passed) node)

  pub cut_code : (tokens : ℕ) (to : Expression) (values : List Expression) (own : List ℕ) (at : Operand) (arguments : List Argument) (owns : List ContinuationId)
      (count : ℕ) (n j : NodeId) → at ≡ operand_of 0 to → arguments ≡ arguments_of 1 values → owns ≡ map (λ k. record { number = k }) own →
      count ≡ remaining tokens (nodes to + nodes_of_all values) →
      IsNode nodes_there j count (Cut at arguments owns) → PassingCode nodes_there to values n j → CutCode nodes_there tokens to values own n
  cut_code tokens to values own at arguments owns count n j places passed mine counts node (m, first, second) = (
    m,
    j,
    first,
    second,
    told nodes_there j _ _ _ _ counts
        (ap (λ at. Cut at arguments owns) places ∙ ap (λ as_. Cut (operand_of 0 to) as_ owns) passed ∙ ap (λ ks. Cut (operand_of 0 to) (arguments_of 1 values) ks) mine) node,
  )

  pub return_code : (tokens exit alternates : ℕ) (values : List Expression) (arguments : List Argument) (count : ℕ) (n j : NodeId) →
      arguments ≡ arguments_of 0 values → count ≡ remaining tokens (nodes_of_all values) →
      IsNode nodes_there j count (Return exit alternates arguments) → OperandsCode nodes_there values 0 n j → ReturnCode nodes_there tokens exit alternates values n
  return_code tokens exit alternates values arguments count n j passed counts node second =
      (j, second, told nodes_there j _ _ _ _ counts (ap (λ as_. Return exit alternates as_) passed) node)
