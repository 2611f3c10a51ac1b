-- Code of assignments: that it stays where more nodes are laid, and how it is made of its parts.
use Rattle.std.proofs.Common.{◌≡◌, ℕ, suc, List, [], ◌∷◌, ◌++◌, Some, length, refl, sym, ap, ◌∙◌, subst}
use Rattle.cmm_words.specs.declared.width.Width.{Width}
use Rattle.cmm_program.specs.declared.expression.Expression.{Expression}
use Rattle.cmm_program.specs.declared.statement.Lvalue.{Lvalue}
use Rattle.cmm_program.specs.declared.statement.Lvalue.TheVariants as lvalue
use Rattle.cmm_graph.specs.declared.number.NodeId.{NodeId}
use Rattle.cmm_graph.specs.declared.operand.Operand.{Operand}
use Rattle.cmm_graph.specs.declared.node.Node.{Node}
use Rattle.cmm_graph.specs.declared.node.NodeKind.{NodeKind}
use Rattle.cmm_graph.specs.declared.node.NodeKind.TheVariants.{Store}
use Rattle.cmm_graph.specs.Covering.{access_tokens}
use Rattle.cmm_flow.specs.Operands.{temporary, operand_of}
use Rattle.cmm_flow.specs.Code.{IsNode, ValueCode, ValuesCode, to_temporary}
use Rattle.cmm_flow.specs.Statements.{AddressesCode, AssignCode, SeveralCode, StoresCode}
use Rattle.cmm_flow.specs.Waiting.{waiting_at}
use Rattle.cmm_flow.specs.inside.Parts.{AddressCode, TwoCode, store_node, store_tokens}
use Rattle.cmm_flow.proofs.ExpressionsStay.{node_stays, value_stays}

-- the node that stores a value waits at no site
pub store_waits : (kind : NodeKind) (l : Lvalue) (address value : Operand) (k : NodeId) → kind ≡ store_node l address value k → waiting_at kind ≡ []
store_waits kind (lvalue.Target target) address value k is = ap waiting_at is
store_waits kind (lvalue.Memory width aligned at) address value k is = ap waiting_at is

module _ (nodes more : List Node) where
  abbrev all : List Node
  all = nodes ++ more

  pub addresses_stay : (to : List Lvalue) (base : ℕ) (n k : NodeId) → AddressesCode nodes to base n k → AddressesCode all to base n k
  addresses_stay [] base n k is = is
  addresses_stay (lvalue.Target target ∷ ls) base n k is = addresses_stay ls (suc base) n k is
  addresses_stay (lvalue.Memory width aligned address ∷ ls) base n k (m, first, rest) =
      (m, value_stays nodes more address base (to_temporary base) n m first, addresses_stay ls (suc base) m k rest)

  pub stores_stay : (to : List Lvalue) (es : List Expression) (address value : ℕ) (n k : NodeId) →
      StoresCode nodes to es address value n k → StoresCode all to es address value n k
  stores_stay [] es address value n k is = is
  stores_stay (lvalue.Target target ∷ ls) [] address value n k is = is
  stores_stay (lvalue.Memory width aligned at ∷ ls) [] address value n k is = is
  stores_stay (lvalue.Target target ∷ ls) (e ∷ es) address value n k (m, first, rest) =
      (m, node_stays nodes more n _ _ first, stores_stay ls es (suc address) (suc value) m k rest)
  stores_stay (lvalue.Memory width aligned at ∷ ls) (e ∷ es) address value n k (m, first, rest) =
      (m, node_stays nodes more n _ _ first, stores_stay ls es (suc address) (suc value) m k rest)

module _ (nodes : List Node) where
  -- ---- one more

  addresses_first : (l : Lvalue) (rest : List Lvalue) (base : ℕ) (n m k : NodeId) → AddressesCode nodes rest (suc base) m k → AddressCode nodes l base n m →
      AddressesCode nodes (l ∷ rest) base n k
  addresses_first (lvalue.Target target) rest base n m k others first = subst (λ i. AddressesCode nodes rest (suc base) i k) (sym first) others
  addresses_first (lvalue.Memory width aligned address) rest base n m k others first = (m, first, others)

  pub addresses_cons : (to rest : List Lvalue) (l : Lvalue) (base next : ℕ) (n m k : NodeId) → to ≡ l ∷ rest → next ≡ suc base →
      AddressesCode nodes rest next m k → AddressCode nodes l base n m → AddressesCode nodes to base n k
  addresses_cons to rest l base next n m k same bases others first =
      subst (λ ls. AddressesCode nodes ls base n k) (sym same)
      (addresses_first l rest base n m k (subst (λ b. AddressesCode nodes rest b m k) bases others) first)

  pub values_cons : (es rest : List Expression) (e : Expression) (base next : ℕ) (n m k : NodeId) → es ≡ e ∷ rest → next ≡ suc base →
      ValuesCode nodes rest next m k → ValueCode nodes e base (to_temporary base) n m → ValuesCode nodes es base n k
  values_cons es rest e base next n m k same bases others first =
      subst (λ es. ValuesCode nodes es base n k) (sym same) (m, first, subst (λ b. ValuesCode nodes rest b m k) bases others)

  stores_first : (l : Lvalue) (ls : List Lvalue) (e : Expression) (es : List Expression) (address value : ℕ) (n m k : NodeId) →
      StoresCode nodes ls es (suc address) (suc value) m k → IsNode nodes n (store_tokens l) (store_node l (temporary address) (temporary value) m) →
      StoresCode nodes (l ∷ ls) (e ∷ es) address value n k
  stores_first (lvalue.Target target) ls e es address value n m k others first = (m, first, others)
  stores_first (lvalue.Memory width aligned at) ls e es address value n m k others first = (m, first, others)

  pub stores_cons : (to ls : List Lvalue) (l : Lvalue) (values es : List Expression) (e : Expression) (address value addresses numbers : ℕ) (kind : NodeKind)
      (n m k : NodeId) → to ≡ l ∷ ls → values ≡ e ∷ es → addresses ≡ suc address → numbers ≡ suc value →
      kind ≡ store_node l (temporary address) (temporary value) m → StoresCode nodes ls es addresses numbers m k → IsNode nodes n (store_tokens l) kind →
      StoresCode nodes to values address value n k
  stores_cons to ls l values es e address value addresses numbers kind n m k places sources at of made others first =
      subst (λ ls. StoresCode nodes ls values address value n k) (sym places)
      (subst (λ es. StoresCode nodes (l ∷ ls) es address value n k) (sym sources)
      (stores_first l ls e es address value n m k
      (subst (λ b. StoresCode nodes ls es b (suc value) m k) at (subst (λ b. StoresCode nodes ls es addresses b m k) of others))
      (first ∙ ap (λ kind. Some (record { tokens = store_tokens l; kind = kind })) made)))

  -- ---- whole assignments

  pub assign_memory : (to : Lvalue) (width : Width) (aligned : ℕ) (address value : Expression) (l r : Operand) (kind : NodeKind) (n j k : NodeId) →
      to ≡ lvalue.Memory width aligned address → kind ≡ store_node to l r k → l ≡ operand_of 0 address → r ≡ operand_of 1 value →
      IsNode nodes j (access_tokens width aligned) kind → TwoCode nodes address value n j → AssignCode nodes (to ∷ []) (value ∷ []) n k
  assign_memory to width aligned address value l r kind n j k place made left right is (m, first, second) =
      subst (λ to. AssignCode nodes (to ∷ []) (value ∷ []) n k) (sym place) (
        m,
        j,
        first,
        second,
        is ∙ ap (λ kind. Some (record { tokens = access_tokens width aligned; kind = kind }))
            (made ∙ ap (λ to. store_node to l r k) place ∙ ap (λ l. Store width aligned l r k) left ∙ ap (λ r. Store width aligned (operand_of 0 address) r k) right),
      )

  pub several_code : (to : List Lvalue) (values : List Expression) (count : ℕ) (n m j k : NodeId) → count ≡ length to →
      StoresCode nodes to values 0 count j k → ValuesCode nodes values count m j → AddressesCode nodes to 0 n m → SeveralCode nodes to values n k
  several_code to values count n m j k is stores sources places =
      (m, j, places, subst (λ c. ValuesCode nodes values c m j) is sources, subst (λ c. StoresCode nodes to values 0 c j k) is stores)

  -- several are assigned where there are not just one place and one value
  several_is : (l : Lvalue) (ls : List Lvalue) (e : Expression) (es : List Expression) (n k : NodeId) → (length ls ≡ 0 → length es ≡ 0 → ⊥) →
      SeveralCode nodes (l ∷ ls) (e ∷ es) n k → AssignCode nodes (l ∷ ls) (e ∷ es) n k
  several_is (lvalue.Target target) [] e [] n k apart is = absurd (apart refl refl)
  several_is (lvalue.Memory width aligned at) [] e [] n k apart is = absurd (apart refl refl)
  several_is (lvalue.Target target) [] e (f ∷ fs) n k apart is = is
  several_is (lvalue.Memory width aligned at) [] e (f ∷ fs) n k apart is = is
  several_is (lvalue.Target target) (m ∷ ms) e es n k apart is = is
  several_is (lvalue.Memory width aligned at) (m ∷ ms) e es n k apart is = is

  pub several_at : (to ls : List Lvalue) (l : Lvalue) (values es : List Expression) (e : Expression) (n k : NodeId) → to ≡ l ∷ ls → values ≡ e ∷ es →
      (length ls ≡ 0 → length es ≡ 0 → ⊥) → SeveralCode nodes to values n k → AssignCode nodes to values n k
  several_at to ls l values es e n k places sources apart is =
      subst (λ to. AssignCode nodes to values n k) (sym places) (subst (λ values. AssignCode nodes (l ∷ ls) values n k) (sym sources)
      (several_is l ls e es n k apart
      (subst (λ values. SeveralCode nodes (l ∷ ls) values n k) sources (subst (λ to. SeveralCode nodes to values n k) places is))))
