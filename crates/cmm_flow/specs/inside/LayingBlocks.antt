-- What a builder lays for statements with what they hold, in front of a node.
use Rattle.std.specs.Prelude.{ℕ, ◌+◌, ◌++◌, nat_lt, Bool, IsTrue, List, [], ◌∷◌, flat_map, sum_by}
use Rattle.std.specs.List.{list_all}
use Rattle.cmm_program.specs.declared.procedure.Proc.{Proc}
use Rattle.cmm_program.specs.declared.statement.Arm.{Arm, out-Arm}
use Rattle.cmm_program.specs.declared.statement.Form.{Form}
use Rattle.cmm_program.specs.declared.statement.Statement.{Statement}
use Rattle.cmm_program.specs.Bodies.{within}
use Rattle.cmm_program.specs.Numbering.{label_number, site_number}
use Rattle.cmm_graph.specs.declared.node.Arm.{Arm as Way}
use Rattle.cmm_graph.specs.declared.node.Node.{Node}
use Rattle.cmm_graph.specs.declared.number.NodeId.{NodeId}
use Rattle.cmm_graph.specs.Ranges.{is_step, leads_to}
use Rattle.cmm_flow.specs.declared.builder.Builder.{Builder}
use Rattle.cmm_flow.specs.Flow.{all_tokens}
use Rattle.cmm_flow.specs.Relation.{AreAll}
use Rattle.cmm_flow.specs.Statements.{FormCode}
use Rattle.cmm_flow.specs.inside.Laying.{AddsSites, AddsTokens, Asked, IsReady, Keeps, LaysMarked, label_of}
use Rattle.cmm_flow.specs.inside.Marks.{FrontCode, LeadsBehindArms, LeadsBehindForm, LeadsBehindList, OtherwiseCode, WaysCode}
use Rattle.cmm_flow.specs.inside.Nodes.{nodes_of_form}

-- the nodes of a statement, without those of the blocks inside it, pass a test
abbrev pub passes_own : Proc → (Node → Bool) → Statement → Bool
passes_own q test s = list_all test (nodes_of_form q s.tokens s.form)

-- a test holds of all statements of arms
abbrev pub AreAllArms : (Statement → Bool) → List Arm → Type 0
AreAllArms test [] = Unit {0}
AreAllArms test (arm ∷ arms) = AreAll test (out-Arm arm).body × AreAllArms test arms

-- the label of a statement, if it is one, has a number below a limit
abbrev pub has_labels_below : ℕ → Statement → Bool
has_labels_below limit s = list_all (λ l. nat_lt l limit) (label_number s.form)

-- the sites of a statement and of those inside it
abbrev pub form_sites : Form → List ℕ
form_sites form = site_number form ++ flat_map (λ s. site_number s.form) (within form)

-- of the statements of a block
abbrev pub block_sites : List Statement → List ℕ
block_sites statements = flat_map (λ s. form_sites s.form) statements

-- and of arms
abbrev pub arm_sites : List Arm → List ℕ
arm_sites arms = flat_map (λ arm. block_sites (out-Arm arm).body) arms

-- the tokens of the nodes of a statement, without those of the blocks inside it
abbrev pub laid_tokens : Proc → Statement → ℕ
laid_tokens q s = all_tokens (nodes_of_form q s.tokens s.form)

-- with those of the statements inside it
abbrev pub form_tokens : Proc → ℕ → Form → ℕ
form_tokens q tokens form = all_tokens (nodes_of_form q tokens form) + sum_by (laid_tokens q) (within form)

-- of the statements of a block
abbrev pub block_tokens : Proc → List Statement → ℕ
block_tokens q statements = sum_by (λ s. form_tokens q s.tokens s.form) statements

-- and of arms
abbrev pub arm_tokens : Proc → List Arm → ℕ
arm_tokens q arms = sum_by (λ arm. block_tokens q (out-Arm arm).body) arms

-- a run may stand at the node of each label, of which there are n, and at a node where control goes on
pub record GoesOn (count : ℕ) (k : NodeId) (x : Asked) : Type 0 where
  pub labels : (l : ℕ) → IsTrue (leads_to x.graph is_step (label_of count l))
  pub next : IsTrue (leads_to x.graph is_step k)

-- one statement
pub record LaysForm (a b : Builder) (q : Proc) (tokens : ℕ) (form : Form) (n k : NodeId) : Type 0 where
  pub lays : (count : ℕ) → IsReady count a →
      LaysMarked a b (λ nodes. FormCode q nodes (label_of count) tokens form n k) (λ nodes. LeadsBehindForm q nodes (label_of count) form k)
  pub keeps : (count : ℕ) → IsReady count a →
      Keeps (λ x. GoesOn count k x × IsTrue (list_all x.test (nodes_of_form q tokens form)) × IsTrue (list_all (passes_own q x.test) (within form))) a b
  pub waits : AddsSites (form_sites form) a b
  pub adds : AddsTokens (form_tokens q tokens form) a b

abbrev pub LaysStatement : Builder → Builder → Proc → Statement → NodeId → NodeId → Type 0
LaysStatement a b q s n k = LaysForm a b q s.tokens s.form n k

-- a block
pub record LaysBlock (a b : Builder) (q : Proc) (statements : List Statement) (n k : NodeId) : Type 0 where
  pub lays : (count : ℕ) → IsReady count a → LaysMarked a b (λ nodes. FrontCode q nodes (label_of count) statements n k)
      (λ nodes. LeadsBehindList q nodes (label_of count) statements k)
  pub keeps : (count : ℕ) → IsReady count a → Keeps (λ x. GoesOn count k x × AreAll (passes_own q x.test) statements) a b
  pub waits : AddsSites (block_sites statements) a b
  pub adds : AddsTokens (block_tokens q statements) a b

-- the arms of a switch
pub record LaysArms (a b : Builder) (q : Proc) (arms : List Arm) (to : List Way) (otherwise k : NodeId) : Type 0 where
  pub lays : (count : ℕ) → IsReady count a →
      LaysMarked a b (λ nodes. WaysCode q nodes (label_of count) arms to k × OtherwiseCode q nodes (label_of count) arms otherwise k)
      (λ nodes. LeadsBehindArms q nodes (label_of count) arms k)
  pub keeps : (count : ℕ) → IsReady count a → Keeps (λ x. GoesOn count k x × AreAllArms (passes_own q x.test) arms) a b
  pub waits : AddsSites (arm_sites arms) a b
  pub adds : AddsTokens (arm_tokens q arms) a b
