-- What a node names, its graph names.
use Rattle.std.proofs.Common.{◌≡◌, ℕ, refl, sym, ◌∙◌, ap, Bool, true, List, [], ◌∷◌, arith, Some, slice_get}
use Rattle.std.specs.Prelude.{◌==◌, ◌||◌}
use Rattle.std.specs.List.{list_all, list_any}
use Rattle.std.proofs.lemmas.Bool.{and_from, or_left, or_right}
use Rattle.std.proofs.lemmas.Bool.Decides.{nat_tests}
use Rattle.std.proofs.lemmas.List.Folds.{list_any_at}
use Rattle.std.proofs.lemmas.Option.{get_or_from_slice_get, slice_get_within}
use Rattle.cmm_words.specs.declared.constant.Constant.TheVariants as constant
use Rattle.cmm_program.specs.declared.procedure.Target.{Target}
use Rattle.cmm_program.specs.declared.procedure.Target.TheVariants as target
use Rattle.cmm_graph.specs.Counterpart.{targets, targets_of_destination}
use Rattle.cmm_graph.specs.Paths.{operands, operands_of_rvalue, values_of}
use Rattle.cmm_graph.specs.declared.graph.Graph.{Graph}
use Rattle.cmm_graph.specs.declared.node.HostCall.TheVariants.{PutByte, GetByte}
use Rattle.cmm_graph.specs.declared.node.Node.{Node}
use Rattle.cmm_graph.specs.declared.node.NodeKind.{NodeKind}
use Rattle.cmm_graph.specs.declared.node.NodeKind.TheVariants.{Entry, CopyIn, Assign, Store, Branch, Switch, Call, Yield, Jump, Cut, Return, Host, Goto, Stop}
use Rattle.cmm_graph.specs.declared.operand.Operand.{Operand}
use Rattle.cmm_graph.specs.declared.operand.Operand.TheVariants as operand
use Rattle.cmm_graph.specs.declared.operand.Rvalue.{Rvalue}
use Rattle.cmm_graph.specs.declared.operand.Rvalue.TheVariants as rvalue
use Rattle.cmm_unit_code.specs.declared.unit_code.Reference.{Reference}
use Rattle.cmm_unit_code.specs.declared.unit_code.Reference.TheVariants.{Register, Label, Procedure}
use Rattle.cmm_emit.proofs.Mentioned.{or_none}
use Rattle.cmm_emit.specs.Mentions.{graph_names, kind_names, node_names, operand_names, read_names, target_names}

-- what an operand names, what takes a value, and what is read
abbrev pub is_mentioned : Graph → Operand → Bool
is_mentioned g (operand.Constant (constant.Code k plus)) = graph_names (Procedure k) g
is_mentioned g (operand.Constant (constant.Address k plus)) = graph_names (Label k) g
is_mentioned g _ = true

abbrev pub takes_mentioned : Graph → Target → Bool
takes_mentioned g (target.Register k width) = graph_names (Register k) g
takes_mentioned g _ = true

abbrev pub value_mentioned : Graph → Rvalue → Bool
value_mentioned g (rvalue.Register r) = graph_names (Register r.number) g
value_mentioned g _ = true

abbrev pub reads_mentioned : Graph → NodeKind → Bool
reads_mentioned g (Assign to value next) = value_mentioned g value
reads_mentioned g _ = true

same : (n : ℕ) → (n == n) ≡ true
same n = grind (arith, nat_tests)

module _ (g : Graph) where
  -- a graph names what is so
  abbrev Names : (Reference → Bool) → Type 0
  Names so = (r : Reference) → so r ≡ true → graph_names r g ≡ true

  -- all of a list are so, whose names the graph names, where each of it is
  all_so : {A : Type 0} (names : Reference → A → Bool) (so : A → Bool) → ((x : A) → Names (λ r. names r x) → so x ≡ true) → (xs : List A) →
      Names (λ r. list_any (names r) xs) → list_all so xs ≡ true
  all_so names so each [] named = refl
  all_so names so each (x ∷ xs) named =
      and_from (so x) (list_all so xs) (each x (λ r is. named r (or_left (names r x) (list_any (names r) xs) is)))
      (all_so names so each xs (λ r is. named r (or_right (names r x) (list_any (names r) xs) is)))

  operand_mentioned : (o : Operand) → Names (λ r. operand_names r o) → is_mentioned g o ≡ true
  operand_mentioned (operand.Constant (constant.Number n width)) names = refl
  operand_mentioned (operand.Constant (constant.Code k plus)) names = names (Procedure k) (same k)
  operand_mentioned (operand.Constant (constant.Address k plus)) names = names (Label k) (same k)
  operand_mentioned (operand.Local l) names = refl
  operand_mentioned (operand.Stackdata label) names = refl
  operand_mentioned (operand.Continuation k) names = refl

  all_mentioned : (os : List Operand) → Names (λ r. list_any (operand_names r) os) → list_all (is_mentioned g) os ≡ true
  all_mentioned = all_so operand_names (is_mentioned g) operand_mentioned

  target_mentioned : (t : Target) → Names (λ r. target_names r t) → takes_mentioned g t ≡ true
  target_mentioned (target.Variable k width) names = refl
  target_mentioned (target.Register k width) names = names (Register k) (same k)

  all_take : (ts : List Target) → Names (λ r. list_any (target_names r) ts) → list_all (takes_mentioned g) ts ≡ true
  all_take = all_so target_names (takes_mentioned g) target_mentioned

  read_mentioned : (value : Rvalue) → Names (λ r. read_names r value) → value_mentioned g value ≡ true
  read_mentioned (rvalue.Copy o) names = refl
  read_mentioned (rvalue.Register r) names = names (Register r.number) (same r.number)
  read_mentioned (rvalue.Load width aligned o) names = refl
  read_mentioned (rvalue.Unary operator width o) names = refl
  read_mentioned (rvalue.Binary operator width left right) names = refl
  read_mentioned (rvalue.Compare test) names = refl
  read_mentioned (rvalue.SignExtend from to o) names = refl
  read_mentioned (rvalue.LowBits from to o) names = refl

  -- ---- a kind of node

  pub record AreMentioned (kind : NodeKind) : Type 0 where
    pub operands : list_all (is_mentioned g) (operands kind) ≡ true
    pub targets : list_all (takes_mentioned g) (targets kind) ≡ true
    pub reads : reads_mentioned g kind ≡ true

  pub kind_mentioned : (kind : NodeKind) → Names (λ r. kind_names r kind) → AreMentioned kind
  kind_mentioned (Entry formals next) names = record { operands = refl; targets = refl; reads = refl }
  kind_mentioned (CopyIn to next) names = record { operands = refl; targets = all_take to names; reads = refl }
  kind_mentioned (Assign to value next) names =
      let ops = λ (r : Reference). list_any (operand_names r) (operands_of_rvalue value) in
      let takes = λ (r : Reference). list_any (target_names r) (targets_of_destination to) in
      record {
        operands = all_mentioned (operands_of_rvalue value) (λ r is. names r (or_left (ops r || read_names r value) (takes r) (or_left (ops r) (read_names r value) is)));
        targets = all_take (targets_of_destination to) (λ r is. names r (or_right (ops r || read_names r value) (takes r) is));
        reads = read_mentioned value (λ r is. names r (or_left (ops r || read_names r value) (takes r) (or_right (ops r) (read_names r value) is)));
      }
  kind_mentioned (Store width aligned address value next) names = record { operands = all_mentioned (address ∷ value ∷ []) names; targets = refl; reads = refl }
  kind_mentioned (Branch test then_ otherwise) names = record { operands = all_mentioned (test.left ∷ test.right ∷ []) names; targets = refl; reads = refl }
  kind_mentioned (Switch value arms otherwise) names = record { operands = all_mentioned (value ∷ []) names; targets = refl; reads = refl }
  kind_mentioned (Call site callee arguments exits) names = record { operands = all_mentioned (callee ∷ values_of arguments) names; targets = refl; reads = refl }
  kind_mentioned (Yield site values exits) names = record { operands = all_mentioned values names; targets = refl; reads = refl }
  kind_mentioned (Jump callee arguments) names = record { operands = all_mentioned (callee ∷ values_of arguments) names; targets = refl; reads = refl }
  kind_mentioned (Cut to arguments own) names = record { operands = all_mentioned (to ∷ values_of arguments) names; targets = refl; reads = refl }
  kind_mentioned (Return exit alternates results) names = record { operands = all_mentioned (values_of results) names; targets = refl; reads = refl }
  kind_mentioned (Host (PutByte value) next) names = record {
    operands = all_mentioned (value ∷ []) (λ r is. names r (or_none (operand_names r value) ∙ is));
    targets = refl;
    reads = refl;
  }
  kind_mentioned (Host (GetByte to) next) names = record {
    operands = refl;
    targets = all_take (to ∷ []) (λ r is. names r (or_none (target_names r to) ∙ is));
    reads = refl;
  }
  kind_mentioned (Goto next) names = record { operands = refl; targets = refl; reads = refl }
  kind_mentioned Stop names = record { operands = refl; targets = refl; reads = refl }

  -- of a node of the graph
  pub node_mentioned : (n : ℕ) (node : Node) → slice_get g.nodes n ≡ Some node → AreMentioned node.kind
  node_mentioned n node is =
      kind_mentioned node.kind (λ r names.
      list_any_at (node_names r) g.nodes n node (slice_get_within g.nodes n node is)
      (ap (λ (x : Node). node_names r x) (get_or_from_slice_get g.nodes n node node is) ∙ names))
