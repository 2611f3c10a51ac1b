-- The constants that a graph of a program names have words for values.
use Rattle.std.proofs.Common.{◌^◌, ◌<◌, inl, inr, arith, List, [], ◌∷◌, flat_map, is_some}
use Rattle.std.proofs.lemmas.Bool.{and_parts}
use Rattle.std.proofs.lemmas.Bool.Decides.{nat_tests}
use Rattle.std.proofs.lemmas.List.Elements.{All-contains, Contains-append_cases}
use Rattle.std.proofs.lemmas.List.Sums.{AllPass-from_list_all}
use Rattle.std.specs.Prelude.{◌&&◌, IsTrue, Contains}
use Rattle.std.specs.List.{list_all}
use Rattle.cmm_words.proofs.Shared.{word_64}
use Rattle.cmm_words.specs.declared.constant.Constant.{Constant}
use Rattle.cmm_words.specs.declared.constant.Constant.TheVariants.{Number, Code, Address}
use Rattle.cmm_program.specs.Layout.{constant_value}
use Rattle.cmm_program.specs.Typing.{constant_width, is_target}
use Rattle.cmm_program.specs.declared.placement.Placement.{Placement}
use Rattle.cmm_program.specs.declared.procedure.Proc.{Proc}
use Rattle.cmm_program.specs.declared.program.Program.{Program}
use Rattle.cmm_graph.specs.Counterpart.{IsGraphOf, names_operand, names_there, reads_registers, targets}
use Rattle.cmm_graph.specs.Paths.{operands}
use Rattle.cmm_graph.specs.declared.graph.Graph.{Graph}
use Rattle.cmm_graph.specs.declared.node.Node.{Node}
use Rattle.cmm_graph.specs.declared.operand.Operand.{Operand}
use Rattle.cmm_graph.specs.declared.operand.Operand.TheVariants as operand
use Rattle.cmm_hoist.specs.Graphs.{all_operands}

module _ (p : Program) (q : Proc) where
  -- what a node names is there, and so is each of its operands
  operands_named : (nodes : List Node) → IsTrue (list_all (λ node. names_there p q node.kind) nodes) → (o : Operand) →
      Contains (flat_map (λ node. operands node.kind) nodes) o → IsTrue (names_operand p q o)
  operands_named [] all o among = absurd (grind (arith, among))
  operands_named (node ∷ nodes) all o among =
      let parts = and_parts (names_there p q node.kind) (list_all (λ (n : Node). names_there p q n.kind) nodes) all in
      elim (Contains-append_cases (operands node.kind) (flat_map (λ (n : Node). operands n.kind) nodes) o among) [
        | inl here ↦ one node parts.0 here
        | inr later ↦ operands_named nodes parts.1 o later
      ]
    where
      one : (n : Node) → IsTrue (names_there p q n.kind) → Contains (operands n.kind) o → IsTrue (names_operand p q o)
      one n there here =
          let two = and_parts (list_all (names_operand p q) (operands n.kind) && list_all (is_target p q) (targets n.kind)) (reads_registers p n.kind) there in
          let first = and_parts (list_all (names_operand p q) (operands n.kind)) (list_all (is_target p q) (targets n.kind)) two.0 in
          All-contains (λ (x : Operand). IsTrue (names_operand p q x)) (operands n.kind) o
          (AllPass-from_list_all (names_operand p q) (operands n.kind) first.0) here

  -- one that has a width is a word
  constant_small : (placement : Placement) (c : Constant) → IsTrue (is_some (constant_width p c)) → constant_value p placement c < 2 ^ 64
  constant_small placement (Number n width) there = word_64 width n (grind (arith, nat_tests, there))
  constant_small placement (Code proc plus) there = omega arith
  constant_small placement (Address label plus) there = omega arith

  pub constant_is_word : (g : Graph) → IsGraphOf p q g → (placement : Placement) (c : Constant) → Contains (all_operands g) (operand.Constant c) →
      constant_value p placement c < 2 ^ 64
  constant_is_word g is placement c among = constant_small placement c (operands_named g.nodes is.names (operand.Constant c) among)
