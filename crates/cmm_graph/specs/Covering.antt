-- How many tokens a node has at least, for what its code brings, moves and tests. A procedure has n in its text.
use Rattle.std.specs.Prelude.{ℕ, suc, ◌+◌, ◌&&◌, ◌||◌, max, nat_le, nat_lt, Bool, true, false, length}
use Rattle.std.specs.List.{flat_map}
use Rattle.cmm_words.specs.declared.constant.Constant.TheVariants as constant
use Rattle.cmm_words.specs.declared.width.Width.{Width}
use Rattle.cmm_words.specs.Widths.{bits, bytes}
use Rattle.cmm_graph.specs.declared.operand.Operand.{Operand}
use Rattle.cmm_graph.specs.declared.operand.Operand.TheVariants as operand
use Rattle.cmm_graph.specs.declared.operand.Rvalue.{Rvalue}
use Rattle.cmm_graph.specs.declared.operand.Rvalue.TheVariants as rvalue
use Rattle.cmm_graph.specs.declared.node.Node.{Node}
use Rattle.cmm_graph.specs.declared.node.NodeKind.{NodeKind}
use Rattle.cmm_graph.specs.declared.node.NodeKind.TheVariants.{Entry, CopyIn, Assign, Store, Switch, Call, Yield, Jump, Cut, Return}

-- ---- operators

abbrev pub is_constant_operand : Operand → Bool
is_constant_operand (operand.Constant k) = true
is_constant_operand _ = false

-- a label of a procedure or of data, with a number added
abbrev pub is_label_operand : Operand → Bool
is_label_operand (operand.Constant (constant.Code proc plus)) = true
is_label_operand (operand.Constant (constant.Address label plus)) = true
is_label_operand _ = false

-- An operator has one token, and one more where both its operands are constants, which have one each in the text. A label is a word of 64 bits, so an
-- operator on fewer has none.
abbrev pub operator_tokens : Width → Operand → Operand → ℕ
operator_tokens width a b = elim ((is_constant_operand a && is_constant_operand b) || (nat_lt (bits width) 64 && (is_label_operand a || is_label_operand b))) [
  | true ↦ 2
  | false ↦ 1
]

-- ---- words in memory

-- A word in memory that need not be aligned to its size is moved in parts, so that its node has two tokens more; its text has `aligned` and a number.
abbrev pub extra_tokens : Width → ℕ → ℕ
extra_tokens width aligned = elim (nat_lt aligned (bytes width)) [ true ↦ 2 | false ↦ 0 ]

abbrev pub access_tokens : Width → ℕ → ℕ
access_tokens width aligned = extra_tokens width aligned + 1

-- ---- nodes

abbrev pub least_for : Rvalue → ℕ
least_for (rvalue.Load width aligned address) = access_tokens width aligned
least_for (rvalue.Binary operator width left right) = operator_tokens width left right
least_for (rvalue.Compare test) = operator_tokens test.width test.left test.right
least_for _ = 1

-- The least of a node, where its procedure has n. An Entry has as many as the procedure. One that passes values has one for each, and one for
-- each exit that leads back to a continuation.
abbrev pub least_tokens : ℕ → NodeKind → ℕ
least_tokens whole (Entry formals next) = max whole (length formals + 3)
least_tokens whole (CopyIn to next) = suc (length to)
least_tokens whole (Assign to value next) = least_for value
least_tokens whole (Store width aligned address value next) = access_tokens width aligned
least_tokens whole (Switch value arms otherwise) = suc (length (flat_map (λ arm. arm.ranges) arms))
least_tokens whole (Call site callee arguments exits) = suc (length arguments + length exits.returns)
least_tokens whole (Yield site values exits) = suc (length values + length exits.returns)
least_tokens whole (Jump callee arguments) = length arguments + 2
least_tokens whole (Cut to arguments own) = length arguments + 2
least_tokens whole (Return exit alternates results) = length results + 2
least_tokens whole _ = 1

-- a node of a procedure with n tokens has enough
abbrev pub covers : ℕ → Node → Bool
covers whole node = nat_le (least_tokens whole node.kind) node.tokens
