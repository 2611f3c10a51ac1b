-- What folding does to the right side of an assignment, and which operators it leaves.
use Rattle.std.specs.Prelude.{◌≡◌, ◌≢◌, ℕ, ◌^◌, ◌≤◌, ◌<◌, ◌⊎◌, nat_lt, IsTrue, Option, Some, None, flat_map, if◌then◌else◌}
use Rattle.std.specs.List.{list_all}
use Rattle.cmm_words.specs.declared.constant.Constant.TheVariants.{Number}
use Rattle.cmm_words.specs.declared.operators.Op2.{Op2}
use Rattle.cmm_words.specs.declared.operators.Op2.TheVariants.{Mul, Divu, Modu}
use Rattle.cmm_words.specs.declared.width.Width.{Width}
use Rattle.cmm_words.specs.Widths.{bits}
use Rattle.cmm_words.specs.Words.{value2}
use Rattle.cmm_program.specs.declared.procedure.Proc.{Proc}
use Rattle.cmm_program.specs.declared.program.Program.{Program}
use Rattle.cmm_program.specs.Values.{Reads, Value}
use Rattle.cmm_graph.specs.declared.graph.Graph.{Graph}
use Rattle.cmm_graph.specs.declared.operand.Local.{Local}
use Rattle.cmm_graph.specs.declared.operand.Operand.{Operand}
use Rattle.cmm_graph.specs.declared.operand.Operand.TheVariants as operand
use Rattle.cmm_graph.specs.declared.operand.Rvalue.{Rvalue}
use Rattle.cmm_graph.specs.declared.operand.Rvalue.TheVariants.{Unary, Binary, SignExtend, LowBits}
use Rattle.cmm_graph.specs.Counterpart.{names_operand, names_rvalue}
use Rattle.cmm_graph.specs.Covering.{least_for}
use Rattle.cmm_graph.specs.Paths.{operands_of_rvalue, read_by}
use Rattle.cmm_graph.specs.Ranges.{is_rvalue}
use Rattle.cmm_graph.specs.Values.{rvalue_value}

-- a number stands for itself, as in every program
abbrev pub NumbersAreKnown : Reads → Type 0
NumbersAreKnown reads = (n : ℕ) (w : Width) → reads.constant (Number n w) ≡ n

-- A right side stands for another: it gives what that gives, however locals are kept, reads the same, asks for no more tokens, and is in range and names what is
-- there where that does.
pub record StandsFor (old new : Rvalue) : Type 0 where
  pub value : (held : Local → Value) (reads : Reads) → NumbersAreKnown reads → rvalue_value held new reads ≡ rvalue_value held old reads
  pub reads : flat_map read_by (operands_of_rvalue new) ≡ flat_map read_by (operands_of_rvalue old)
  pub least : least_for new ≤ least_for old
  pub range : (g : Graph) → IsTrue (is_rvalue g old) → IsTrue (is_rvalue g new)
  pub names : (p : Program) (q : Proc) → IsTrue (list_all (names_operand p q) (operands_of_rvalue old)) → IsTrue (list_all (names_operand p q) (operands_of_rvalue new))
  pub registers : (p : Program) → names_rvalue p new ≡ names_rvalue p old

-- the number that an operand is, where that is a word of a width
abbrev pub number_in : Width → Operand → Option ℕ
number_in width (operand.Constant (Number n w)) = if nat_lt n (2 ^ bits width) then Some n else None
number_in width _ = None

-- no power of two
abbrev pub IsNoPower : ℕ → Type 0
IsNoPower n = (k : ℕ) → n ≢ 2 ^ k

-- An operator with these numbers for operands, where they are numbers, is left as it is: it has no value, as a division by 0, or it is neither a product with a
-- power of two, nor an unsigned quotient or remainder by one.
abbrev pub OperatorIsIrreducible : Op2 → Width → Option ℕ → Option ℕ → Type 0
OperatorIsIrreducible op width (Some a) (Some b) = value2 op width a b ≡ None
OperatorIsIrreducible Mul width (Some a) None = IsNoPower a
OperatorIsIrreducible Mul width None (Some b) = IsNoPower b
OperatorIsIrreducible Divu width None (Some b) = IsNoPower b
OperatorIsIrreducible Modu width None (Some b) = IsNoPower b
OperatorIsIrreducible _ width _ _ = Unit {0}

-- what folding leaves
abbrev pub IsIrreducible : Rvalue → Type 0
IsIrreducible (Unary op width a) = number_in width a ≡ None
IsIrreducible (Binary op width a b) = OperatorIsIrreducible op width (number_in width a) (number_in width b)
IsIrreducible (SignExtend from to a) = (number_in from a ≡ None) ⊎ (bits to < bits from)
IsIrreducible (LowBits from to a) = number_in from a ≡ None
IsIrreducible _ = Unit {0}
