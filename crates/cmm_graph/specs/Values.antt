-- What operands, tests and right sides give, for any way of keeping locals (C-- Language Specification 2.0, expressions).
-- An operator gives what it gives in an expression of the program. What it is applied to has to be a word of its width, and what is
-- assigned a word of 64 bits; where one is not the machine is wrong, so that code may rely on it. No run over the flow of a program in range comes
-- to that.
use Rattle.std.specs.Prelude.{◌^◌, nat_lt, true, false, List, map, Ok}
use Rattle.cmm_words.specs.declared.width.Width.{Width}
use Rattle.cmm_words.specs.declared.width.Width.TheVariants.{W64}
use Rattle.cmm_words.specs.Widths.{bits}
use Rattle.cmm_words.specs.Words.{holds}
use Rattle.cmm_program.specs.declared.expression.Expression.TheOpen as e
use Rattle.cmm_program.specs.Errors.{WrongValues, and_then, provided}
use Rattle.cmm_program.specs.Values.{Value, Test, value_step, both}
use Rattle.cmm_program.specs.Acts.{Passed}
use Rattle.cmm_graph.specs.declared.operand.Local.{Local}
use Rattle.cmm_graph.specs.declared.operand.Operand.{Operand}
use Rattle.cmm_graph.specs.declared.operand.Operand.TheVariants.{Constant, Local as OfLocal, Stackdata, Continuation}
use Rattle.cmm_graph.specs.declared.operand.Argument.{Argument}
use Rattle.cmm_graph.specs.declared.operand.Comparison.{Comparison}
use Rattle.cmm_graph.specs.declared.operand.Rvalue.{Rvalue}
use Rattle.cmm_graph.specs.declared.operand.Rvalue.TheVariants.{Copy, Register, Load, Unary, Binary, Compare, SignExtend, LowBits}

-- a value that has to be a word of a width
abbrev pub word_of : Width → Value → Value
word_of width value reads = and_then (value reads) (λ v. provided (nat_lt v (2 ^ bits width)) WrongValues (Ok v))

-- what a local holds
module _ (held : Local → Value) where
  abbrev pub operand_value : Operand → Value
  operand_value (Constant c) = value_step (e.Known c)
  operand_value (OfLocal l) = held l
  operand_value (Stackdata l) = value_step (e.Stackdata l.number)
  operand_value (Continuation k) = value_step (e.Continuation k.number)

  abbrev pub operand_values : List Operand → List Value
  operand_values operands = map operand_value operands

  abbrev pub passed : List Argument → List Passed
  passed arguments = map (λ a. record { width = a.width; value = operand_value a.value }) arguments

  -- an operand of a width
  abbrev pub operand_word : Width → Operand → Value
  operand_word width o = word_of width (operand_value o)

  -- both sides are evaluated
  abbrev pub test_value : Comparison → Test
  test_value c = both (operand_word c.width c.left) (operand_word c.width c.right) (holds c.operator c.width)

  abbrev pub found_value : Rvalue → Value
  found_value (Copy o) = operand_value o
  found_value (Register r) = λ reads. Ok (reads.register r.number)
  found_value (Load width aligned address) = value_step (e.Load width aligned (operand_value address))
  found_value (Unary operator width o) = value_step (e.Unary operator width (operand_word width o))
  found_value (Binary operator width left right) = value_step (e.Binary operator width (operand_word width left) (operand_word width right))
  found_value (Compare c) = λ reads. and_then (test_value c reads) (λ found. Ok (elim found [ true ↦ 1 | false ↦ 0 ]))
  found_value (SignExtend from to o) = value_step (e.SignExtend from to (operand_word from o))
  found_value (LowBits from to o) = value_step (e.LowBits from to (operand_word from o))

  abbrev pub rvalue_value : Rvalue → Value
  rvalue_value r = word_of W64 (found_value r)
