-- The value of an expression that keeps the rules on widths fits its width, where what it reads does.
use Rattle.std.specs.List.{range_with_len}
use Rattle.std.proofs.lemmas.Bool.Decides.{nat_tests}
use Rattle.std.proofs.Common.{◌+◌, ℕ, zero, suc, ◌^◌, ◌<◌, map, IsTrue, arith, pow-suc}
use Rattle.std.specs.Result.{IfOk}
use Rattle.std.proofs.lemmas.Nat.{pow_pos}
use Rattle.cmm_words.specs.declared.width.Width.{Width}
use Rattle.cmm_words.specs.declared.width.Width.TheVariants.{W64}
use Rattle.cmm_words.specs.declared.constant.Constant.{Constant}
use Rattle.cmm_words.specs.Widths.{bytes, IsWord}
use Rattle.cmm_words.proofs.Shared.{value2-word, wrapped-below}
use Rattle.cmm_program.specs.declared.expression.Expression.{Expression, more_of-Expression}
use Rattle.cmm_program.specs.declared.expression.Expression.TheVariants.{Load', Known, Binary', ZeroExtend'}
use Rattle.cmm_program.specs.declared.procedure.Proc.{Proc}
use Rattle.cmm_program.specs.declared.program.Program.{Program}
use Rattle.cmm_program.specs.Errors.{Tried, all_of}
use Rattle.cmm_program.specs.Memory.{IsByte, Cell, number_of}
use Rattle.cmm_program.specs.Typing.{has_variable, has_register, has_width, is_typed}
use Rattle.cmm_program.specs.Values.{Reads, value_of, width_of, known_width, byte_of}
use Rattle.cmm_machine_laws.proofs.Kept.{KeptBy, kept_after}

-- a cell that was written holds a byte
abbrev pub IsByteCell : Cell → Type 0
IsByteCell cell = IfOk (byte_of cell) IsByte

-- ---- what can be read

-- what is read fits the width by which it is read
pub record ReadsFit (p : Program) (q : Proc) (r : Reads) : Type 0 where
  pub constant : (c : Constant) → IsTrue (is_typed p q (Known c)) → IsWord (known_width c) (r.constant c)
  pub variable : (n : ℕ) (w : Width) → IsTrue (has_variable q n w) → IsWord w (r.variable n)
  pub register : (n : ℕ) (w : Width) → IsTrue (has_register p n w) → IsWord w (r.register n)
  pub stackdata : (n : ℕ) → IsWord W64 (r.stackdata n)
  pub continuation : (n : ℕ) → IsWord W64 (r.continuation n)
  pub byte : (address : ℕ) → IsByteCell (r.byte address)

-- ---- expressions

module _ (p : Program) (q : Proc) (r : Reads) (reads : ReadsFit p q r) where
  -- n bytes that are read make a number below a power of 256
  number_fits : (n address : ℕ) → KeptBy (λ found. number_of found < 256 ^ n) (all_of (map (λ a. byte_of (r.byte a)) (range_with_len address n)))
  number_fits zero address = grind arith
  number_fits (suc n) address = grind (arith, pow-suc 256 n, reads.byte address, number_fits n (address + 1))

  -- a value that fits an expression's own width fits each width that the expression has
  of_width : (w : Width) (e : Expression) {value : Tried ℕ} → (IsTrue (is_typed p q e) → KeptBy (IsWord (width_of e)) value) →
      IsTrue (has_width p q w e) → KeptBy (IsWord w) value
  of_width w (Known c) fits has = grind (arith, nat_tests, fits)
  of_width w e fits has = grind (arith, nat_tests, fits)

  -- the value of an expression that is typed fits its width
  pub typed_gives : (e : Expression) → IsTrue (is_typed p q e) → KeptBy (IsWord (width_of e)) (value_of e r)
  typed_gives (Binary' op width _ (more_of-Expression a _) _ (more_of-Expression b _)) is =
      kept_after (of_width width a (typed_gives a) (grind (arith, nat_tests))) (λ u first.
      kept_after (of_width width b (typed_gives b) (grind (arith, nat_tests))) (λ v second.
      grind (arith, value2-word op width u v first second)))
  typed_gives (ZeroExtend' from to _ (more_of-Expression a _)) is = grind (arith, nat_tests, of_width from a (typed_gives a))
  typed_gives (Load' width aligned _ _) is = grind (arith, number_fits (bytes width))
  typed_gives e is = grind (arith, nat_tests, wrapped-below, pow_pos)

  -- and so each width that it has
  pub width_gives : (w : Width) (e : Expression) → IsTrue (has_width p q w e) → KeptBy (IsWord w) (value_of e r)
  width_gives w e = of_width w e (typed_gives e)
