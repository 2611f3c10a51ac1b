-- Acts: what a control does next, as far as it is known before it is known what can be read. An act names no expression:
-- it asks for values, so that a machine with other operands does the same acts. With its values known it is an order.
use Rattle.std.specs.Prelude.{ℕ, List, [], ◌∷◌, map, Ok, Err, Option, Some, None}
use Rattle.cmm_words.specs.declared.width.Width.{Width}
use Rattle.cmm_words.specs.declared.operators.Op2.{Op2}
use Rattle.cmm_words.specs.Words.{value2}
use Rattle.cmm_program.specs.declared.procedure.Target.{Target}
use Rattle.cmm_program.specs.Errors.{UncheckedError, Tried, and_then, all_of}
use Rattle.cmm_program.specs.Values.{Reads, Value}
use Rattle.cmm_program.specs.Orders as order
use Rattle.cmm_program.specs.Orders.{Place, Held, Word, Order, writes}

-- a place, once it is known what can be read
abbrev pub Aim : Type 0
Aim = Reads → Tried Place

-- a value that is passed, with its width
pub record Passed : Type 0 where
  pub width : Width
  pub value : Value

pub data Act : Type 0 where
  Nothing : Act
  Assign : List Aim → List Value → Act
  -- by which way to go on
  Choose : Value → Act
  PutByte : Value → Act
  GetByte : Target → Act
  -- at a site, of the procedure at an address
  Call : ℕ → Value → List Passed → Act
  -- at a site
  Yield : ℕ → List Value → Act
  -- at a site: a division of words of a width, whose value these take
  Checked : ℕ → List Target → Op2 → Width → Value → Value → Act
  Jump : Value → List Passed → Act
  -- by an exit, of a site with n alternate exits
  Return : ℕ → ℕ → List Passed → Act
  -- to a continuation value; the last list has the continuations of its own activation
  Cut : Value → List Passed → List ℕ → Act
  Fail : UncheckedError → Act

abbrev pub values_of : Reads → List Value → Tried (List ℕ)
values_of r values = all_of (map (λ v. v r) values)

abbrev pub places_of : Reads → List Aim → Tried (List Place)
places_of r aims = all_of (map (λ aim. aim r) aims)

abbrev pub word_passed : Reads → Passed → Tried Word
word_passed r p = and_then (p.value r) (λ v. Ok record { width = p.width; value = v })

abbrev pub words_of : Reads → List Passed → Tried (List Word)
words_of r passed = all_of (map (word_passed r) passed)

-- a division by 0 yields the value 1 instead
abbrev pub checked_order : ℕ → List Target → Option ℕ → Order
checked_order site targets (Some value) = order.Assign (writes (map Held targets) (value ∷ []))
checked_order site targets None = order.Yield site (1 ∷ [])

-- the order of an act
abbrev pub evaluated : Reads → Act → Tried Order
evaluated r Nothing = Ok order.Nothing
evaluated r (Assign aims values) = and_then (places_of r aims) (λ ps. and_then (values_of r values) (λ vs. Ok (order.Assign (writes ps vs))))
evaluated r (Choose way) = and_then (way r) (λ n. Ok (order.Choose n))
evaluated r (PutByte value) = and_then (value r) (λ v. Ok (order.PutByte v))
evaluated r (GetByte target) = Ok (order.GetByte target)
evaluated r (Call site callee actuals) = and_then (callee r) (λ to. and_then (words_of r actuals) (λ ws. Ok (order.Call site to ws)))
evaluated r (Yield site values) = and_then (values_of r values) (λ vs. Ok (order.Yield site vs))
evaluated r (Checked site targets op width left right) =
    and_then (left r) (λ a. and_then (right r) (λ b. Ok (checked_order site targets (value2 op width a b))))
evaluated r (Jump callee actuals) = and_then (callee r) (λ to. and_then (words_of r actuals) (λ ws. Ok (order.Jump to ws)))
evaluated r (Return exit alternates values) = and_then (words_of r values) (λ ws. Ok (order.Return exit alternates ws))
evaluated r (Cut to values own) = and_then (to r) (λ k. and_then (words_of r values) (λ ws. Ok (order.Cut k ws own)))
evaluated r (Fail error) = Err error
