-- Orders: what an activation does next, with all its numbers (C-- Language Specification 2.0, statements). An act is the
-- same before its values are known, and the two have the same names.
use Rattle.std.specs.Prelude.{ℕ, List, [], ◌∷◌}
use Rattle.cmm_words.specs.declared.width.Width.{Width}
use Rattle.cmm_program.specs.declared.procedure.Target.{Target}
use Rattle.cmm_program.specs.declared.procedure.Target.TheVariants.{Variable, Register}

-- where a value is put: a variable or a register, or the word of a width in memory, at an address that is to be a
-- multiple of n bytes
pub data Place : Type 0 where
  Held : Target → Place
  Memory : Width → ℕ → ℕ → Place

abbrev pub target_width : Target → Width
target_width (Variable number width) = width
target_width (Register number width) = width

-- a value that is passed, with its width
pub record Word : Type 0 where
  pub width : Width
  pub value : ℕ

pub record Write : Type 0 where
  pub place : Place
  pub value : ℕ

pub data Order : Type 0 where
  Nothing : Order
  -- one after the other
  Assign : List Write → Order
  -- to go on by the way of this number
  Choose : ℕ → Order
  PutByte : ℕ → Order
  GetByte : Target → Order
  -- at a site, of the procedure at an address
  Call : ℕ → ℕ → List Word → Order
  -- at a site
  Yield : ℕ → List ℕ → Order
  Jump : ℕ → List Word → Order
  -- by an exit, of a site with n alternate exits
  Return : ℕ → ℕ → List Word → Order
  -- to a continuation value; the last list has the continuations of its own activation
  Cut : ℕ → List Word → List ℕ → Order

abbrev pub writes : List Place → List ℕ → List Write
writes [] values = []
writes (p ∷ ps) [] = []
writes (p ∷ ps) (v ∷ vs) = record { place = p; value = v } ∷ writes ps vs
