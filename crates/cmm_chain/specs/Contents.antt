-- What registers and the words of the stack hold, before the code has addresses. A word of the stack is named by the address of its
-- first byte, and a register by its number.
use Rattle.std.specs.Prelude.{ℕ, ◌==◌, true, false}

pub data Content : Type 0 where
  -- nothing that may be relied on
  Unknown : Content
  Number : ℕ → Content
  -- the return address of a site, by the numbers of its procedure and of the site
  ReturnTo : ℕ → ℕ → Content
  -- the address of the code of a continuation, by the numbers of its procedure and of the continuation
  LandingOf : ℕ → ℕ → Content
  -- the return address of the oldest activation
  LastReturn : Content

-- the words of the stack by their addresses, or registers by their numbers
abbrev pub Contents : Type 0
Contents = ℕ → Content

abbrev pub with_content : ℕ → Content → Contents → Contents
with_content n c contents m = elim (m == n) [ true ↦ c | false ↦ contents m ]
