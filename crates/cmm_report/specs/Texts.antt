-- How a line of the log writes an address, and a value of a yield.
use Rattle.std.specs.Prelude.{ℕ, List, decimal}
use Rattle.cmm_script.specs.Kinds.{hex_digits}
use Rattle.cmm_script.specs.Walk.{and}

-- an address: 16 digits, without prefix
unfoldable pub address_text : ℕ → List ℕ
address_text n = hex_digits 16 n

-- a value, after a space
abbrev pub value_text : ℕ → List ℕ
value_text value = and (decimal value)
