-- Characters between double quotes, from the front.
use Rattle.std.proofs.Common.{ℕ, List, ◌++◌, Option, option_map}
use Rattle.cmm_lexer.specs.Characters.{Quoted}

-- these values, and then those that are found
abbrev pub after_values : List ℕ → Option Quoted → Option Quoted
after_values vs found = option_map (λ q. record { values = vs ++ q.values; rest = q.rest }) found
