use Rattle.std.proofs.Common.{◌≡◌, ◌++◌, ◌-◌, codes, string_bytes}
use Rattle.cmm_generated.specs.Generated.{cells}
use Rattle.cmm_generated.proofs.put_table.Given as goal

abbrev pub invariant-loop-i : goal.invariant-loop-i
invariant-loop-i l = string_bytes l.text ≡ string_bytes l.fn.text ++ (codes "section \"data\" { t: bits64 { " ++ cells l.number (l.i - 1))
