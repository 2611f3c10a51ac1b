use Rattle.std.proofs.Common.{◌≡◌, ◌++◌, string_bytes}
use Rattle.cmm_generated.specs.Generated.{first_lines, procedure_lines}
use Rattle.cmm_generated.proofs.generate.Given as goal

abbrev pub invariant-loop-i : goal.invariant-loop-i
invariant-loop-i l = string_bytes l.text ≡ first_lines l.number ++ procedure_lines l.i
