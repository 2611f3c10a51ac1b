use Rattle.std.proofs.Common.{◌≡◌, ◌-◌, length}
use Rattle.cmm_emit.specs.Symbols.{IsWithout}
use Rattle.cmm_emit.proofs.symbols.forget.Given as goal

-- those so far are taken away
abbrev pub invariant-loop-number : goal.invariant-loop-number
invariant-loop-number l = IsWithout l.first (l.number - l.first) l.initial.set l.set
