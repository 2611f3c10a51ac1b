use Rattle.std.proofs.Common.{◌≡◌, map, None}
use Rattle.cmm_parser.proofs.target.results_of.Given as goal

abbrev pub invariant-loop-name : goal.invariant-loop-name
invariant-loop-name l = l.results ≡ map (λ name. record { kind = None; name = name }) l.yielded
