use Rattle.std.proofs.Common.{◌≡◌, map, take}
use Rattle.cmm_parser.specs.Faults.{place_of}
use Rattle.cmm_parser.proofs.unit.places.Given as goal

abbrev pub invariant-loop-token : goal.invariant-loop-token
invariant-loop-token l = l.places ≡ map place_of (take l.token-index l.tokens.list)
