use Rattle.std.proofs.Common.{◌≡◌, map, take}
use Rattle.cmm_words.specs.declared.constant.Constant.TheVariants.{Number}
use Rattle.cmm_words.specs.declared.width.Width.TheVariants.{W8}
use Rattle.cmm_lower_parts.proofs.data.bytes_in.Given as goal

abbrev pub invariant-loop-byte : goal.invariant-loop-byte
invariant-loop-byte l = l.constants ≡ map (λ byte. Number byte W8) (take l.byte-index l.bytes)
