use Rattle.std.proofs.Common.{◌≡◌, ◌++◌, ◌-◌, []}
use Rattle.cmm_image.specs.SecondFormat.{mask_count, masks}
use Rattle.cmm_image.specs.inside.SecondSpellings.{live_bytes}
use Rattle.cmm_image.proofs.second_bytes.put_live.Given as goal

-- the bytes so far, and those of the bits that are left, are all
abbrev pub invariant-loop : goal.invariant-loop
invariant-loop l = l.out.items ++ (masks (mask_count l.variables - l.counter) []).spelled l.rest ≡ l.fn.out.items ++ live_bytes l.variables l.places
