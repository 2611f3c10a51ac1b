use Rattle.std.proofs.Common.{◌≡◌, ◌+◌, take}
use Rattle.rv_table.specs.Memory.{code_base}
use Rattle.cmm_unit_code.specs.Joined.{site_addresses}
use Rattle.cmm_link.proofs.Joined.{size}
use Rattle.cmm_link.proofs.joining.site_addresses.Given as goal

-- those of the units so far
abbrev pub invariant-loop-unit : goal.invariant-loop-unit
invariant-loop-unit l = record {
  found : l.found ≡ site_addresses code_base (take l.unit-index l.units);
  at : l.at ≡ code_base + size (take l.unit-index l.units);
}
