use Rattle.std.proofs.Common.{◌≡◌, map, take}
use Rattle.cmm_outside.specs.Reads.{AreReadWhole, Made}
use Rattle.cmm_top.specs.Reads.{units_in}
use Rattle.cmm_top.specs.inside.Reading.{AreRead, AreWithin}
use Rattle.cmm_top.proofs.sources.sources_of.Given as goal

-- the units of the names so far were read, and no call failed
abbrev pub invariant-loop-name : goal.invariant-loop-name
invariant-loop-name g l =
    AreRead (g.F.Files.contents l.initial.files) (map (λ name. name.now) (take l.name-index l.names)) l.sources
    × (g.F.Files.contents l.files ≡ g.F.Files.contents l.initial.files)
    × (g.F.Files.faults l.files ≡ g.F.Files.faults l.initial.files)
    × (g.F.Files.last_failed l.files ≡ g.F.Files.last_failed l.initial.files)
    × AreWithin l.name-index l.sources
    × Made (g.F.Files.reads l.initial.files) (g.F.Files.reads l.files) (AreReadWhole (units_in (map (λ name. name.now) (take l.name-index l.names))))
