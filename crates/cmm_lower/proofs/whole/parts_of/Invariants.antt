use Rattle.std.proofs.Common.{List, take}
use Rattle.std.specs.List.{AllZip}
use Rattle.cmm_static_semantics.specs.Declarations.{NamedUnit}
use Rattle.cmm_static_semantics.specs.Linking.{Program as Linked}
use Rattle.cmm_checked.specs.Known.{IsKnown}
use Rattle.cmm_lower.specs.inside.Made.{AllFit, AreParts}
use Rattle.cmm_lower.proofs.whole.parts_of.Given as goal

-- the parts are those of the units so far
abbrev pub invariant-loop-number : goal.invariant-loop-number
invariant-loop-number l =
    (program : Linked) (us : List NamedUnit) → AllZip (IsKnown program) us l.units → AllFit program us → AreParts program (take l.number us) l.parts
