-- The texts of parts.
use Rattle.std.specs.Prelude.{ℕ, List, decimal}
use Rattle.cmm_script.specs.Kinds.{kind_text}
use Rattle.cmm_report.specs.Texts.{address_text}
use Rattle.cmm_report.specs.declared.parts.Part.{Part}
use Rattle.cmm_report.specs.declared.parts.Part.TheVariants.{Text, Number, Address, Kind}

abbrev pub part_text : Part → List ℕ
part_text (Text bytes) = bytes.now
part_text (Number number) = decimal number
part_text (Address address) = address_text address
part_text (Kind kind) = kind_text kind.now
