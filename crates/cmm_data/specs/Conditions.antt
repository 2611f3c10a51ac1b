-- Programs whose data can be laid out.
use Rattle.std.specs.Prelude.{◌≡◌, ℕ, ◌+◌, ◌*◌, ◌^◌, ◌<◌, ◌≤◌, true, false, [], ◌∷◌, length}
use Rattle.std.specs.List.{All}
use Rattle.rv_table.specs.Memory.{data_base}
use Rattle.cmm_words.specs.declared.width.Width.{Width}
use Rattle.cmm_words.specs.declared.width.Width.TheVariants.{W64}
use Rattle.cmm_words.specs.declared.constant.Constant.{Constant}
use Rattle.cmm_words.specs.declared.constant.Constant.TheVariants.{Number, Code, Address}
use Rattle.cmm_words.specs.Widths.{bytes}
use Rattle.cmm_program.specs.declared.program.Program.{Program}
use Rattle.cmm_program.specs.declared.program.Datum.{Datum}
use Rattle.cmm_program.specs.declared.program.Label.{Label}
use Rattle.cmm_program.specs.Layout.{end_before}

-- the label whose address a value is, if it is one, is among n
abbrev pub IsThere : ℕ → Constant → Type 0
IsThere labels (Number word width) = Unit {0}
IsThere labels (Code proc plus) = Unit {0}
IsThere labels (Address label plus) = label < labels

-- the address of a procedure stands in words of eight bytes alone
abbrev pub MayStandIn : Width → Constant → Type 0
MayStandIn width (Number word own) = Unit {0}
MayStandIn width (Code proc plus) = width ≡ W64
MayStandIn width (Address label plus) = Unit {0}

-- the values of a datum, if it has any, are just its bytes
abbrev pub Fill : Datum → Type 0
Fill d = elim d.values [ [] ↦ Unit {0} | _ ∷ _ ↦ d.length ≡ length d.values * bytes d.width ]

abbrev pub HasAlignment : Datum → Type 0
HasAlignment d = 0 < d.align

-- a datum can be laid out, where there are n labels
pub record IsLayable (labels : ℕ) (d : Datum) : Type 0 where
  pub align : HasAlignment d
  pub length : Fill d
  pub there : All (IsThere labels) d.values
  pub width : All (MayStandIn d.width) d.values

-- a label stands on a datum, or at the end of one or of none, where there are n
abbrev pub IsOnDatum : ℕ → Label → Type 0
IsOnDatum datums l = elim l.at_end [ true ↦ l.datum ≤ datums | false ↦ l.datum < datums ]

-- the data ends where 32 bits still number its bytes
pub record CanBeLaidOut (p : Program) : Type 0 where
  pub datums : All (IsLayable (length p.labels)) p.datums
  pub labels : All (IsOnDatum (length p.datums)) p.labels
  pub size : end_before p (length p.datums) ≤ data_base + 2 ^ 32
