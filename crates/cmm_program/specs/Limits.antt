-- The limits on a program: rule 40 refuses units that pass one.
use Rattle.std.specs.Prelude.{ℕ}

-- ---- over all units

-- units
abbrev pub unit_limit : ℕ
unit_limit = 256

-- tokens
abbrev pub token_limit : ℕ
token_limit = 1000000

-- procedures
abbrev pub procedure_limit : ℕ
procedure_limit = 65535

-- bytes of data with its padding: 64 MiB
abbrev pub data_limit : ℕ
data_limit = 67108864

-- global registers
abbrev pub register_limit : ℕ
register_limit = 256

-- variables over all call sites, each with those of its procedure
abbrev pub site_variable_limit : ℕ
site_variable_limit = 8000000

-- tokens that have a span over all call sites
abbrev pub site_span_limit : ℕ
site_span_limit = 1000000

-- ---- of a name

-- bytes of a name, or of the kind of a variable
abbrev pub name_limit : ℕ
name_limit = 255

-- ---- of a procedure

-- tokens
abbrev pub procedure_token_limit : ℕ
procedure_token_limit = 131072

-- variables
abbrev pub variable_limit : ℕ
variable_limit = 1024

-- bytes of stackdata: 64 KiB
abbrev pub stackdata_limit : ℕ
stackdata_limit = 65536
