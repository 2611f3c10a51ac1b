-- What is known of rows as they are made.
use Rattle.std.specs.Prelude.{◌<◌, ◌^◌}
use Rattle.std.specs.List.{All}
use Rattle.cmm_program.specs.declared.procedure.Cont.{Cont}
use Rattle.cmm_program.specs.declared.procedure.Proc.{Proc}
use Rattle.cmm_image.specs.declared.rows.GlobalRow.{GlobalRow}
use Rattle.cmm_image.specs.declared.rows.LabelRow.{LabelRow}
use Rattle.cmm_image.specs.declared.rows.ProcRow.{ProcRow}
use Rattle.cmm_image.specs.declared.rows.SiteRow.{SiteRow}
use Rattle.cmm_image.specs.declared.rows.SpanRow.{SpanRow}
use Rattle.cmm_image.specs.declared.rows.VariableRow.{VariableRow}
use Rattle.cmm_format.specs.Formats.{AreBytes}

-- the parameters of a continuation have numbers that rows have room for
abbrev pub HasShortParameters : Cont → Type 0
HasShortParameters c = All (λ v. v < 2 ^ 16) c.params

abbrev pub AreShort : Proc → Type 0
AreShort q = All HasShortParameters q.conts

-- the elements of names are bytes
abbrev pub HasByteKind : VariableRow → Type 0
HasByteKind v = AreBytes v.kind

pub record IsNamed (row : ProcRow) : Type 0 where
  pub name : AreBytes row.name
  pub kinds : All HasByteKind row.variables

abbrev pub IsNamedLabel : LabelRow → Type 0
IsNamedLabel l = AreBytes l.name

abbrev pub IsNamedGlobal : GlobalRow → Type 0
IsNamedGlobal g = AreBytes g.name

-- tokens and values of spans are words
pub record IsSmallSpan (s : SpanRow) : Type 0 where
  pub token : s.token < 2 ^ 64
  pub value : s.value < 2 ^ 64

abbrev pub HasSmallSpans : SiteRow → Type 0
HasSmallSpans s = All IsSmallSpan s.spans
