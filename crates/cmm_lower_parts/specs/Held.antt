-- Numbers as a program holds them, in 32 bits: the greatest where there would be more. In the program of accepted units there are no more.
use Rattle.std.specs.Prelude.{ℕ, ◌-◌, ◌^◌, min}
use Rattle.cmm_program.specs.declared.procedure.StackItem.{StackItem}
use Rattle.cmm_program.specs.declared.program.Datum.{Datum}
use Rattle.cmm_program.specs.declared.program.Label.{Label}

abbrev pub held : ℕ → ℕ
held n = min n (2 ^ 32 - 1)

abbrev pub datum_held : Datum → Datum
datum_held d = record d { length = held d.length }

abbrev pub label_held : Label → Label
label_held l = record l { datum = held l.datum }

abbrev pub item_held : StackItem → StackItem
item_held i = record i { length = held i.length }
