-- The lines of an activation, as they are written.
use Rattle.std.specs.Prelude.{ℕ, List, ◌++◌, Some, None, codes, decimal}
use Rattle.cmm_words.specs.Widths.{bits}
use Rattle.cmm_image.specs.declared.rows.SpanRow.{SpanRow}
use Rattle.cmm_image.specs.declared.rows.VariableRow.{VariableRow}
use Rattle.cmm_script.specs.Kinds.{kind_text}
use Rattle.cmm_script.specs.Walk.{Shown, span_line, value_or_dead}
use Rattle.cmm_image_machine.specs.Frames.{Element}
use Rattle.cmm_walk.specs.declared.variable.Var.{Var}
use Rattle.cmm_walk.specs.declared.variable.Var.TheVariants.{Dead, Live}

-- its number, its procedure and its site
abbrev pub heading : ℕ → Element → List ℕ
heading number e = codes "activation " ++ (decimal number ++ (codes " " ++ (e.procedure.name ++ (codes " site " ++ (decimal e.site.number ++ codes "\n")))))

-- a variable
abbrev pub variable_text : ℕ → Shown → List ℕ
variable_text n v =
    codes "var " ++ (decimal n ++ (codes " bits" ++ (decimal v.width ++ (codes " \"" ++ (kind_text v.kind ++ (codes "\" " ++ (value_or_dead v.value ++ codes "\n")))))))

abbrev pub spanned : SpanRow → List ℕ
spanned s = span_line record { token = s.token; value = s.value }

-- a variable of this row, as it was found
abbrev pub shown_of : VariableRow → Var → Shown
shown_of v Dead = record { width = bits v.width; kind = v.kind; invariant = v.invariant; value = None }
shown_of v (Live value width) = record { width = bits v.width; kind = v.kind; invariant = v.invariant; value = Some value }
