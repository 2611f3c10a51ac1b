-- The rows that the tables of an image have for procedures of a program.
use Rattle.std.specs.Prelude.{ℕ, List, map, Some}
use Rattle.std.specs.List.{zip}
use Rattle.cmm_program.specs.declared.procedure.Cont.{Cont}
use Rattle.cmm_program.specs.declared.procedure.Proc.{Proc}
use Rattle.cmm_chain.specs.declared.frame.Frame.{Frame}
use Rattle.cmm_image.specs.declared.rows.ContinuationRow.{ContinuationRow}
use Rattle.cmm_image.specs.declared.rows.ProcRow.{ProcRow}
use Rattle.cmm_image.specs.declared.rows.SavedRegister.{SavedRegister}
use Rattle.cmm_image.specs.declared.rows.StackLabelRow.{StackLabelRow}
use Rattle.cmm_image.specs.declared.rows.VariableNumber.{VariableNumber}
use Rattle.cmm_image_machine.specs.Tables.{variable_row}

-- ---- parts of procedures

abbrev pub saved_row : ℕ × ℕ → SavedRegister
saved_row saved = record { register = saved.0; offset = saved.1 }

abbrev pub stack_label_row : ℕ → StackLabelRow
stack_label_row offset = record { offset = offset }

abbrev pub parameter_row : ℕ → VariableNumber
parameter_row v = record { 0 = v }

-- a continuation, the offset of its pair, and the address at which a cut to it lands
abbrev pub continuation_row : Cont × (ℕ × ℕ) → ContinuationRow
continuation_row of = record { pair = of.1.0; code = of.1.1; parameters = map parameter_row of.0.params }

abbrev pub continuation_rows : List Cont → List ℕ → List ℕ → List ContinuationRow
continuation_rows conts pairs landings = map continuation_row (zip conts (zip pairs landings))

-- ---- procedures

-- a procedure with its frame, the address of its code, and those of the landings of its continuations
abbrev pub procedure_row : Proc → Frame → ℕ → List ℕ → ProcRow
procedure_row q f code landings = record {
  code = code;
  name = q.name;
  frame = f.size;
  return_at = Some f.return_at;
  saved = map saved_row f.saved;
  variables = map variable_row q.vars;
  stack_labels = map stack_label_row f.stack;
  continuations = continuation_rows q.conts f.pairs landings;
}
