-- What the client's commands do to registers and memory.
use Rattle.std.specs.Prelude.{ℕ, ◌+◌, ◌*◌, ◌%◌, ◌==◌, ◌&&◌, not, nat_lt, nat_le, bytes_eq, Bool, true, false, List, map, length, find, slice_get, Option, Some, None}
use Rattle.cmm_abi.specs.declared.registers.TheConstants.{FRAME, RETURN_ADDRESS}
use Rattle.cmm_words.specs.declared.width.Width.{Width}
use Rattle.cmm_words.specs.declared.width.Width.TheVariants.{W64}
use Rattle.rv_table.specs.Machine.{State, data_base, stored}
use Rattle.rv_table.specs.Registers.{with_register}
use Rattle.cmm_program.specs.Errors.{with_some}
use Rattle.cmm_program.specs.Memory.{number_of}
use Rattle.cmm_image.specs.declared.parts.ImageParts.{ImageParts}
use Rattle.cmm_image.specs.declared.rows.ContinuationNumber.{ContinuationNumber}
use Rattle.cmm_image.specs.declared.rows.ContinuationRow.{ContinuationRow}
use Rattle.cmm_image.specs.declared.rows.LabelRow.{LabelRow}
use Rattle.cmm_image.specs.declared.rows.ProcRow.{ProcRow}
use Rattle.cmm_image.specs.declared.rows.VariableNumber.{VariableNumber}
use Rattle.cmm_abi.specs.Registers.{is_callee_saves}
use Rattle.cmm_program.specs.Asking.{Exit}
use Rattle.cmm_abi.specs.Regions.{Region, with_word, word_at, with_values}
use Rattle.cmm_image_machine.specs.Frames.{Element}
use Rattle.cmm_image_machine.specs.Walks.{place_in}

-- ---- a variable, and data

-- once a variable of an activation has a value; a dead one has no place for it
abbrev pub with_variable : State → Element → ℕ → ℕ → State
with_variable s e n value = elim (with_some (slice_get e.site.variables n) (place_in e)) [ Some place ↦ with_word place value s | None ↦ s ]

abbrev pub label_named : ImageParts → List ℕ → Option LabelRow
label_named i name = find (λ l. bytes_eq name l.name) i.labels

-- bytes may be written from an address on where it is a multiple of 8 and all of them lie in data of this length
abbrev pub may_poke : ℕ → ℕ → ℕ → Bool
may_poke data_length address count = (address % 8 == 0) && nat_le data_base address && nat_le (address + count) (data_base + data_length)

-- once bytes are written so far behind an exported label, in data of this length
abbrev pub data_written : ℕ → ImageParts → State → List ℕ → ℕ → List ℕ → Option State
data_written data_length i s name offset bytes = with_some (label_named i name) (λ l.
    elim (may_poke data_length (l.address + offset) (length bytes)) [
      | true ↦ Some record s { memory = stored s.memory (l.address + offset) (length bytes) (number_of bytes) }
      | false ↦ None
    ])

-- in the image's own
abbrev pub with_data : ImageParts → State → List ℕ → ℕ → List ℕ → Option State
with_data i s name offset bytes = data_written (length i.initial) i s name offset bytes

-- ---- exits

abbrev pub at_pc : ℕ → State → State
at_pc address s = record s { pc = address }

abbrev pub variable_width : ProcRow → VariableNumber → Width
variable_width p n = elim (slice_get p.variables n.0) [ Some v ↦ v.width | None ↦ W64 ]

abbrev pub continuation_row : ProcRow → ContinuationNumber → Option ContinuationRow
continuation_row p k = slice_get p.continuations k.0

abbrev pub parameter_widths : ProcRow → ContinuationRow → List Width
parameter_widths p c = map (variable_width p) c.parameters

-- the exits of a return, by number: first the alternate ones, and then the normal one, unless the site never returns
abbrev pub return_widths : Element → ℕ → Option (List Width)
return_widths e n = elim (nat_lt n (length e.site.returns)) [
  | true ↦ with_some (slice_get e.site.returns n) (λ k. with_some (continuation_row e.procedure k) (λ c. Some (parameter_widths e.procedure c)))
  | false ↦ elim ((n == length e.site.returns) && not e.site.never_returns) [ true ↦ Some e.site.results | false ↦ None ]
]

-- behind the call of the youngest activation's site stands a jump of four bytes for each alternate exit, and then the normal return
abbrev pub return_exit : Region → State → Element → ℕ → Option (Exit State)
return_exit r s e n = with_some (return_widths e n) (λ widths.
    Some record { widths = widths; resumed = λ values. at_pc (s.registers RETURN_ADDRESS + 4 * n) (with_values r values s) })

-- the callee-saves registers with the values that they had in the activation, and its frame in register 2
abbrev pub unwound : Element → State → ℕ → ℕ
unwound e s = with_register (λ n. elim (is_callee_saves n) [ true ↦ word_at s (e.places n) | false ↦ s.registers n ]) FRAME e.frame

abbrev pub unwind_exit : Region → State → Element → ℕ → Option (Exit State)
unwind_exit r s e n = with_some (slice_get e.site.unwinds n) (λ u. with_some (continuation_row e.procedure u.continuation) (λ c.
    Some record {
      widths = parameter_widths e.procedure c;
      resumed = λ values. at_pc u.landing (with_values r values record s { registers = unwound e s });
    }))

-- a continuation's value is the address of its pair of code and frame
abbrev pub has_value : Element → ℕ → ContinuationNumber → Bool
has_value e value k = elim (continuation_row e.procedure k) [ Some c ↦ e.frame + c.pair == value | None ↦ false ]

-- a cut restores nothing: it goes to the continuation's code with the activation's frame in register 2
abbrev pub cut_exit : Region → State → Element → ℕ → Option (Exit State)
cut_exit r s e value = with_some (find (has_value e value) e.site.cuts) (λ k. with_some (continuation_row e.procedure k) (λ c.
    Some record {
      widths = parameter_widths e.procedure c;
      resumed = λ values. at_pc c.code (with_values r values record s { registers = with_register s.registers FRAME e.frame });
    }))
