-- What is asked of an activation, by what a walk shows of it.
use Rattle.std.specs.Prelude.{◌≡◌, ℕ, ◌+◌, List, map, slice_get, Result, Ok, Err, Option, Some, None}
use Rattle.std.specs.Option.{option_map}
use Rattle.cmm_words.specs.Widths.{bits}
use Rattle.cmm_script.specs.Walk.{Shown, Spanned}
use Rattle.cmm_image_machine.specs.Frames.{Element}
use Rattle.cmm_walk.specs.declared.variable.Var.{Var}
use Rattle.cmm_walk.specs.declared.variable.Var.TheVariants.{Dead, Live}
use Rattle.cmm_walk.specs.declared.variable.NoVar.{NoVar}

-- the spans of its site, by token
abbrev pub spans_of : Element → List Spanned
spans_of e = map (λ span. record { token = span.token; value = span.value }) e.site.spans

-- a variable is dead, or live with its value and width, as it is shown
abbrev pub IsVariable : Shown → Var → Type 0
IsVariable v Dead = v.value ≡ None
IsVariable v (Live value width) = (v.value ≡ Some value) × (v.width ≡ bits width)

-- the answer is what is shown of a variable, where it is there
abbrev pub Shows : Option Shown → Result Var NoVar → Type 0
Shows None (Ok variable) = ⊥
Shows None (Err none) = Unit {0}
Shows (Some v) (Ok variable) = IsVariable v variable
Shows (Some v) (Err none) = ⊥

-- the address of the stackdata label of a number, in the activation's frame
abbrev pub label_address : Element → ℕ → Option ℕ
label_address e n = option_map (λ l. e.frame + l.offset) (slice_get e.procedure.stack_labels n)
