-- What a landing makes of the store, as one equation each: an activation begins, or the youngest one goes on with its
-- values. The laws are of the store alone, so they hold of a machine with any control.
use Rattle.std.specs.Prelude.{◌≡◌, ℕ, true, false, List, [], ◌∷◌, map, slice_get, slice_set, Option, Some, None}
use Rattle.cmm_program.specs.declared.procedure.Cont.{Cont}
use Rattle.cmm_program.specs.declared.procedure.Proc.{Proc}
use Rattle.cmm_program.specs.declared.procedure.Target.{Target}
use Rattle.cmm_program.specs.declared.procedure.Target.TheVariants.{Variable, Register}
use Rattle.cmm_program.specs.Exits.{Called, Instead, Back, Resumed, begun, gone_on, land, variable_width}
use Rattle.cmm_program.specs.Frames.{Suspended, fits_stack, new_activation, procedure_at, suspended_at, with_site}
use Rattle.cmm_program.specs.State.{Setting, Activation, Store}

-- ---- entering

-- a store in which an activation of a procedure begins above these, where the stack has room for one
abbrev pub begun_above : Setting → Store → ℕ → Proc → List ℕ → List Activation → Option Store
begun_above s store n p values older =
    elim (fits_stack s (new_activation n p values ∷ older)) [ true ↦ Some (begun s n p values older store) | false ↦ None ]

-- Control lands in a procedure of the program: an activation of it begins, for a call above its caller, which is suspended now,
-- and for a jump or the start above what is left.
abbrev pub EnteringLands : Type 0
EnteringLands = (s : Setting) (store : Store) (n : ℕ) (p : Proc) (values : List ℕ) → procedure_at s n ≡ Some p →
    ((site : ℕ) → land s (Called site n values) store ≡ begun_above s store n p values (with_site (Some site) store.activations))
    × (land s (Instead n values) store ≡ begun_above s store n p values store.activations)

-- ---- going on

-- control lands behind the site of the youngest activation: the site's results take the values
abbrev pub ReturningLands : Type 0
ReturningLands = (s : Setting) (store : Store) (a : Suspended) (values : List ℕ) → suspended_at s store.activations ≡ Some a →
    land s (Back values) store ≡ Some (gone_on a.site.results values store)

-- it lands at a continuation of the youngest activation: the parameters take them
abbrev pub ResumingLands : Type 0
ResumingLands = (s : Setting) (store : Store) (a : Activation) (older : List Activation) (p : Proc) (k : ℕ) (c : Cont) (values : List ℕ) →
    store.activations ≡ a ∷ older → procedure_at s a.procedure ≡ Some p → slice_get p.conts k ≡ Some c →
    land s (Resumed k values) store ≡ Some (gone_on (map (λ n. Variable n (variable_width p n)) c.params) values store)

-- the values of variables once targets have taken theirs, from left to right, and those of registers
abbrev pub variables_after : List Target → List ℕ → List ℕ → List ℕ
variables_after [] values variables = variables
variables_after (t ∷ ts) [] variables = variables
variables_after (Variable n width ∷ ts) (v ∷ vs) variables = variables_after ts vs (slice_set variables n v)
variables_after (Register n width ∷ ts) (v ∷ vs) variables = variables_after ts vs variables

abbrev pub registers_after : List Target → List ℕ → List ℕ → List ℕ
registers_after [] values registers = registers
registers_after (t ∷ ts) [] registers = registers
registers_after (Variable n width ∷ ts) (v ∷ vs) registers = registers_after ts vs registers
registers_after (Register n width ∷ ts) (v ∷ vs) registers = registers_after ts vs (slice_set registers n v)

-- An activation that goes on with values: its variables and the registers among the targets have taken them, and nothing else
-- changes.
abbrev pub TargetsTake : Type 0
TargetsTake = (targets : List Target) (values : List ℕ) (store : Store) (a : Activation) (older : List Activation) →
    store.activations ≡ a ∷ older → gone_on targets values store ≡ record store {
      activations = record a { variables = variables_after targets values a.variables; site = None } ∷ older;
      registers = registers_after targets values store.registers;
    }
