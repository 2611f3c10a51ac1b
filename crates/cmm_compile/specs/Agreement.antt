-- What it is that an image agrees with units: it does what the C-- machine does on the program that they mean, and nothing else, unless the machine commits an unchecked
-- error first (C-- Language Specification 2.0; Ramsey and Peyton Jones, PLDI 2000, the abstract machine; the RISC-V Unprivileged ISA).
use Rattle.std.specs.Prelude.{◌≡◌, ℕ, ◌+◌, ◌*◌, ◌≤◌, ◌++◌, List, false, length, map, slice_get, sum_by, Some}
use Rattle.std.specs.List.{All}
use Rattle.rv_table.specs.Machine.{stack_base}
use Rattle.cmm_simulation.specs.Agreement.{Agrees}
use Rattle.cmm_simulation.specs.Machine.{after}
use Rattle.cmm_simulation.specs.Seen.{Client, IsPrefix}
use Rattle.cmm_script.specs.declared.script.Script.{Script}
use Rattle.cmm_script.specs.Lines.{yield_line}
use Rattle.cmm_script.specs.Walk.{Activation}
use Rattle.cmm_program.specs.declared.procedure.Proc.{Proc}
use Rattle.cmm_program.specs.declared.program.Program.{Program}
use Rattle.cmm_program.specs.Bounds.{code_bound, step_factor}
use Rattle.cmm_program.specs.Client.{linked_label}
use Rattle.cmm_program.specs.Layout.{data_bytes}
use Rattle.cmm_program.specs.Machine.{start}
use Rattle.cmm_program.specs.Placed.{IsPlaced}
use Rattle.cmm_program.specs.State.{Setting}
use Rattle.cmm_program.specs.Todo.{todo_control}
use Rattle.cmm_program.specs.Memory.{IsByte}
use Rattle.cmm_machine_laws.specs.Observed.{Call, machine_of}
use Rattle.cmm_image.specs.declared.parts.ImageParts.{ImageParts}
use Rattle.cmm_image.specs.ImageFormat.{procedure_at}
use Rattle.cmm_image_machine.specs.Changes.{label_named}
use Rattle.cmm_image_machine.specs.Machine.{IsStackSize, first_run, launch_of}
use Rattle.cmm_image_machine.specs.Observed.{image_machine}
use Rattle.cmm_image_machine.specs.Tables.{IsLabelRow, global_row, placement_of, variable_row}
use Rattle.cmm_front.specs.Programs.{IsProgramOf}

-- the machine runs with the placement that the image shows, and a stack of n bytes
abbrev pub setting_of : Program → ImageParts → Script → ℕ → Setting
setting_of p i script stack = record { program = p; placement = placement_of i; stack_base = stack_base; stack_size = stack; script = script }

-- For every script, stack and input the image does in K * (m + 1) instructions what the machine does in m steps, unless that has gone wrong, where K is the step factor of the
-- program: what is written, what is asked for and how it ends. And wherever the image stands after n instructions, the machine stands so after n steps or fewer, or it
-- commits an unchecked error with a step from where the image was level with it. What a yield asks for are its values and the walk that the client is shown, and a run that
-- the client stops ends with the walk that it leaves. The code from which `main` is called counts among the first instructions.
abbrev pub RunsAgree : Program → ImageParts → Type 0
RunsAgree p i = (script : Script) (stack : ℕ) (input : List ℕ) → IsStackSize stack → All IsByte input →
    let s = setting_of p i script stack in let l = launch_of i script stack in
    Agrees (machine_of (todo_control p) s) (image_machine l) (step_factor p) (step_factor p) 1 (start s input) (first_run l input)

-- Where the machine waits for the client after m steps, the image has the line of this yield in its log by K * (m + 1) instructions too.
abbrev pub LinesCome : Program → ImageParts → Type 0
LinesCome p i = (script : Script) (stack : ℕ) (input : List ℕ) → IsStackSize stack → All IsByte input →
    let s = setting_of p i script stack in let l = launch_of i script stack in let machine = machine_of (todo_control p) s in
    (m : ℕ) → machine.wrong (after machine m (start s input)) ≡ false → (call : Call) (walk : List Activation) →
    machine.asks (after machine m (start s input)) ≡ Some (Client call) → call.walk ≡ Some walk →
    IsPrefix ((machine.seen (after machine m (start s input))).log ++ yield_line call.values) (after (image_machine l) (step_factor p * (m + 1)) (first_run l input)).log

-- What the tables tell a client beside the walks: the name of each procedure and its variables, with their widths and kinds and which of them are invariant; each label under
-- the names by which it is exported, at its address; the global registers by name; and which procedure is `main`.
pub record TellsOf (p : Program) (i : ImageParts) : Type 0 where
  pub main : i.main ≡ p.main
  pub count : length i.procs ≡ length p.procs
  pub names : (q : ℕ) (procedure : Proc) → slice_get p.procs q ≡ Some procedure → (procedure_at i.procs q).name ≡ procedure.name
  pub variables : (q : ℕ) (procedure : Proc) → slice_get p.procs q ≡ Some procedure → (procedure_at i.procs q).variables ≡ map variable_row procedure.vars
  pub labels : (name : List ℕ) → IsLabelRow p (linked_label name p.labels) (label_named i name)
  pub globals : i.globals ≡ map global_row p.globals

pub record AgreesWith (p : Program) (i : ImageParts) : Type 0 where
  -- frames and code lie where a valid placement has them
  pub placed : IsPlaced p (placement_of i)
  -- data begins as the program says
  pub initial : i.initial ≡ data_bytes p (placement_of i)
  pub runs : RunsAgree p i
  pub lines : LinesCome p i
  pub tells : TellsOf p i
  -- and there is no more code than the tokens of the program allow
  pub code : length i.code ≤ code_bound (sum_by (λ q. q.tokens) p.procs)
  -- it is written in version 2 of the format
  pub version : i.version ≡ 2

-- units mean a program, with which the image agrees
pub record Agree (units : List (List ℕ)) (i : ImageParts) : Type 0 where
  pub program : Program
  pub means : IsProgramOf units program
  pub agrees : AgreesWith program i
