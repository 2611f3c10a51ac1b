-- What `walk` promises: the walk of the program that a snapshot in a file has stopped is written; or there is a cause why not.
use Rattle.std.specs.Prelude.{◌≡◌, ◌⊎◌, ℕ, List, [], ◌∷◌, None, Some}
use Rattle.rv_table.specs.declared.registers.Regs.{Regs}
use Rattle.rv_memory.specs.Regions.{Regions, region_of}
use Rattle.rv_memory.specs.States.{state_of}
use Rattle.cmm_image.specs.declared.parts.ImageParts.{ImageParts}
use Rattle.cmm_image.specs.Images.{SpellsImage}
use Rattle.cmm_image_machine.specs.Frames.{Element, chain_of}
use Rattle.cmm_outside.specs.Faults.{Rose}
use Rattle.cmm_outside.specs.Output.{Appends, AppendsFront}
use Rattle.cmm_program.specs.Asking.{Chain}
use Rattle.cmm_rules.specs.declared.rule.Rule.{Rule}
use Rattle.cmm_run.specs.declared.outcome.Outcome.TheVariants as outcome
use Rattle.cmm_snapshot.specs.SnapshotFormat.{taken_of}
use Rattle.cmm_snapshot.specs.Snapshots.{IsFirstFault, SpellsSnapshot}
use Rattle.cmm_work.specs.Standing.{Outside}
use Rattle.cmm_work.specs.Files.{FailsToRead, HasBytes}
use Rattle.cmm_work.specs.Lines.{bad_snapshot_line, outcome_line}
use Rattle.cmm_work.specs.Running.{IsRefused}
use Rattle.cmm_work.specs.Work.{DoesNothing, Ends, RanOutOfMemory, Work}
use Rattle.cmm_work.specs.declared.status.Status.TheVariants.{BadSnapshot, Done, OutputFault, Torn}
use Rattle.cmm_walk.specs.Texts.{chain_text}
use Rattle.cmm_walk.specs.Walking.{break_of}
use Rattle.cmm_walk.specs.declared.chain.Torn.{Torn as TornAt}

-- a stopped program: its image, its registers and its memory
pub record Stopped : Type 0 where
  pub image : ImageParts
  pub regs : Regs
  pub memory : Regions

-- the chain of its frames
abbrev pub chain_in : Stopped → Chain Element
chain_in p = chain_of p.image (region_of p.memory) (state_of p.regs p.memory)

-- the lines of its walk, and where the chain does not break the line of the end
abbrev pub walk_text : Stopped → List ℕ
walk_text p = chain_text (state_of p.regs p.memory) 0 (chain_in p)

-- nothing changes but what the output has taken, and its count of faults
pub record SameButOutput (before after : Outside) : Type 0 where
  pub files : after.files ≡ before.files
  pub file_faults : after.file_faults ≡ before.file_faults
  pub last_failed : after.last_failed ≡ before.last_failed
  pub input : after.streams.input ≡ before.streams.input
  pub input_faults : after.streams.input_faults ≡ before.streams.input_faults
  pub log : after.streams.log ≡ before.streams.log
  pub log_faults : after.streams.log_faults ≡ before.streams.log_faults

-- the whole walk is written
pub record IsWhole (p : Stopped) (w : Work) : Type 0 where
  pub unbroken : (chain_in p).broken ≡ None
  pub output : Appends w.before.streams.output w.after.streams.output (walk_text p)
  pub faults : w.after.streams.output_faults ≡ w.before.streams.output_faults
  pub ends : Ends w [] Done

-- the chain breaks here, and what is before the break is written
pub record IsTorn (p : Stopped) (w : Work) : Type 0 where
  pub torn : TornAt
  pub broken : (chain_in p).broken ≡ Some (break_of torn)
  pub output : Appends w.before.streams.output w.after.streams.output (walk_text p)
  pub faults : w.after.streams.output_faults ≡ w.before.streams.output_faults
  pub ends : Ends w (outcome_line (outcome.Torn torn)) Torn

-- the output fails, and gets a front of the walk
pub record FailsToWalk (p : Stopped) (w : Work) : Type 0 where
  pub output : AppendsFront w.before.streams.output w.after.streams.output (walk_text p)
  pub faults : Rose w.before.streams.output_faults w.after.streams.output_faults
  pub ends : Ends w [] OutputFault

-- the files hold an image and a snapshot of a run of it, whose walk is written
pub record HasWalked (name snapshot : List ℕ) (w : Work) : Type 0 where
  pub program : Stopped
  pub no_image : w.image ≡ None
  pub spelled : HasBytes w.before.files name (λ bytes. SpellsImage bytes program.image)
  pub stopped : HasBytes w.before.files snapshot (λ bytes. SpellsSnapshot program.image bytes (taken_of program.regs program.memory))
  pub same : SameButOutput w.before w.after
  pub walked : IsWhole program w ⊎ (IsTorn program w ⊎ FailsToWalk program w)

-- the file holds an image, and the other one no snapshot of a run of it: this rule is the first that its bytes break, and nothing was done
pub record HasBadSnapshot (name snapshot : List ℕ) (w : Work) : Type 0 where
  pub image : ImageParts
  pub spelled : HasBytes w.before.files name (λ bytes. SpellsImage bytes image)
  pub rule : Rule
  pub offset : ℕ
  pub first : HasBytes w.before.files snapshot (λ bytes. IsFirstFault image bytes rule offset)
  pub nothing : DoesNothing w
  pub ends : Ends w (bad_snapshot_line rule offset) BadSnapshot

-- there is nothing to walk
abbrev pub CannotWalk : List ℕ → List ℕ → Work → Type 0
CannotWalk name snapshot w = HasBadSnapshot name snapshot w ⊎ (IsRefused name w ⊎ (FailsToRead (name ∷ snapshot ∷ []) w ⊎ RanOutOfMemory w))

abbrev pub Walks : List ℕ → List ℕ → Work → Type 0
Walks name snapshot w = HasWalked name snapshot w ⊎ CannotWalk name snapshot w
