-- Calls that have run a program did what the C-- machine does.
use Rattle.std.proofs.Common.{◌≡◌, ℕ, List, Option, Some, None, IfSome, refl, ap, sym, ◌∙◌, subst, arith}
use Rattle.std.specs.List.{All}
use Rattle.rv_table.specs.Machine as rv
use Rattle.cmm_outside.specs.Storage.{Contents, Writes}
use Rattle.cmm_script.specs.declared.script.Script.{Script}
use Rattle.cmm_program.specs.declared.program.Program.{Program}
use Rattle.cmm_program.specs.Memory.{IsByte}
use Rattle.cmm_image.specs.declared.parts.ImageParts.{ImageParts}
use Rattle.cmm_image.specs.Images.{SpellsImage}
use Rattle.cmm_image.specs.Laws.{ImagesAreOne}
use Rattle.cmm_compile.specs.Agreement.{AgreesWith, setting_of}
use Rattle.cmm_image_machine.specs.Machine.{launch_of}
use Rattle.cmm_run.specs.declared.outcome.Outcome.{Outcome}
use Rattle.cmm_run.specs.Outside.{Outside as Streams}
use Rattle.cmm_run.specs.Runs.{Runs}
use Rattle.cmm_command.specs.declared.command.RunLimits.{RunLimits}
use Rattle.cmm_top.specs.Generating.{usual_limits}
use Rattle.cmm_work.specs.Work.{no_script}
use Rattle.cmm_top_laws.specs.Calls.{CanRun, RunsOf}
use Rattle.cmm_top_laws.specs.Laws.{BuiltBytesRunSo, BuiltFilesRunSo, ExecIsTheMachine, GenIsTheMachine}
use Rattle.cmm_top_laws.proofs.Explaining.{runs_are_explained}

-- the input by which a run is explained has bytes
bytes_of : (left : Option (List ℕ)) (input : List ℕ) → IfSome left (All IsByte) → IfSome left (λ had. had ≡ input) → (left ≡ None → All IsByte input) → All IsByte input
bytes_of None input bytes told given = given refl
bytes_of (Some had) input bytes told given = subst (All IsByte) told bytes

-- the machine explains a run of an image that agrees with a program
runs_of : (p : Program) (i : ImageParts) (script : Script) (limits : RunLimits) (before after : Streams) (answer : Outcome) (stood : rv.State) → AgreesWith p i →
    CanRun limits before → Runs (launch_of i script limits.stack) limits.steps before after answer stood → RunsOf p i script limits before after answer stood
runs_of p i script limits before after answer stood agrees can ran =
    runs_are_explained (setting_of p i script limits.stack) (launch_of i script limits.stack) _ limits.steps before after answer stood ran
    (agrees.runs script limits.stack ran.input can.stack (bytes_of before.input ran.input can.bytes ran.told ran.bytes))

pub exec_is_the_machine : ExecIsTheMachine
exec_is_the_machine names client limits w can run = let units = run.agrees in record {
  program = units.2.program;
  means = (units.0, units.1, units.2.means);
  image = run.image;
  placed = units.2.agrees.placed;
  script = run.script;
  has_script = run.has_script;
  answer = run.ran.outcome;
  stood = run.ran.machine;
  explained = runs_of units.2.program run.image run.script limits w.before.streams w.after.streams run.ran.outcome run.ran.machine units.2.agrees can run.ran.runs;
  ends = run.ran.ends;
}

pub gen_is_the_machine : GenIsTheMachine
gen_is_the_machine number w bytes run = record {
  program = run.program;
  means = run.loaded.means;
  told = run.told;
  counts = run.counts;
  image = run.image;
  placed = run.loaded.agrees.placed;
  answer = run.ran.outcome;
  stood = run.ran.machine;
  explained = runs_of run.program run.image no_script usual_limits (record w.before.streams { log = run.told }) w.after.streams run.ran.outcome run.ran.machine run.loaded.agrees
      (record { stack = (refl, omega arith); bytes = bytes }) run.ran.runs;
  ends = run.ran.ends;
}

-- a file that was written has the bytes
written_has : (files now : Contents) (before after : Option Contents) (name bytes : List ℕ) → before ≡ Some files → after ≡ Some now → Writes before after name (λ _. bytes) → now name ≡ Some bytes
written_has files now None after name bytes is then written = absurd (cc is)
written_has files now (Some other) after name bytes is then written =
    let there : Some now ≡ Some written.now = sym then ∙ written.told in let same : now ≡ written.now = cc there in
    ap (λ (f : Contents). f name) same ∙ written.named

-- what files hold, where they tell it
holds_told : (later : Contents) (files : Option Contents) (name bytes : List ℕ) → files ≡ Some later → IfSome files (λ f. f name ≡ Some bytes) → later name ≡ Some bytes
holds_told later None name bytes is told = absurd (cc is)
holds_told later (Some f) name bytes is told = let same : later ≡ f = cc (sym is) in ap (λ (g : Contents). g name) same ∙ told

pub built_bytes_run_so : ImagesAreOne → BuiltBytesRunSo
built_bytes_run_so one names to from client limits save built ran can made run bytes =
    let units = made.are.agrees in
    let image : made.are.image ≡ run.image = one run.spelled.0 made.are.image run.image (subst (λ (bs : List ℕ). SpellsImage bs made.are.image) bytes made.are.spelled) run.spelled.2 in
    record {
      program = units.2.program;
      means = (units.0, units.1, units.2.means);
      image = run.image;
      placed = (subst (λ (i : ImageParts). AgreesWith units.2.program i) image units.2.agrees).placed;
      script = run.script;
      has_script = run.has_script;
      answer = run.outcome;
      stood = run.machine;
      explained = runs_of units.2.program run.image run.script limits ran.before.streams ran.after.streams run.outcome run.machine
          (subst (λ (i : ImageParts). AgreesWith units.2.program i) image units.2.agrees) can run.runs;
      saves = run.saves;
    }

pub built_files_run_so : BuiltBytesRunSo → BuiltFilesRunSo
built_files_run_so so names name client limits save built ran can files told made now later is_now is_later same run =
    let here = written_has files now _ _ name made.bytes told is_now made.written in
    let there = holds_told later _ name run.spelled.0 is_later run.spelled.1 in
    let bytes : made.bytes ≡ run.spelled.0 = cc (sym here ∙ sym same ∙ there) in
    so names name name client limits save built ran can made run bytes
