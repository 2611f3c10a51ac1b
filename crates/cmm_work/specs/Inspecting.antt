-- What `segments` promises: how long the code and the data of an ELF file are and where it starts; or there is a cause why not. Nothing is done but to read it and to say so.
use Rattle.std.specs.Prelude.{◌⊎◌, ℕ, List, [], ◌∷◌, length}
use Rattle.cmm_elf.specs.ElfFiles.{IsFirstFault, SpellsElf}
use Rattle.cmm_elf.specs.declared.segments.Segments.{Segments}
use Rattle.cmm_rules.specs.declared.rule.Rule.{Rule}
use Rattle.cmm_work.specs.declared.status.Status.TheVariants.{BadElf, Done}
use Rattle.cmm_work.specs.Files.{FailsToRead, HasBytes}
use Rattle.cmm_work.specs.Lines.{bad_elf_line, segments_line}
use Rattle.cmm_work.specs.Work.{DoesNothing, Ends, RanOutOfMemory, Work}

-- the file is the ELF file of these segments, and the line tells of them
pub record HasInspected (name : List ℕ) (w : Work) : Type 0 where
  pub segments : Segments
  pub spelled : HasBytes w.before.files name (λ bytes. SpellsElf bytes segments)
  pub nothing : DoesNothing w
  pub ends : Ends w (segments_line (length segments.code) (length segments.initial) segments.entry) Done

-- the file is no ELF file of an image: this rule is the first that its bytes break
pub record IsNoElfFile (name : List ℕ) (w : Work) : Type 0 where
  pub rule : Rule
  pub offset : ℕ
  pub first : HasBytes w.before.files name (λ bytes. IsFirstFault bytes rule offset)
  pub nothing : DoesNothing w
  pub ends : Ends w (bad_elf_line rule offset) BadElf

-- there is nothing to tell of
abbrev pub CannotInspect : List ℕ → Work → Type 0
CannotInspect name w = IsNoElfFile name w ⊎ (FailsToRead (name ∷ []) w ⊎ RanOutOfMemory w)

abbrev pub Inspects : List ℕ → Work → Type 0
Inspects name w = HasInspected name w ⊎ CannotInspect name w
