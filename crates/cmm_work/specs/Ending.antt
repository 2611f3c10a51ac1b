-- What a call comes to, before a line is written and after.
use Rattle.std.specs.Prelude.{◌≡◌, ◌⊎◌, ℕ, List, [], Option, Some}
use Rattle.cmm_image.specs.declared.parts.ImageParts.{ImageParts}
use Rattle.cmm_outside.specs.Faults.{Rose}
use Rattle.cmm_outside.specs.Output.{Appends, AppendsFront}
use Rattle.cmm_rules.specs.declared.rule.Rule.TheVariants.{ScriptTooLong}
use Rattle.cmm_script.specs.Faults.{IsFirstFault}
use Rattle.cmm_work.specs.declared.ending.Ending.{Ending}
use Rattle.cmm_work.specs.declared.ending.Ending.TheVariants.{Usage, Refused, BadImage, BadScript, BadSnapshot, BadElf, FileFault, OutputFault, OutOfMemory, Written, Walked, Inspected, Ran}
use Rattle.cmm_work.specs.declared.reading.FileBytes.{FileBytes}
use Rattle.cmm_work.specs.declared.reading.FileBytes.TheVariants.{Whole, TooLong}
use Rattle.cmm_work.specs.declared.reading.ReadFault.{ReadFault}
use Rattle.cmm_work.specs.declared.reading.ReadFault.TheVariants as read_fault
use Rattle.cmm_work.specs.declared.status.Status.{Status}
use Rattle.cmm_work.specs.declared.status.Status.TheVariants as status
use Rattle.cmm_work.specs.Standing.{Outside}
use Rattle.cmm_work.specs.Lines.{bad_elf_line, bad_image_line, bad_script_line, bad_snapshot_line, file_fault_line, memory_line, outcome_line, refused_line, segments_line, usage_line}
use Rattle.cmm_work.specs.Status.{status_of}
use Rattle.cmm_work.specs.Work.{Work}

abbrev pub line_of : Ending → List ℕ
line_of Usage = usage_line
line_of (Refused name fault) = refused_line name.now fault
line_of (BadImage rule offset) = bad_image_line rule offset
line_of (BadScript rule line) = bad_script_line rule line
line_of (BadSnapshot rule offset) = bad_snapshot_line rule offset
line_of (BadElf rule offset) = bad_elf_line rule offset
line_of (FileFault name) = file_fault_line name.now
line_of OutputFault = []
line_of OutOfMemory = memory_line
line_of Written = []
line_of Walked = []
line_of (Inspected code initial start) = segments_line code initial start
line_of (Ran outcome) = outcome_line outcome

abbrev pub status_at : Ending → Status
status_at Usage = status.Usage
status_at (Refused name fault) = status.Refused
status_at (BadImage rule offset) = status.BadImage
status_at (BadScript rule line) = status.BadScript
status_at (BadSnapshot rule offset) = status.BadSnapshot
status_at (BadElf rule offset) = status.BadElf
status_at (FileFault name) = status.FileFault
status_at OutputFault = status.OutputFault
status_at OutOfMemory = status.Memory
status_at Written = status.Done
status_at Walked = status.Done
status_at (Inspected code initial start) = status.Done
status_at (Ran outcome) = status_of outcome

-- the work that ends so, between these
abbrev pub work_of : Ending → Option ImageParts → Outside → Outside → Work
work_of ending image before after = record { before = before; after = after; image = image; line = line_of ending; status = status_at ending }

-- why files were not read
abbrev pub IsUnread : ReadFault → Ending → Type 0
IsUnread (read_fault.Failed name) ending = ending ≡ FileFault name
IsUnread read_fault.Memory ending = ending ≡ OutOfMemory

-- why there is no script in what was read
abbrev pub IsRefusedScript : Option FileBytes → Ending → Type 0
IsRefusedScript (Some (Whole read)) (BadScript rule line) = IsFirstFault read.items rule line
IsRefusedScript (Some TooLong) (BadScript rule line) = (rule ≡ ScriptTooLong) × (line ≡ 1)
IsRefusedScript read OutOfMemory = Unit {0}
IsRefusedScript _ _ = ⊥

-- The line was written, and the status is the ending's; or the log failed, a front of the line was written, and the status says that.
abbrev pub Closes : Ending → Option (List ℕ) → Option (List ℕ) → ℕ → ℕ → Status → Type 0
Closes ending before after faults_before faults_after answer =
    ((answer ≡ status_at ending) × Appends before after (line_of ending) × (faults_after ≡ faults_before))
    ⊎ ((answer ≡ status.OutputFault) × AppendsFront before after (line_of ending) × Rose faults_before faults_after)
