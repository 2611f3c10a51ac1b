-- The line that closes the log, with the byte 10 at its end.
use Rattle.std.specs.Prelude.{ℕ, List, [], ◌++◌, codes, decimal}
use Rattle.cmm_static_semantics.specs.declared.fault.Fault.{Fault}
use Rattle.cmm_report.specs.Texts.{address_text}
use Rattle.cmm_rules.specs.declared.rule.Rule.{Rule}
use Rattle.cmm_rules.specs.Rules.{rule_number, rule_text}
use Rattle.cmm_run.specs.declared.outcome.Outcome.{Outcome}
use Rattle.cmm_run.specs.declared.outcome.Outcome.TheVariants.{Done, Stopped, StackLimit, StepLimit, Trap, InputFault, OutputFault, Torn}
use Rattle.rv_table.specs.Traps.{trap_number}

abbrev pub usage_line : List ℕ
usage_line = codes "usage\n"

-- a unit that breaks a rule, by the name of its file, and where
abbrev pub refused_line : List ℕ → Fault → List ℕ
refused_line name fault =
    name ++ (codes ":" ++ (decimal fault.line ++ (codes ":" ++ (decimal fault.column ++ (codes ": " ++ (decimal (rule_number fault.rule) ++ (codes " " ++ (rule_text fault.rule ++ codes "\n"))))))))

-- a file that holds no image, by the rule that its bytes break first, and where
abbrev pub bad_image_line : Rule → ℕ → List ℕ
bad_image_line rule offset = codes "bad image " ++ (decimal (rule_number rule) ++ (codes " at " ++ (decimal offset ++ codes "\n")))

-- a file that holds no snapshot of a run of an image
abbrev pub bad_snapshot_line : Rule → ℕ → List ℕ
bad_snapshot_line rule offset = codes "bad snapshot " ++ (decimal (rule_number rule) ++ (codes " at " ++ (decimal offset ++ codes "\n")))

-- a file that is no ELF file of an image
abbrev pub bad_elf_line : Rule → ℕ → List ℕ
bad_elf_line rule offset = codes "bad elf " ++ (decimal (rule_number rule) ++ (codes " at " ++ (decimal offset ++ codes "\n")))

-- a file that holds no script of a client, by the rule that its bytes break first, and in which line
abbrev pub bad_script_line : Rule → ℕ → List ℕ
bad_script_line rule line = codes "bad script " ++ (decimal (rule_number rule) ++ (codes " line " ++ (decimal line ++ codes "\n")))

abbrev pub file_fault_line : List ℕ → List ℕ
file_fault_line name = codes "file fault " ++ (name ++ codes "\n")

abbrev pub memory_line : List ℕ
memory_line = codes "out of memory\n"

-- that of a run; one that ends for a fault of output or log has none
abbrev pub outcome_line : Outcome → List ℕ
outcome_line (Done value) = codes "result " ++ (decimal value ++ codes "\n")
outcome_line Stopped = codes "stopped\n"
outcome_line StackLimit = codes "stack limit\n"
outcome_line StepLimit = codes "step limit\n"
outcome_line (Trap trap) = codes "trap " ++ (decimal (trap_number trap.kind) ++ (codes " at " ++ (address_text trap.pc ++ codes "\n")))
outcome_line InputFault = codes "input fault\n"
outcome_line OutputFault = []
outcome_line (Torn torn) = codes "torn " ++ (address_text torn.frame ++ (codes " " ++ (address_text torn.address ++ codes "\n")))

-- an ELF file: how many bytes its code and its data have, and the address at which it starts
abbrev pub segments_line : ℕ → ℕ → ℕ → List ℕ
segments_line code initial start = codes "code " ++ (decimal code ++ (codes " data " ++ (decimal initial ++ (codes " start " ++ (address_text start ++ codes "\n")))))
