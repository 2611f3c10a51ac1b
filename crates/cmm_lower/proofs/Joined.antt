-- The program of units from its parts.
use Rattle.std.proofs.Common.{◌≡◌, ℕ, refl, ap, ◌∙◌, List, map}
use Rattle.std.specs.Prelude.{codes}
use Rattle.cmm_program.specs.declared.procedure.Proc.{Proc}
use Rattle.cmm_program.specs.declared.program.Datum.{Datum}
use Rattle.cmm_program.specs.declared.program.Global.{Global}
use Rattle.cmm_program.specs.declared.program.Label.{Label}
use Rattle.cmm_program.specs.declared.program.Program.{Program}
use Rattle.cmm_static_semantics.specs.Declarations.{NamedUnit}
use Rattle.cmm_static_semantics.specs.Linking.{Program as Linked, published_as}
use Rattle.cmm_elaboration.specs.Meaning.{global_of, procedure_number, program_by}
use Rattle.cmm_lower.specs.inside.Made.{AreParts}

pub program_is : (program : Linked) (us : List NamedUnit) (procs : List Proc) (datums : List Datum) (globals : List Global) (labels : List Label) (main : ℕ) (names : List (List ℕ)) →
    AreParts program us (record { procs = procs; datums = datums; labels = labels }) → names ≡ program.registers → globals ≡ map (global_of us) names →
    main ≡ procedure_number (published_as (codes "main") program.exports) →
    ◌≡◌ {A = Program} (record { procs = procs; datums = datums; globals = globals; labels = labels; main = main }) (program_by program us)
program_is program us procs datums globals labels main names are registers widths start =
    rw (are.procs, are.datums, widths ∙ ap (map (global_of us)) registers, are.labels, start) refl
