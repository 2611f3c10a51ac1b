-- Which procedures fit a program.
use Rattle.std.specs.Prelude.{◌≡◌, ℕ, List, []}
use Rattle.std.specs.List.{All}
use Rattle.cmm_ast.specs.declared.procedure.Proc.{Proc as ProcTree}
use Rattle.cmm_ast.specs.declared.unit.Item.TheVariants as items
use Rattle.cmm_ast.specs.declared.unit.Unit.{Unit as UnitTree}
use Rattle.cmm_program.specs.declared.program.Program.{Program}
use Rattle.cmm_program.specs.InRange.{IsProcInRange}
use Rattle.cmm_static_semantics.specs.Declarations.{named_units}
use Rattle.cmm_static_semantics.specs.Faults.{AreAccepted, item_procedure_spots}
use Rattle.cmm_static_semantics.specs.Items.{SpanTree}
use Rattle.cmm_static_semantics.specs.Linking.{program_of}
use Rattle.cmm_static_semantics.specs.Scopes.{unit_senses}
use Rattle.cmm_static_semantics.specs.Senses.{Senses}
use Rattle.cmm_elaboration.specs.Laws.{AreRead, TextsAreBytes}
use Rattle.cmm_elaboration.specs.Procedures.{procedure_of}
use Rattle.cmm_lower.specs.Fitting.{ItemFits, ProcFits}

-- one that breaks no rule, where what it means is in range, as in the program of accepted units
abbrev pub ProceduresFit : Type 0
ProceduresFit = (p : Program) (outer : Senses) (unit : ℕ) (around : List SpanTree) (tree : ProcTree) → item_procedure_spots outer (items.Proc tree) ≡ [] →
    IsProcInRange p (procedure_of outer unit around tree) → ProcFits outer tree

-- and those of accepted units, which derive as many tokens as they have places for, and whose texts are of bytes
abbrev pub UnitsFit : Type 0
UnitsFit = (us : List UnitTree) → AreAccepted us → AreRead us → TextsAreBytes us → let program = program_of (named_units us) in
    All (λ u. All (λ i. ItemFits (unit_senses program u.entries) i.what) u.items) (named_units us)
