-- What is noted of a procedure: its faults, and then what it has past a limit; and that nothing is noted of other items.
use Rattle.std.proofs.Common.{◌≡◌, List, ◌++◌, Option, append-nil, ap, refl, sym, ◌∙◌}
use Rattle.std.specs.Prelude.{flat_map}
use Rattle.cmm_ast.specs.declared.procedure.Proc.{Proc}
use Rattle.cmm_ast.specs.declared.unit.Item.{Item}
use Rattle.cmm_ast.specs.declared.unit.Item.TheVariants as items
use Rattle.cmm_static_semantics.specs.declared.spot.Spot.{Spot}
use Rattle.cmm_static_semantics.specs.Faults.{item_procedure_spots}
use Rattle.cmm_static_semantics.specs.Limits.{proc_limits}
use Rattle.cmm_static_semantics.specs.Senses.{Senses}
use Rattle.cmm_static_semantics.specs.Spots.{first_of}
use Rattle.cmm_static_semantics.specs.Statements.{proc_spots}
use Rattle.cmm_static_semantics.proofs.Shared.{first_of_append}
use Rattle.cmm_proc_scope.specs.Procs.{item_procs}

joined : (b0 b1 b2 : Option Spot) (xs ys : List Spot) → b1 ≡ first_of b0 xs → b2 ≡ first_of b1 ys → b2 ≡ first_of b0 (xs ++ ys)
joined b0 b1 b2 xs ys first then_ = then_ ∙ ap (λ b. first_of b ys) first ∙ sym (first_of_append b0 xs ys)

pub proc_noted : (names : Senses) (p : Proc) (b0 b1 b2 : Option Spot) → b1 ≡ first_of b0 (proc_spots names p) → b2 ≡ first_of b1 (proc_limits names p) →
    b2 ≡ first_of b0 (item_procedure_spots names (items.Proc p))
proc_noted names p b0 b1 b2 first then_ = joined b0 b1 b2 (proc_spots names p) (proc_limits names p) first then_

pub procedures_alone : (names : Senses) (i : Item) → item_procedure_spots names i ≡ flat_map (λ p. item_procedure_spots names (items.Proc p)) (item_procs i)
procedures_alone names (items.Proc p) = sym (append-nil (item_procedure_spots names (items.Proc p)))
procedures_alone names (items.Decl d) = refl
procedures_alone names (items.Datum d) = refl
procedures_alone names (items.Span' first key value size inside) = refl
