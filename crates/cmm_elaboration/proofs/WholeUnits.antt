-- No name of accepted units, or of a procedure of them, is broken.
use Rattle.std.proofs.Common.{◌≡◌, ℕ, refl, true, List, [], Option, Some, None}
use Rattle.cmm_ast.specs.declared.procedure.Proc.{Proc as ProcTree}
use Rattle.cmm_static_semantics.specs.declared.sense.Sense.{Sense}
use Rattle.cmm_static_semantics.specs.declared.sense.Sense.TheVariants as meanings
use Rattle.cmm_static_semantics.specs.Senses.{Senses}
use Rattle.cmm_static_semantics.specs.Declarations.{Local, Variable, Room as RoomName, Label, Continuation, named_units, found}
use Rattle.cmm_static_semantics.specs.Linking.{program_of}
use Rattle.cmm_static_semantics.specs.Scopes.{Scope, local_sense, senses, unit_senses}
use Rattle.cmm_static_semantics.specs.Statements.{scope_of}
use Rattle.cmm_elaboration.specs.Fitting.{is_whole}
use Rattle.cmm_elaboration.specs.Laws.{NamesAreWhole}
use Rattle.cmm_elaboration.proofs.Everywhere.{all_at}
use Rattle.cmm_elaboration.proofs.UnitNames.{declared_there}
use Rattle.cmm_elaboration.proofs.Wide.{IsWide, unit_wide}
use Rattle.cmm_elaboration.proofs.Whole.{IsUnbroken}
use Rattle.cmm_elaboration.proofs.Settled.{unit_unbroken}

whole_by : (sense : Option Sense) → IsWide sense → IsUnbroken sense → is_whole sense ≡ true
whole_by (Some (meanings.Variable n (Some w))) h k = refl
whole_by (Some (meanings.Variable n None)) h k = absurd h
whole_by (Some (meanings.Register n (Some w))) h k = refl
whole_by (Some (meanings.Register n None)) h k = absurd h
whole_by (Some (meanings.Typedef (Some w))) h k = refl
whole_by (Some (meanings.Typedef None)) h k = absurd h
whole_by (Some (meanings.Value c)) h k = refl
whole_by (Some (meanings.Broken w)) h k = absurd k
whole_by (Some (meanings.Stackdata n)) h k = refl
whole_by (Some (meanings.Continuation n)) h k = refl
whole_by (Some meanings.CodeLabel) h k = refl
whole_by (Some (meanings.Host x)) h k = refl
whole_by None h k = refl

pub names_are_whole : NamesAreWhole
names_are_whole us accepted = let ns = named_units us in let program = program_of ns in
    all_at (λ u. (name : List ℕ) → is_whole (unit_senses program u.entries name) ≡ true) ns [] ns refl
    (λ before behind u is name. let none = declared_there us accepted before behind u is in
    whole_by (unit_senses program u.entries name) (unit_wide program u.entries none name) (unit_unbroken program u.entries none name))

-- ---- nor of a procedure, whose own names are variables, stackdata, labels and continuations

module _ (outer : Senses) (unbroken : (name : List ℕ) → IsUnbroken (outer name)) (tree : ProcTree) where
  abbrev s : Scope
  s = scope_of outer tree

  local_unbroken : (name : List ℕ) (l : Local) → IsUnbroken (Some (local_sense s name l))
  local_unbroken name (Variable t) = tt
  local_unbroken name RoomName = tt
  local_unbroken name Label = tt
  local_unbroken name Continuation = tt

  by_own : (name : List ℕ) (o : Option Local) → IsUnbroken (elim o as (λ x. Option Sense) [ Some l ↦ Some (local_sense s name l) | None ↦ outer name ])
  by_own name (Some l) = local_unbroken name l
  by_own name None = unbroken name

  pub scope_unbroken : (name : List ℕ) → IsUnbroken (senses s name)
  scope_unbroken name = by_own name (found name s.own)
