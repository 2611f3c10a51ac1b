-- What a node in range reads and writes is there.
use Rattle.std.proofs.Common.{◌≡◌, true, Contains, List, [], ◌∷◌, flat_map, refl, arith}
use Rattle.std.proofs.lemmas.Bool.{and_parts}
use Rattle.std.specs.List.{list_all}
use Rattle.cmm_program.proofs.Shared.{list_all_get}
use Rattle.cmm_program.specs.declared.procedure.Target.{Target}
use Rattle.cmm_program.specs.declared.procedure.Target.TheVariants as target
use Rattle.cmm_graph.specs.declared.graph.Graph.{Graph}
use Rattle.cmm_graph.specs.declared.number.Variable.{Variable}
use Rattle.cmm_graph.specs.declared.operand.Local.{Local}
use Rattle.cmm_graph.specs.declared.operand.Destination.TheVariants as destination
use Rattle.cmm_graph.specs.declared.node.HostCall.TheVariants.{PutByte, GetByte}
use Rattle.cmm_graph.specs.declared.node.NodeKind.{NodeKind}
use Rattle.cmm_graph.specs.declared.node.NodeKind.TheVariants.{Entry, CopyIn, Assign, Host}
use Rattle.cmm_graph.specs.Paths.{operands, reads, writes, written_by_variable, written_to}
use Rattle.cmm_graph.specs.Ranges.{is_kind, is_local, is_target, is_variable}
use Rattle.cmm_allocate.proofs.Members.{contained_at}
use Rattle.cmm_hoisted.proofs.Shared.{kind_operands, locals_read}

module _ (g : Graph) where
  -- ---- what is read

  pub reads_local : (kind : NodeKind) (l : Local) → is_kind g kind ≡ true → Contains (reads kind) l → is_local g l ≡ true
  reads_local kind l is has = locals_read g (operands kind) (kind_operands g kind is) l has

  -- ---- what is written

  formals_in : (formals : List Variable) → list_all (is_variable g) formals ≡ true → list_all (is_local g) (flat_map written_by_variable formals) ≡ true
  formals_in [] all = refl
  formals_in (v ∷ formals) all =
      let both = and_parts (is_variable g v) (list_all (is_variable g) formals) all in
      grind (arith, both.0, formals_in formals both.1)

  targets_in : (to : List Target) → list_all (is_target g) to ≡ true → list_all (is_local g) (flat_map written_to to) ≡ true
  targets_in [] all = refl
  targets_in (target.Variable number width ∷ to) all =
      let both = and_parts (is_target g (target.Variable number width)) (list_all (is_target g) to) all in
      grind (arith, both.0, targets_in to both.1)
  targets_in (target.Register number width ∷ to) all = targets_in to all

  writes_in : (kind : NodeKind) → is_kind g kind ≡ true → list_all (is_local g) (writes kind) ≡ true
  writes_in (Entry formals next) is = let all : list_all (is_variable g) formals ≡ true = grind (arith, is) in formals_in formals all
  writes_in (CopyIn to next) is = let all : list_all (is_target g) to ≡ true = grind (arith, is) in targets_in to all
  writes_in (Assign (destination.Target (target.Variable number width)) value next) is = grind (arith, is)
  writes_in (Assign (destination.Target (target.Register number width)) value next) is = refl
  writes_in (Assign (destination.Temporary t) value next) is = grind (arith, is)
  writes_in (Host (PutByte value) next) is = refl
  writes_in (Host (GetByte (target.Variable number width)) next) is = grind (arith, is)
  writes_in (Host (GetByte (target.Register number width)) next) is = refl
  writes_in kind is = refl

  pub writes_local : (kind : NodeKind) (l : Local) → is_kind g kind ≡ true → Contains (writes kind) l → is_local g l ≡ true
  writes_local kind l is has = let at = contained_at (writes kind) l has in list_all_get (is_local g) (writes kind) at.0 l (writes_in kind is) at.1
