-- What is known of a procedure that is laid flat, by its tree.
use Rattle.std.specs.Prelude.{◌≡◌, [], flat_map, map, None}
use Rattle.cmm_static_semantics.specs.Declarations.{again, own_names}
use Rattle.cmm_static_semantics.specs.Items.{parts_of}
use Rattle.cmm_static_semantics.specs.Limits.{local_rooms, variables}
use Rattle.cmm_static_semantics.specs.Spots.{first_of}
use Rattle.cmm_symbols.specs.Shown.{piece_part}
use Rattle.cmm_proc_scope.specs.Owned.{own_declared}
use Rattle.cmm_proc_scope.specs.declared.proc_names.ProcNames.TheInside.{Inside}

-- the pieces of its body, the names that it declares, the first of them that it declares again, its variables and its stackdata
pub record IsLaidFlat (p : Inside) : Type 0 where
  pub parts : map piece_part p.pieces ≡ parts_of p.proc.now.body
  pub names : map own_declared p.own.table.declared ≡ own_names p.proc.now
  pub again : p.repeated ≡ first_of None (again [] (own_names p.proc.now))
  pub variables : map (λ v. v.now) p.variables ≡ map (λ d. d.name) (variables p.proc.now)
  pub rooms : map (λ r. r.now) p.rooms ≡ flat_map local_rooms (parts_of p.proc.now.body)
