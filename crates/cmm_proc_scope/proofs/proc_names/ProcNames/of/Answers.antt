use Rattle.std.proofs.Common.{[], ◌++◌, map, None, ap, ◌∙◌}
use Rattle.std.specs.Prelude.{flat_map}
use Rattle.cmm_static_semantics.specs.Declarations.{again, formal_name, part_names}
use Rattle.cmm_static_semantics.specs.Limits.{local_rooms}
use Rattle.cmm_static_semantics.specs.Spots.{first_of}
use Rattle.cmm_symbols.specs.Shown.{piece_part}
use Rattle.cmm_proc_scope.specs.Owned.{local_declared, own_declared}
use Rattle.cmm_proc_scope.specs.inside.Variables.{variable_names}
use Rattle.cmm_proc_scope.proofs.NumberLaws.{again_own}
use Rattle.cmm_proc_scope.proofs.proc_names.ProcNames.of.Goals as goal

pub invariant_of-result : goal.invariant_of-result
invariant_of-result c =
    let parts = ap (map piece_part) c.as_slice-2.ensures ∙ c.in_ok-pieces.ensures in
    let names = c.in_ok-numbered.ensures.declared ∙ ap (map local_declared) c.as_slice-3.ensures ∙ c.in_ok-declared.ensures
    ∙ ap (λ fs. map formal_name fs ++ flat_map part_names (map piece_part c.as_slice-2.result.now)) c.as_slice.ensures
    ∙ ap (λ ps. map formal_name c.args.proc.now.formals ++ flat_map part_names ps) parts in
    record {
      parts = c.in_ok-pieces.ensures;
      names = ap (map own_declared) c.in_ok-table.ensures.declared ∙ names;
      variables = c.in_ok-variables.ensures ∙ ap variable_names (ap (map own_declared) (c.as_slice-4.ensures ∙ c.in_ok-table.ensures.declared) ∙ names);
      rooms = c.in_ok-rooms.ensures ∙ ap (flat_map local_rooms) (ap (map piece_part) c.as_slice-5.ensures ∙ c.in_ok-pieces.ensures);
      again = c.in_ok-table.ensures.again ∙ ap (first_of None) (again_own c.in_ok-numbered.numbered ∙ ap (again []) names);
    }
