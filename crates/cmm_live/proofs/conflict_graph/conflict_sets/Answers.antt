use Rattle.std.proofs.Common.{List, Bool, sym, ◌∙◌, subst}
use Rattle.cmm_live.specs.inside.Unions.{AreSized}
use Rattle.cmm_live.proofs.ConflictGraphs.{sets_made, sized_sites}
use Rattle.cmm_live.proofs.Gathering.{sized_of}
use Rattle.cmm_live.proofs.conflict_graph.conflict_sets.Goals as goal

pub rows_of_writes-requires-clause-sized : goal.rows_of_writes-requires-clause-sized
rows_of_writes-requires-clause-sized c =
    subst (λ (s : List (List Bool)). AreSized c.args.g.now s) (sym c.as_slice.ensures) (sized_of c.args.g.now c.args.live.now.before c.requires.live.before)

pub add_sites-requires-clause-sized : goal.add_sites-requires-clause-sized
add_sites-requires-clause-sized c k d low =
    sized_sites c.args.g.now c.args.live.now c.requires.live c.as_slice-2.result.now c.as_slice-2.ensures k d low ∙ sym c.in_ok-sets.ensures.are_rows.size

pub returns : goal.returns
returns c = sets_made c.args.g.now c.args.live.now c.as_slice.result.now c.as_slice-2.result.now c.in_ok-sets.sets.items c.add_sites.new.rows.items
    c.as_slice.ensures c.as_slice-2.ensures c.in_ok-sets.ensures c.in_ok-add_sites.ensures
