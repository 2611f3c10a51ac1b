use Rattle.std.proofs.Common.{◌∙◌, None, ap}
use Rattle.cmm_static_semantics.specs.Spots.{first_of}
use Rattle.cmm_symbols.proofs.Shared.{again_shown}
use Rattle.cmm_linkage.specs.Exports.{exported_links}
use Rattle.cmm_check_units.specs.inside.Units.{unit_flat}
use Rattle.cmm_check_units.proofs.Checked.{noted_names}
use Rattle.cmm_check_units.proofs.unit.first_of_names.Goals as goal

pub returns-clause-links : goal.returns-clause-links
returns-clause-links c = λ before. λ links. rw c.as_slice-exports.ensures at c.in_ok-note_twice.ensures.links before links

pub returns-clause-best : goal.returns-clause-best
returns-clause-best c = λ before. λ links.
    noted_names (exported_links c.args.linkage.now) before (unit_flat c.args.unit.now) c.args.unit.now.repeated c.note_hosts.new.best c.note_exports.new.best c.note_twice.new.best c.note_imports.new.best c.note_targets.new.best
    c.note_things.new.best
    (c.args.unit.now.noted ∙ ap (first_of None) (again_shown c.args.unit.now.table.declared))
    (rw c.as_slice-declared.ensures at c.note_hosts.ensures)
    (rw c.as_slice-exports.ensures at c.note_exports.ensures)
    (rw c.as_slice-exports.ensures at c.in_ok-note_twice.ensures.best before links)
    (rw c.as_slice-declared.ensures at c.note_imports.ensures)
    (rw c.things-things.ensures at c.note_targets.ensures)
    (rw c.things-things.ensures at c.in_ok-note_things.ensures)
