use Rattle.std.proofs.Common.{◌≡◌, ◌++◌, ◌∷◌, ◌∙◌, List, [], Option, map, ap, refl, subst, sym}
use Rattle.std.proofs.lemmas.List.{map-append}
use Rattle.std.specs.Prelude.{flat_map}
use Rattle.std.proofs.Math.Path.{fun_ext}
use Rattle.cmm_words.specs.declared.width.Width.{Width}
use Rattle.cmm_ast.specs.declared.expression.TypeName.{TypeName}
use Rattle.cmm_static_semantics.specs.Declarations.{Declared, NamedUnit}
use Rattle.cmm_static_semantics.specs.Judging.{if_ok}
use Rattle.cmm_static_semantics.specs.Scopes.{width_in}
use Rattle.cmm_static_semantics.specs.Spots.{first_of}
use Rattle.cmm_static_semantics.specs.Typing.{type_width}
use Rattle.cmm_static_semantics.specs.declared.sense.Sense.{Sense}
use Rattle.cmm_typing.specs.Fitting.{AreWords}
use Rattle.cmm_unit_scope.specs.Senses.{senses_by}
use Rattle.cmm_linkage.specs.Registers.{registers_in, register_shown}
use Rattle.cmm_unit_scope.specs.Types.{senses_of as types_senses}
use Rattle.cmm_check_units.specs.inside.Flat.{flat_links, flat_named, flat_widths, links_before, register_spots_by, widths_before, widths_by}
use Rattle.cmm_check_units.specs.inside.Linked.{AreFound}
use Rattle.cmm_check_units.specs.inside.Totals.{AreSums}
use Rattle.cmm_check_units.specs.inside.Units.{unit_flat}
use Rattle.cmm_check_units.proofs.Links.{AreLinks-of, before_plus}
use Rattle.cmm_check_units.proofs.Checked.{noted_unit}
use Rattle.cmm_check_units.proofs.Known.{senses_next}
use Rattle.cmm_check_units.proofs.unit.first_broken.Goals as goal

pub note_entries-requires : goal.note_entries-requires
note_entries-requires c = subst (λ (ss : List Sense). AreWords (senses_by (unit_flat c.args.unit.now).entries ss)) (sym c.as_slice-senses.ensures) c.in_ok-meanings.ensures.fits

pub note_items-requires : goal.note_items-requires
note_items-requires c = subst (λ (ss : List Sense). AreWords (senses_by (unit_flat c.args.unit.now).entries ss)) (sym c.as_slice-senses.ensures) c.in_ok-meanings.ensures.fits

pub note_and_count-requires : goal.note_and_count-requires
note_and_count-requires c = subst (λ (ss : List Sense). AreWords (senses_by (unit_flat c.args.unit.now).entries ss)) (sym c.as_slice-senses.ensures) c.in_ok-meanings.ensures.fits

pub returns-clause-best : goal.returns-clause-best
returns-clause-best c = λ before. λ earlier.
    let w : TypeName → Option Width = λ t. if_ok (type_width (types_senses c.in_ok-types.types) t) in
    noted_unit c.args.linkage.now before (unit_flat c.args.unit.now) c.in_ok-best.best c.note_entries.new.best c.note_items.new.best c.note_registers.new.best c.note_cycles.new.best c.note_and_count.new.best
    (senses_by (unit_flat c.args.unit.now).entries c.as_slice-senses.result.now) w
    (ap (senses_by (unit_flat c.args.unit.now).entries) c.as_slice-senses.ensures ∙ fun_ext c.in_ok-meanings.ensures.senses)
    (fun_ext c.in_ok-types.ensures.widths)
    (c.in_ok-best.ensures.best (links_before before) earlier.links)
    (rw c.as_slice-declared.ensures at c.note_entries.ensures)
    (rw c.things-things.ensures at c.note_items.ensures)
    (c.note_registers.ensures (widths_before before) earlier.registers
    ∙ ap (λ (rs : List (Declared TypeName)). first_of c.note_items.new.best (flat_map (register_spots_by (widths_before before) w) rs))
    (ap (map register_shown) c.as_slice.ensures ∙ c.in_ok-registers.ensures))
    (rw c.as_slice-declared.ensures at c.in_ok-note_cycles.ensures)
    c.in_ok-note_and_count.ensures.best

pub returns-clause-earlier : goal.returns-clause-earlier
returns-clause-earlier c = λ before. λ earlier.
    let f = unit_flat c.args.unit.now in
    let w : TypeName → Option Width = λ t. if_ok (type_width (types_senses c.in_ok-types.types) t) in
    let same : w ≡ width_in f.entries = fun_ext c.in_ok-types.ensures.widths in record {
      links = AreLinks-of c.first_of_names.new.links (links_before before ++ flat_links f) (links_before (before ++ f ∷ [])) (sym (before_plus flat_links before f))
          (c.in_ok-best.ensures.links (links_before before) earlier.links);
      registers = subst (λ (q : List (Declared (Option Width))). AreFound c.add_registers.new.earlier q)
          (ap (λ t. widths_before before ++ t)
          (ap (λ (rs : List (Declared TypeName)). widths_by w rs) (ap (map register_shown) c.as_slice-2.ensures ∙ c.in_ok-registers.ensures)
          ∙ ap (λ (v : TypeName → Option Width). widths_by v (registers_in f.entries)) same)
          ∙ sym (before_plus flat_widths before f))
          (c.in_ok-add_registers.ensures (widths_before before) earlier.registers);
      senses = senses_next c.args.linkage.now before f c.args.earlier.now.senses c.push.new.self c.in_ok-meanings.meanings c.in_ok-push.ensures.ok
          (record { means = fun_ext c.in_ok-meanings.ensures.senses; words = c.in_ok-meanings.ensures.fits }) earlier.senses;
      sums = subst (λ (us : List NamedUnit). AreSums c.args.linkage.now us c.note_and_count.new.sums) (sym (map-append flat_named before (f ∷ [])))
          (c.in_ok-note_and_count.ensures.sums c.args.linkage.now (map flat_named before) (flat_named f) refl refl
          (ap (senses_by f.entries) c.as_slice-senses.ensures ∙ fun_ext c.in_ok-meanings.ensures.senses) earlier.sums);
    }
